use Rattle.std.proofs.Common.{◌≡◌, ◌∙◌, arith, length, refl, subst, sym, take}
use Rattle.std.specs.BTreeMap.{get}
use Rattle.std.specs.Ordering.{nat_cmp}
use Rattle.std.proofs.Math.Seq.{take-length}
use Rattle.ray_hazards.specs.Carrying.{put_all}
use Rattle.ray_hazards.proofs.Carrying.{put-next}
use Rattle.ray_hazards.proofs.carried.Carried.put.Goals as goal

pub loop-limit-init : goal.loop-limit-init
loop-limit-init c = record { all = refl; put = λ made. refl }

pub returns-in_err-insert-clause-all : goal.returns-in_err-insert-clause-all
returns-in_err-insert-clause-all c = c.loop-limit.invariant.all

pub loop-limit-preserved : goal.loop-limit-preserved
loop-limit-preserved c = record {
  all = c.loop-limit.invariant.all;
  put = λ made.
      put-next c.args.limits.now c.loop-limit.limit-index _ (get nat_cmp c.args.self.now.overrides) made _ _
      (c.in_ok-insert.ensures.updates.0 made) c.loop-limit-test.true (c.loop-limit.invariant.put made);
}

pub returns-clause-all : goal.returns-clause-all
returns-clause-all c = c.loop-limit.invariant.all

pub returns-clause-put : goal.returns-clause-put
returns-clause-put c = λ made.
    let limits = c.args.limits.now in
    let after = c.loop-limit-test.false in
    let within = c.loop-limit.auto.limit-index-end in
    let same : c.loop-limit.limit-index ≡ length limits = omega arith in
    c.loop-limit.invariant.put made
    ∙ (λ i. put_all
    (subst (λ j. take j limits ≡ limits) (sym same) (take-length limits) i)
    (get nat_cmp c.args.self.now.overrides) made)
