use Rattle.std.proofs.Common.{◌≡◌, ◌∙◌, ap, arith, Some, subst, suc, sym, refl, get_or, length, map, take}
use Rattle.std.proofs.Math.Seq.{take-length}
use Rattle.ray_chains.specs.Keeping.{IsKept}
use Rattle.ray_hazards.specs.Carrying.{AreLimited}
use Rattle.ray_hazards.proofs.Carrying.{kept-thing, limits-made, limits-more, made_of}
use Rattle.ray_hazards.proofs.carried.Carried.limits.Goals as goal

pub loop-maker-init : goal.loop-maker-init
loop-maker-init c = record {
  makers = ap (map made_of) c.new-limits.ensures.items;
  limits = λ a source queue ids are event direct named chains is.
      subst (AreLimited a source queue (suc c.args.n)) (sym c.new-limits.ensures.items)
      (λ k d below. absurd (omega (arith, below)));
}

pub loop-maker-preserved : goal.loop-maker-preserved
loop-maker-preserved c = record {
  makers =
      limits-made c.loop-maker.limits.items c.push.new.self.items _ c.args.makers.now c.loop-maker.maker-index _
      c.loop-maker-test.true refl c.in_ok-push.ensures.items c.loop-maker.invariant.makers;
  limits = λ a source queue ids are event direct named chains is.
      let made = get_or c.args.makers.now c.loop-maker.maker-index 0 in
      limits-more a source queue (suc c.args.n) c.loop-maker.limits.items c.push.new.self.items
      (record { made = made; over = c.limited-over.result }) c.in_ok-push.ensures.items
      (c.loop-maker.invariant.limits a source queue ids are event direct named chains is)
      (c.limited-over.ensures.kept (a.acts (Some made)) a.events source queue (Some ids) (are.over (Some made)) is.all
      (subst (IsKept (a.acts (Some made)) a.events source queue c.args.n) (sym c.kept-kept.ensures)
      (kept-thing a source queue c.args.n c.args.self.now (Some made) are is))
      chains event (named.each c.loop-maker.maker-index 0 c.loop-maker-test.true) direct);
}

pub returns-clause-makers : goal.returns-clause-makers
returns-clause-makers c =
    let after = c.loop-maker-test.false in
    let within = c.loop-maker.auto.maker-index-end in
    let makers = c.args.makers.now in
    let same : c.loop-maker.maker-index ≡ length makers = omega arith in
    c.loop-maker.invariant.makers ∙ subst (λ j. take j makers ≡ makers) (sym same) (take-length makers)

pub returns-clause-limits : goal.returns-clause-limits
returns-clause-limits c = c.loop-maker.invariant.limits
