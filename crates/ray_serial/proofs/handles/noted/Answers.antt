use Rattle.std.proofs.Common.{ℕ, Option, None, get_or, sym, ap, subst, ◌∙◌, arith, below_more}
use Rattle.ray_top.specs.declared.instance.Instance.{Instance}
use Rattle.ray_top.specs.Instances.{InstanceValue, told_instance}
use Rattle.ray_serial.specs.TopWritten.{with_handle, handles_of, FitsTold}
use Rattle.std.proofs.lemmas.List.{take_all, get_or_default}
use Rattle.ray_serial.proofs.TopSteps.{handles_none, handles_more}
use Rattle.ray_serial.proofs.handles.noted.Goals as goal

pub loop-i-init : goal.loop-i-init
loop-i-init c = (c.new-noted.ensures.empty ∙ sym handles_none, λ k below. absurd (omega arith))

pub loop-i-preserved : goal.loop-i-preserved
loop-i-preserved c =
    let P : Instance → Type 0 = λ told. FitsTold told in
    let Q : ℕ → Type 0 = λ k. FitsTold (told_instance (get_or c.args.top.now.contents.instances k None)) in (
      c.in_ok-note.ensures.value
          ∙ ((λ j. with_handle (c.loop-i.invariant.0 j) (c.told.ensures.value j))
          ∙ handles_more c.args.top.now.contents.instances c.loop-i.i (omega (arith, c.len-i-end.ensures.value))),
      below_more Q c.loop-i.i c.loop-i.invariant.1 (subst P c.told.ensures.value c.note.ensures.narrow),
    )

pub returns-clause-value : goal.returns-clause-value
returns-clause-value c =
    c.loop-i.invariant.0
    ∙ ap handles_of (take_all c.loop-i.i c.args.top.now.contents.instances (let end_ = c.len-i-end.ensures.value in let done = c.loop-i-test.false in omega arith))

pub returns-clause-narrow : goal.returns-clause-narrow
returns-clause-narrow c =
    let instances = c.args.top.now.contents.instances in
    let P : Option InstanceValue → Type 0 = λ i. FitsTold (told_instance i) in
    record {
      each = λ k d below. subst P (sym (get_or_default instances k d None below))
          (c.loop-i.invariant.1 k (let end_ = c.len-i-end.ensures.value in let done = c.loop-i-test.false in omega arith));
    }
