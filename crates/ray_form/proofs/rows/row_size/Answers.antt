use Rattle.std.proofs.Common.{◌∙◌, ◌+◌, List, ℕ, sym, subst}
use Rattle.ray_form.proofs.RowSteps.{IsGonePast, size_goes_on}
use Rattle.ray_form.proofs.rows.row_size.Goals as goal

pub loop-i-preserved : goal.loop-i-preserved
loop-i-preserved c =
    let P : List ℕ → Type 0 = λ rest. IsGonePast c.args.n (c.loop-i.i + 1) c.args.bytes.now rest in
    let past = subst P (sym c.after_first-rest.ensures)
    (size_goes_on c.args.n c.loop-i.i c.args.bytes.now c.loop-i.rest.now c.loop-i-test.true (sym c.is_whole.ensures.value ∙ c.if-not-is_whole.false)
    c.loop-i.invariant.size c.loop-i.invariant.within) in
    record { size = past.size; within = past.within }
