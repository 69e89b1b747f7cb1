use Rattle.std.proofs.Common.{◌∙◌, ◌+◌, ◌-◌, sym, ap}
use Rattle.std.specs.Prelude.{is_some}
use Rattle.ray_form.specs.Rows.{geometries_in}
use Rattle.ray_form.proofs.RowSteps.{sound_goes_on}
use Rattle.ray_form.proofs.rows.are_sound.Goals as goal

pub loop-i-preserved : goal.loop-i-preserved
loop-i-preserved c =
    ap (λ rest. is_some (geometries_in (c.args.n - (c.loop-i.i + 1)) rest)) c.after_first-rest.ensures
    ∙ (sound_goes_on c.loop-i.i c.args.n c.loop-i.rest.now c.loop-i-test.true (sym c.is_sound.ensures.value ∙ c.if-not-is_sound.false)
    ∙ c.loop-i.invariant)
