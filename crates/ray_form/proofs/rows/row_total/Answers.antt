use Rattle.std.proofs.Common.{◌∙◌, ◌+◌, ◌-◌, ◌≡◌, sym, arith}
use Rattle.ray_form.specs.Heads.{count_in}
use Rattle.ray_form.specs.Rows.{row_total}
use Rattle.ray_form.proofs.RowSteps.{more_elements, total_goes_on}
use Rattle.ray_form.proofs.rows.row_total.Goals as goal

pub loop-i-preserved : goal.loop-i-preserved
loop-i-preserved c =
    let counted : c.from-total.result ≡ count_in c.loop-i.rest.now = c.from-total.ensures ∙ c.count_in.ensures in (
      (λ j. more_elements (c.loop-i.total + counted j) (row_total c.args.kind (c.args.n - (c.loop-i.i + 1)) (c.after_first-rest.ensures j)))
          ∙ (total_goes_on c.args.kind c.loop-i.i c.args.n c.loop-i.total c.loop-i.rest.now c.loop-i-test.true
          (sym c.is_geometry.ensures.value ∙ c.if-not-is_geometry.false)
          ∙ c.loop-i.invariant.0),
      omega (arith, c.from-total.ensures),
    )
