use Rattle.std.proofs.Common.{false, rules, subst, sym, ◌≡◌}
use Rattle.ray_geom.specs.Boxes.{BoxValue, IsBox, box_value}
use Rattle.ray_bytes.specs.InactiveMark.{is_inactive_mark}
use Rattle.ray_primitives.proofs.Keeping.{IsBox-unmarked}
use Rattle.ray_primitives.proofs.kept_box.KeptBox.bounds.Goals as goal

pub of_corners-requires : goal.of_corners-requires
of_corners-requires c =
    let b = c.self.inside in
    let unmarked : is_inactive_mark b.lo.x ≡ false = search rules in
    subst (λ (v : BoxValue). IsBox v) (λ i. box_value (sym c.wide.ensures i) (sym c.wide-else-is_inactive_mark.ensures i))
    (IsBox-unmarked b.lo b.hi c.self.invariant unmarked)
