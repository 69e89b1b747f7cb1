-- There is a root exactly where there is an active item.
use Rattle.std.proofs.Common.{◌≡◌, ◌∙◌, ◌<◌, ◌↔◌, ℕ, zero, suc, Option, List, length, refl, ap, arith}
use Rattle.std.proofs.lemmas.Bool.Decides.{nat_tests}
use Rattle.ray_geom.specs.Boxes.{BoxValue}
use Rattle.ray_tree.specs.Shapes.{shape_in, inside, holds}
use Rattle.ray_tree.specs.Trees.{TreeValue, active_of, IsShape, TreeOver}
use Rattle.ray_tree.proofs.Under.{shape_zero}
use Rattle.ray_tree.proofs.Sizes.{nodes-few}
use Rattle.ray_tree.proofs.Locals.{over_has}

first_inside : (many : ℕ) → 0 < many → inside 0 0 many ≡ 1
first_inside many h = grind (arith, nat_tests)

needs_root : (tree : TreeValue) (n : ℕ) → length tree.nodes ≡ n → IsShape tree → 0 < length tree.order → 0 < n
needs_root tree (suc n) e shape some = omega arith
needs_root tree zero e shape some =
    let gone = ap (λ k. shape_in k tree.nodes 0) e ∙ shape_zero tree.nodes 0 in
    absurd (omega (arith, ap (holds 0) gone, shape.places_once 0, first_inside (length tree.order) some))

pub has_root : (tree : TreeValue) (items : List (Option BoxValue)) → TreeOver tree items → (0 < length tree.nodes) ↔ (0 < active_of items)
has_root tree items over =
    let many = (over_has tree items over).many in
    let few = nodes-few tree over.shape in
    (λ h. omega (arith, many, few), λ h. needs_root tree (length tree.nodes) refl over.shape (omega (arith, many)))
