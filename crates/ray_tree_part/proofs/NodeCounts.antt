-- How many nodes a stated tree has.
use Rattle.std.proofs.Common.{ℕ, zero, suc, ◌≡◌, ◌+◌, ◌-◌, ◌/◌, ◌*◌, ◌^◌, ◌<◌, ◌≤◌, List, length, refl, sym, ap, ◌∙◌, arith}
use Rattle.std.specs.Prelude.{Option}
use Rattle.ray_geom.specs.Boxes.{BoxValue}
use Rattle.ray_tree.specs.Plans.{size, halves, median_nodes}
use Rattle.ray_tree.specs.Trees.{active_of}
use Rattle.ray_tree.proofs.Counting.{has_items}
use Rattle.ray_tree.proofs.Planting.{few_halves, tall}
use Rattle.ray_tree.proofs.Halved.{halves_more}
use Rattle.ray_tree.proofs.Spelled.{length-spell}
use Rattle.ray_stated.specs.Order.{stated_order}
use Rattle.ray_stated.specs.Stated.{stated_tree}
use Rattle.ray_stated.proofs.Ordered.{stated_once}
use Rattle.ray_stated.proofs.Planned.{halved-nodes, halved-order, over_halved}
use Rattle.ray_tree_part.specs.TreeParts.{tree_bytes, part_size}
use Rattle.ray_tree_part.proofs.Lengths.{length-tree_bytes}

-- few places have one node
pub few_nodes : (height count : ℕ) → count ≤ 4 → 1 ≡ size (halves height count)
few_nodes height count few = ap size (sym (few_halves height count few))

-- and others those of both halves, and one
halved_nodes : (height count : ℕ) → 0 < height → 4 < count →
    size (halves height count) ≡ 1 + (size (halves (height - 1) ((count + 1) / 2)) + size (halves (height - 1) (count - (count + 1) / 2)))
halved_nodes zero count some many = absurd (omega arith)
halved_nodes (suc h) count some many =
    let same : suc h - 1 ≡ h = omega arith in
    ap size (halves_more h count many)
    ∙ ap (λ k. 1 + (size (halves k ((count + 1) / 2)) + size (halves k (count - (count + 1) / 2)))) (sym same)

pub both_nodes : (height count a b half : ℕ) → 4 < count → count ≤ 4 * 2 ^ height → half ≡ (count + 1) / 2 → a ≡ size (halves (height - 1) half)
    → b ≡ size (halves (height - 1) (count - half)) → 1 + a + b ≡ size (halves height count)
both_nodes height count a b half many low is p q =
    let high = tall height count many low in
    let whole = halved_nodes height count high.some many in
    let left : a ≡ size (halves (height - 1) ((count + 1) / 2)) = p ∙ ap (λ n. size (halves (height - 1) n)) is in
    let right : b ≡ size (halves (height - 1) (count - (count + 1) / 2)) = q ∙ ap (λ n. size (halves (height - 1) (count - n))) is in
    omega arith

-- what is left in each half fits a level fewer
pub record FitsBelow (height count half : ℕ) : Type 0 where
  pub some : 0 < height
  pub left : half ≤ 4 * 2 ^ (height - 1)
  pub right : count - half ≤ 4 * 2 ^ (height - 1)

pub fits_below : (height count half : ℕ) → 4 < count → count ≤ 4 * 2 ^ height → half ≡ (count + 1) / 2 → FitsBelow height count half
fits_below height count half many low is =
    let high = tall height count many low in
    let twice = high.twice in
    record { some = high.some; left = omega arith; right = omega arith }

pub nodes_some : (count nodes : ℕ) → 0 < count → nodes ≡ size (halves 18 count) → nodes ≡ length (median_nodes count)
nodes_some zero nodes some e = absurd (omega arith)
nodes_some (suc n) nodes some e = e ∙ sym (length-spell 0 0 (halves 18 (suc n)))

-- the bytes of the stated tree
pub stated_length : (items : List (Option BoxValue)) (active nodes : ℕ) → length items ≤ 2 ^ 20 → active_of items ≡ active
    → nodes ≡ length (median_nodes active) → part_size nodes active ≡ length (tree_bytes (stated_tree items))
stated_length items active nodes few many e =
    let order = stated_order items in
    let once = stated_once items in
    let has = has_items order items once in
    let over = over_halved items order (length order) refl few once in
    let n = ap length (halved-nodes items order (length order)) in
    let a = ap length (halved-order items order (length order)) in
    let count : length order ≡ active = has.many ∙ many in
    let same = ap (λ k. length (median_nodes k)) count in
    sym (length-tree_bytes (stated_tree items) over.shape.boxed
    ∙ (λ i. part_size ((n ∙ (same ∙ sym e)) i) ((a ∙ count) i)))
