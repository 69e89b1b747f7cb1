-- Where all items are active, numbers of active items are those below their number.
use Rattle.std.proofs.Common.{◌≡◌, ◌∙◌, ◌<◌, ℕ, zero, suc, Option, List, length, refl, sym, arith}
use Rattle.std.specs.List.{All}
use Rattle.std.proofs.lemmas.List.Elements.{All-weaker}
use Rattle.ray_geom.specs.Boxes.{BoxValue}
use Rattle.ray_tree.specs.Trees.{active, active_of}
use Rattle.ray_tree.specs.Local.{IsActive}
use Rattle.ray_tree.proofs.Counting.{total, total-equal, total-active, at_most_active, active-below}

-- where as many items are active as there are, the active ones' numbers are all below that
ones : (n : ℕ) → total n (λ p. 1) ≡ n
ones zero = refl
ones (suc n) = omega (arith, ones n)

each_active : (items : List (Option BoxValue)) → active_of items ≡ length items → (p : ℕ) → p < length items → IsActive items p
each_active items all p small =
    total-equal (length items) (active items) (λ q. 1) (λ q lt. at_most_active items q) (total-active items ∙ (all ∙ sym (ones (length items)))) p small

pub below_are_active : (items : List (Option BoxValue)) → active_of items ≡ length items →
    (order : List ℕ) → All (λ p. p < length items) order → All (IsActive items) order
below_are_active items all order h = All-weaker (λ p. p < length items) (IsActive items) (λ p small. each_active items all p small) order h

pub active_are_below : (items : List (Option BoxValue)) (order : List ℕ) → All (IsActive items) order → All (λ p. p < length items) order
active_are_below items order h = All-weaker (IsActive items) (λ p. p < length items) (λ p a. active-below items p a) order h
