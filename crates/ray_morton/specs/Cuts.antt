-- Where the items below a node are cut in two. (Own.)
use Rattle.std.specs.Prelude.{◌≡◌, ◌+◌, ◌/◌, ◌%◌, ◌^◌, ◌<◌, ◌++◌, ℕ, Option, List, length, map}
use Rattle.std.specs.List.{All}
use Rattle.ray_geom.specs.Boxes.{BoxValue}
use Rattle.ray_tree.specs.Shapes.{Shape, Gone, Tip, Fork}
use Rattle.ray_morton.specs.KeyOrder.{key_at}
use Rattle.ray_tree.specs.Trees.{items_below}

-- keys that are the same from a bit up, bit 0 being the lowest: what is left of each is the same number
pub record AreSame (bit : ℕ) (keys : List ℕ) : Type 0 where
  pub part : ℕ
  pub each : All (λ key. key / 2 ^ bit ≡ part) keys

-- keys all have this bit
abbrev pub AreAt : ℕ → ℕ → List ℕ → Type 0
AreAt bit value keys = All (λ key. key / 2 ^ bit % 2 ≡ value) keys

-- keys on the left and on the right of a cut
pub record IsCut (lefts rights : List ℕ) : Type 0 where
  -- there are more than a leaf takes
  pub many : 4 < length lefts + length rights
  -- equal keys are cut in halves, the left one being the greater
  pub halves : AreSame 0 (lefts ++ rights) → length lefts ≡ (length lefts + length rights + 1) / 2
  -- others are cut where their highest bit that differs changes from 0 to 1
  pub changes : (bit : ℕ) → AreSame (bit + 1) (lefts ++ rights) → (AreSame bit (lefts ++ rights) → ⊥)
      → AreAt bit 0 lefts × AreAt bit 1 rights

-- the keys of these items
abbrev pub keys_of : List (Option BoxValue) → List ℕ → List ℕ
keys_of items numbers = map (key_at items) numbers

-- the items from a node down are cut so at each inner node
abbrev pub AreCut : List (Option BoxValue) → List ℕ → Shape → Type 0
AreCut items order Gone = Unit {0}
AreCut items order (Tip node first count) = Unit {0}
AreCut items order (Fork node left right) =
    IsCut (keys_of items (items_below order left)) (keys_of items (items_below order right))
    × AreCut items order left × AreCut items order right
