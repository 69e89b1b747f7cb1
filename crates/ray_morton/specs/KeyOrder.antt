-- Items in rising order of their keys. (Own.)
use Rattle.std.specs.Prelude.{◌≡◌, ◌<◌, ◌⊎◌, ◌++◌, ℕ, Option, Some, None, List, [], length, take, drop, slice_index}
use Rattle.ray_geom.specs.Boxes.{BoxValue}
use Rattle.ray_tree.specs.Shapes.{Shape, Gone, Tip, Fork}
use Rattle.ray_tree.specs.Trees.{item_box, times, active}
use Rattle.ray_morton.specs.Keys.{key_of}

-- the key of what may be a box, which is 0 where there is none
abbrev pub key_in : Option BoxValue → ℕ
key_in None = 0
key_in (Some box) = key_of box

-- the key of an item
abbrev pub key_at : List (Option BoxValue) → ℕ → ℕ
key_at items p = key_in (item_box items p)

-- an item comes before another: its key is less, or it has the same key and a lesser number
abbrev pub IsBefore : List (Option BoxValue) → ℕ → ℕ → Type 0
IsBefore items p q = (key_at items p < key_at items q) ⊎ ((key_at items p ≡ key_at items q) × (p < q))

-- the numbers of the active items, each once, in this order
pub record IsInKeyOrder (items : List (Option BoxValue)) (numbers : List ℕ) : Type 0 where
  pub once : (p : ℕ) → times p numbers ≡ active items p
  pub rising : (i j : ℕ) → i < j → j < length numbers → IsBefore items (slice_index numbers i) (slice_index numbers j)
