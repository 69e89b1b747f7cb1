-- Entries of items while they are arranged, and cuts of them, which no clause of a public call speaks of. (Own.)
use Rattle.std.specs.Prelude.{◌≡◌, ◌+◌, ◌*◌, ◌^◌, ◌<◌, ◌≤◌, ℕ, Option, List, [], ◌∷◌, length, map, take, drop, slice_index_or}
use Rattle.std.specs.List.{All}
use Rattle.ray_geom.specs.Boxes.{BoxValue}
use Rattle.ray_tree.specs.Trees.{times}
use Rattle.ray_tree.specs.Local.{IsActive}
use Rattle.ray_stated.specs.declared.entry.Entry.{Entry}
use Rattle.ray_stated.specs.Order.{sum_of, arranged}

-- the entry of an item: its sums and its number
abbrev pub entry_at : List (Option BoxValue) → ℕ → Entry
entry_at items p = record { sums = sum_of items 0 p ∷ sum_of items 1 p ∷ sum_of items 2 p ∷ []; item = p }

-- the numbers of their items
abbrev pub items_in : List Entry → List ℕ
items_in entries = map (λ e. e.item) entries

-- each is that of its item
abbrev pub AreOf : List (Option BoxValue) → List Entry → Type 0
AreOf items entries = All (λ e. e ≡ entry_at items e.item) entries

-- an item has a number below 2^20
abbrev pub IsSmall : Entry → Type 0
IsSmall e = e.item < 2 ^ 20

-- an entry's sum along an axis
abbrev pub entry_sum : ℕ → Entry → ℕ
entry_sum axis e = slice_index_or e.sums axis 0

-- what entries are ordered by along an axis
abbrev pub entry_key : ℕ → Entry → ℕ
entry_key axis e = entry_sum axis e * 2 ^ 20 + e.item

-- none of the first so many is behind another along an axis
abbrev pub IsCut : ℕ → ℕ → List Entry → Type 0
IsCut axis many es = All (λ x. All (λ y. entry_key axis x ≤ entry_key axis y) (drop many es)) (take many es)

-- numbers never fall
abbrev pub IsRising : List ℕ → Type 0
IsRising [] = Unit {0}
IsRising (x ∷ xs) = All (λ y. x ≤ y) xs × IsRising xs

-- a rising list of the same numbers as another, all of active items, each of which stands there once
pub record IsListed (items : List (Option BoxValue)) (ns ms : List ℕ) : Type 0 where
  pub rising : IsRising ns
  pub once : (p : ℕ) → times p ns ≤ 1
  pub same : (p : ℕ) → times p ns ≡ times p ms
  pub active : All (IsActive items) ms

-- entries that were brought into the order of the places of the stated tree: whatever items and height they are for
pub record AreArranged (old new : List Entry) : Type 0 where
  pub as_said : (h : ℕ) (items : List (Option BoxValue)) (ns : List ℕ) → length old ≤ 4 * 2 ^ h → AreOf items old
      → IsListed items ns (items_in old) → items_in new ≡ arranged h items ns
