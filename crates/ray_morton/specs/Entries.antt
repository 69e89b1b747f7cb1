-- Entries of items, each a key and a number in one, and the bits of a number spread; no clause of a public call
-- speaks of them. (Own.)
use Rattle.std.specs.Prelude.{◌≡◌, ◌+◌, ◌*◌, ◌/◌, ◌%◌, ◌^◌, ◌<◌, ◌≤◌, ℕ, zero, suc, Option, Some, None, List, [], ◌∷◌, ◌++◌, length, map, slice_index_or}
use Rattle.std.specs.List.{All}
use Rattle.ray_geom.specs.Boxes.{BoxValue}
use Rattle.ray_tree.specs.Trees.{item_box, times, active}
use Rattle.ray_morton.specs.Keys.{key_of}
use Rattle.ray_morton.specs.KeyOrder.{key_at}

-- the lowest bits of a number, so many of them, each at three times its place
unfoldable pub spread : ℕ → ℕ → ℕ
spread zero x = 0
spread (suc bits) x = 8 * spread bits (x / 2) + x % 2

-- the entry of an item that may have a box
abbrev pub entry_in : Option BoxValue → ℕ → List ℕ
entry_in None p = []
entry_in (Some box) p = (key_of box * 2 ^ 20 + p) ∷ []

-- the same, or what no entry is
abbrev pub mark_in : Option BoxValue → ℕ → ℕ
mark_in None p = 2 ^ 80
mark_in (Some box) p = key_of box * 2 ^ 20 + p

abbrev pub mark_at : List (Option BoxValue) → ℕ → ℕ
mark_at items p = mark_in (item_box items p) p

-- the entries of the first items
unfoldable pub entries_below : List (Option BoxValue) → ℕ → List ℕ
entries_below items zero = []
entries_below items (suc n) = entries_below items n ++ entry_in (item_box items n) n

-- the key and the number in an entry
abbrev pub key_part : ℕ → ℕ
key_part e = e / 2 ^ 20 % 2 ^ 60

abbrev pub item_part : ℕ → ℕ
item_part e = e % 2 ^ 20

abbrev pub key_parts : List ℕ → List ℕ
key_parts entries = map key_part entries

abbrev pub item_parts : List ℕ → List ℕ
item_parts entries = map item_part entries

-- each active item has one entry, and nothing else has any; and an entry has the key of its item
pub record HasEach (items : List (Option BoxValue)) (entries : List ℕ) : Type 0 where
  pub once : (p : ℕ) → times p (item_parts entries) ≡ active items p
  pub keyed : All (λ e. e / 2 ^ 20 ≡ key_at items (item_part e)) entries

-- numbers that don't fall
pub record Rises (numbers : List ℕ) : Type 0 where
  pub each : (i j d : ℕ) → i ≤ j → j < length numbers → slice_index_or numbers i d ≤ slice_index_or numbers j d

-- such entries in rising order
pub record IsInOrder (items : List (Option BoxValue)) (entries : List ℕ) : Type 0 where
  pub has : HasEach items entries
  pub rising : Rises entries
