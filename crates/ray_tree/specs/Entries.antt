-- Entries of items, which no clause of a public call speaks of. (Own.)
use Rattle.std.specs.Prelude.{◌≡◌, ℕ, Option, List, map}
use Rattle.ray_geom.specs.Boxes.{BoxValue}
use Rattle.ray_tree.specs.declared.arrange.Entry.{Entry}
use Rattle.ray_tree.specs.Trees.{active, times}

-- the numbers of their items
abbrev pub items_in : List Entry → List ℕ
items_in entries = map (λ e. e.item) entries

-- each active item has one entry, and no other number has any
pub record HasEach (items : List (Option BoxValue)) (entries : List Entry) : Type 0 where
  pub once : (p : ℕ) → times p (items_in entries) ≡ active items p
