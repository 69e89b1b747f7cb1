-- Lists of primitives at leaves, as they are kept. (Own.)
use Rattle.std.specs.Prelude.{ℕ, List, slice_index_or}
use Rattle.ray_leaves.specs.declared.leaf_item.LeafItem.{LeafItem}
use Rattle.ray_leaves.specs.declared.leaf_item.ItemPoints.TheVariants.{Nothing}
use Rattle.ray_leaves.specs.declared.leaf_list.LeafList.{LeafList}
use Rattle.ray_leaves.specs.declared.leaf_list.LeafList.TheVariants as lists
use Rattle.ray_leaves.specs.declared.leaf_list.LeafPart.{LeafPart}
use Rattle.ray_leaves.specs.declared.leaf_list.LeafPart.TheVariants as parts
use Rattle.ray_leaves.specs.Places.{place_of}

-- the primitives of a list, and of a part of one
abbrev pub items_in : LeafList → List LeafItem
items_in (lists.Triangles items) = items.items
items_in (lists.Any items) = items.items

abbrev pub part_of : LeafPart → List LeafItem
part_of (parts.Triangles items) = items.now
part_of (parts.Any items) = items.now

-- one of these; nothing stands behind them
abbrev pub no_item : LeafItem
no_item = record { place = place_of 0 0; points = Nothing }

abbrev pub item_in : LeafPart → ℕ → LeafItem
item_in part k = slice_index_or (part_of part) k no_item
