-- The tree part of a serialized structure: a box tree as bytes, in words of 32 bits, little-endian. (Own: the layout.)
--
--     0        the number N of nodes
--     4        the number A of items
--     8        N nodes of 32 bytes: the node's box in 24, how many items it has if it is a leaf, else 0, and the place of its
--              first item if it is a leaf, else the number of its right child
--     8 + 32 N A numbers of items, in the order of the leaves
--
-- By hand, the tree of one leaf over item 0, whose box is from (0,0,0) to (4,4,0), is 01 00 00 00 and 01 00 00 00; twelve
-- zeros, 04 00 00 00, 04 00 00 00 and four zeros; 01 00 00 00 and 00 00 00 00; and 00 00 00 00.
use Rattle.std.specs.Prelude.{ℕ, ◌≡◌, ◌+◌, ◌*◌, ◌<◌, ◌^◌, ◌==◌, ◌&&◌, nat_le, Bool, true, Option, Some, None, option_map, option_and_then, Result, Ok, Err, List, ◌++◌, length, map, take, drop}
use Rattle.std.specs.List.{flat_map, range_with_len}
use Rattle.byteorder.specs.Endian.{little_bytes}
use Rattle.ray_geom.specs.Boxes.{BoxValue, IsBox}
use Rattle.ray_bytes.specs.Fields.{word_at}
use Rattle.ray_contents.specs.Gathering.{all_some}
use Rattle.ray_primitives.specs.StoredPrimitives.{aabb_bytes, stored_box}
use Rattle.ray_tree.specs.Trees.{TreeValue}
use Rattle.ray_stated.specs.declared.stored.StoredNode.{StoredNode}
use Rattle.ray_stated.specs.declared.tree_fault.TreeFault.{TreeFault}
use Rattle.ray_stated.specs.declared.tree_fault.TreeFault.TheVariants.{NotTree, NoMemory}
use Rattle.ray_stated.specs.Stored.{stored_all}
use Rattle.ray_stated.specs.Carried.{carried}

-- ---- written

-- the 32 bytes of a node
unfoldable pub node_bytes : StoredNode → List ℕ
node_bytes node = aabb_bytes (Some node.bounds) ++ (little_bytes 4 node.count ++ little_bytes 4 node.link)

-- nodes and an order: how many they are, the nodes, and the numbers
abbrev pub part_of : List StoredNode → List ℕ → List ℕ
part_of nodes order =
    little_bytes 4 (length nodes)
    ++ (little_bytes 4 (length order) ++ (flat_map node_bytes nodes ++ flat_map (little_bytes 4) order))

-- the tree part of a tree
unfoldable pub tree_bytes : TreeValue → List ℕ
tree_bytes tree = part_of (stored_all tree.nodes tree.boxes) tree.order

-- ---- read back

-- how many nodes and how many items a part says that it has
unfoldable pub node_count : List ℕ → ℕ
node_count part = word_at part 0

unfoldable pub item_count : List ℕ → ℕ
item_count part = word_at part 4

-- so many bytes these are with their counts
abbrev pub part_size : ℕ → ℕ → ℕ
part_size nodes items = 8 + 32 * nodes + 4 * items

-- whether bytes have the size that their counts say
unfoldable pub is_part : List ℕ → Bool
is_part part = nat_le 8 (length part) && (part_size (node_count part) (item_count part) == length part)

-- the node of 32 bytes; none where its box is no active box within the limits
unfoldable pub box_in : List ℕ → Option BoxValue
box_in bytes = option_and_then (λ box. box) (stored_box (take 24 bytes))

abbrev pub node_with : ℕ → ℕ → BoxValue → StoredNode
node_with count link bounds = record { bounds = bounds; count = count; link = link }

unfoldable pub node_in : List ℕ → Option StoredNode
node_in bytes = option_map (node_with (word_at bytes 24) (word_at bytes 28)) (box_in bytes)

-- node i, and all nodes
unfoldable pub node_of : List ℕ → ℕ → Option StoredNode
node_of part i = node_in (take 32 (drop (8 + 32 * i) part))

abbrev pub nodes_in : List ℕ → Option (List StoredNode)
nodes_in part = all_some (node_of part) (node_count part)

-- the number at place k, and all numbers
unfoldable pub item_of : List ℕ → ℕ → ℕ
item_of part k = word_at part (8 + 32 * node_count part + 4 * k)

abbrev pub order_in : List ℕ → List ℕ
order_in part = map (item_of part) (range_with_len 0 (item_count part))

-- the tree over these items that a part spells, if it spells one: its nodes in preorder, the root being node 0, the leaves'
-- places following each other, and at most 96 levels (own). A box beyond the limits is no least box of items, so that a
-- part with such a box spells none
unfoldable pub tree_in : List (Option BoxValue) → List ℕ → Option TreeValue
tree_in items part = option_and_then (λ nodes. carried nodes (order_in part) items) (nodes_in part)

-- what reading a part gives: the tree that it spells; that it spells none; or want of memory
abbrev pub IsSpelled : List (Option BoxValue) → List ℕ → Result TreeValue TreeFault → Type 0
IsSpelled items part (Ok tree) = tree_in items part ≡ Some tree
IsSpelled items part (Err NotTree) = tree_in items part ≡ None
IsSpelled items part (Err NoMemory) = Unit {0}

-- what is written of a tree is a part, and is read as what is stored of the tree
pub record IsReadAgain (tree : TreeValue) : Type 0 where
  pub part : is_part (tree_bytes tree) ≡ true
  pub same : (items : List (Option BoxValue)) → tree_in items (tree_bytes tree) ≡ carried (stored_all tree.nodes tree.boxes) tree.order items

-- ---- words of private calls alone

-- there is nothing, or there was no memory
abbrev pub IsNone : {X : Type 0} → Option X → TreeFault → Type 0
IsNone found NotTree = found ≡ None
IsNone found NoMemory = Unit {0}

-- a node can be written: its box is within the limits, and its numbers have 32 bits
pub record IsWritable (node : StoredNode) : Type 0 where
  pub bounds : IsBox node.bounds
  pub count : node.count < 2 ^ 32
  pub link : node.link < 2 ^ 32
