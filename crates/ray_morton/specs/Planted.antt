-- What is planted over keys, and where they turn; no clause of a public call speaks of it. (Own.)
use Rattle.std.specs.Prelude.{◌≡◌, ◌≢◌, ◌+◌, ◌-◌, ◌*◌, ◌/◌, ◌%◌, ◌^◌, ◌<◌, ◌≤◌, ◌++◌, ℕ, Option, List, [], length, take, drop, max}
use Rattle.std.specs.List.{All}
use Rattle.ray_geom.specs.Boxes.{BoxValue}
use Rattle.ray_tree.specs.declared.node.Node.{Node}
use Rattle.ray_tree.specs.Shapes.{shape_in, levels}
use Rattle.ray_tree.specs.Trees.{tree_value, times, active, IsShape}
use Rattle.ray_tree.specs.Plans.{Plan, Few, Both, size, places_of, spell, AreSmall, AreRising, height_of}
use Rattle.ray_morton.specs.declared.cutting.Cut.{Cut}
use Rattle.ray_morton.specs.KeyOrder.{IsInKeyOrder}
use Rattle.ray_tree.specs.Trees.{items_below}
use Rattle.ray_morton.specs.Cuts.{AreSame, IsCut, AreCut}
use Rattle.ray_morton.specs.Entries.{Rises}

-- a plan cuts keys so at each inner node
abbrev pub Cuts : List ℕ → Plan → Type 0
Cuts keys (Few count) = Unit {0}
Cuts keys (Both left right) =
    IsCut (take (places_of left) keys) (drop (places_of left) keys)
    × Cuts (take (places_of left) keys) left × Cuts (drop (places_of left) keys) right

-- the nodes over keys from a place on were added, with at most so many levels
pub record IsPlanted (keys : List ℕ) (first levels : ℕ) (old new : List Node) : Type 0 where
  pub plan : Plan
  pub spelled : new ≡ old ++ spell (length old) first plan
  pub full : places_of plan ≡ length keys
  pub small : AreSmall plan
  pub sized : size plan + 1 ≤ 2 * length keys
  pub low : height_of plan ≤ levels
  pub cut : Cuts keys plan

-- the nodes over all keys: 60 levels where a bit changes, 18 of halves, and a leaf
pub record IsTreeOf (keys : List ℕ) (nodes : List Node) : Type 0 where
  pub none : length keys ≡ 0 → nodes ≡ []
  pub some : 0 < length keys → IsPlanted keys 0 79 [] nodes

-- a bit from which up two numbers are the same, and it is the least one
pub record IsTop (a b bits bit : ℕ) : Type 0 where
  pub within : bit ≤ bits
  pub same : a / 2 ^ bit ≡ b / 2 ^ bit
  pub least : 0 < bit → a / 2 ^ (bit - 1) ≢ b / 2 ^ (bit - 1)

-- the first keys are the same from a bit up, and so are the others, but with that bit changed from 0 to 1
pub record IsTurn (keys : List ℕ) (bit half : ℕ) : Type 0 where
  pub some : 0 < half
  pub rest : half < length keys
  pub part : ℕ
  pub lefts : All (λ key. key / 2 ^ bit ≡ part) (take half keys)
  pub rights : All (λ key. key / 2 ^ bit ≡ part + 1) (drop half keys)
  pub even : part % 2 ≡ 0

-- keys can be planted: they rise, are the same from a bit up, and so many halvings leave 4 of them at most
pub record IsReady (keys : List ℕ) (bits halvings : ℕ) : Type 0 where
  pub short : bits < 64
  pub some : 0 < length keys
  pub few : length keys ≤ 4 * 2 ^ halvings
  pub rising : Rises keys
  pub same : AreSame bits keys

-- a cut of keys, both of whose sides can be planted
pub record IsCutAt (keys : List ℕ) (bits halvings : ℕ) (at : Cut) : Type 0 where
  pub rest : at.half < length keys
  pub lefts : IsReady (take at.half keys) at.bits at.halvings
  pub rights : IsReady (drop at.half keys) at.bits at.halvings
  pub low : at.bits + at.halvings < bits + halvings
  pub cut : IsCut (take at.half keys) (drop at.half keys)

-- nodes and an order that, with a box for each node, are a tree over items
pub record IsLaid (items : List (Option BoxValue)) (order : List ℕ) (nodes : List Node) : Type 0 where
  pub once : (p : ℕ) → times p order ≡ active items p
  pub shape : (boxes : List BoxValue) → length boxes ≡ length nodes → IsShape (tree_value nodes boxes order)
  pub rising : AreRising nodes
  pub sorted : IsInKeyOrder items (items_below order (shape_in (length nodes) nodes 0))
  pub cut : AreCut items order (shape_in (length nodes) nodes 0)
  pub low : levels (shape_in (length nodes) nodes 0) ≤ 96
