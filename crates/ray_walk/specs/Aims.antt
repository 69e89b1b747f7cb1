-- Words of private calls alone, which a reader of the public contracts needs not: a ray with its window, and the trees that it is sent through.
use Rattle.std.specs.Prelude.{ℕ, zero, suc, ◌≡◌, ◌<◌, ◌↔◌, false, Option, Some, None, IfSome, All, List, length}
use Rattle.ray_geom.specs.declared.ratio.Ratio.{Ratio}
use Rattle.ray_geom.specs.Boxes.{BoxValue, IsBox, box_value}
use Rattle.ray_geom.specs.LeastBoxes.{box_of_tri}
use Rattle.ray_geom.specs.Scene.{tri_value}
use Rattle.ray_geom.specs.ObjectRay.{ObjectRayValue}
use Rattle.ray_tree.specs.Trees.{TreeValue, box_at}
use Rattle.ray_wide.specs.declared.node.WideRef.{WideRef}
use Rattle.ray_wide.specs.declared.node.WideRef.TheVariants as wides
use Rattle.ray_wide.specs.Subtrees.{IsWideLeaf}
use Rattle.ray_wide.specs.Wides.{WideValue, WideOver, child_at, children_in, lane_box, top_at}
use Rattle.ray_lanes.specs.declared.lanes.Lanes8.{Lanes8}
use Rattle.ray_lanes.specs.declared.lanes.Window.{Window}
use Rattle.ray_lanes.specs.Overlap.{HasBit, Overlaps}
use Rattle.ray_slabs.specs.Bounds.{AreBounds}
use Rattle.ray_window.specs.Meets.{Meets}
use Rattle.ray_window.specs.Windows.{window_of}
use Rattle.ray_leaves.specs.declared.leaf_item.ItemPoints.{ItemPoints}
use Rattle.ray_leaves.specs.declared.leaf_item.ItemPoints.TheVariants.{Triangle, Aabb, Nothing}
use Rattle.ray_nearest.specs.declared.node.WalkNode.{WalkNode}
use Rattle.ray_nearest.specs.declared.node.WalkNode.TheVariants.{TopInner, TopLeaf, Inner, Leaf}
use Rattle.ray_nearest.specs.declared.turn.Turn.{Turn}
use Rattle.ray_nearest.specs.Adding.{Adds, AddsNode}
use Rattle.ray_query.specs.Limits.{is_open}
use Rattle.ray_walk.specs.declared.aim.Aim.{Aim}
use Rattle.ray_walk.specs.declared.aim.Seen.{Seen}
use Rattle.ray_walk.specs.declared.trees.Trees.{Trees}
use Rattle.ray_candidates.specs.Placements.{entry_in}
use Rattle.ray_tree.specs.Trees.{no_box}
use Rattle.ray_walk.specs.Bounding.{whole}
use Rattle.ray_walk.specs.WideScene.{child}

-- ---- a ray with its window

-- what was seen last is the window up to its limit, and the slabs are those of the ray
pub record IsAimed (aim : Aim) : Type 0 where
  pub seen_is : IfSome aim.seen (λ (s : Seen). s.window ≡ window_of aim.ray s.limit)
  pub slabs_are : IfSome aim.slabs (AreBounds aim.ray whole None)

-- two limits have the same numbers
abbrev pub IsSameLimit : Option Ratio → Option Ratio → Type 0
IsSameLimit None None = Unit {0}
IsSameLimit None (Some b) = ⊥
IsSameLimit (Some a) None = ⊥
IsSameLimit (Some a) (Some b) = (a.num ≡ b.num) × (a.den ≡ b.den)

-- ---- trees

-- a wide tree over a binary one, whose boxes are within the limits
pub record AreTrees (tree : TreeValue) (wide : WideValue) : Type 0 where
  pub over : WideOver wide tree
  pub limits : (n : ℕ) → n < length tree.nodes → IsBox (box_at tree no_box n)

-- a child has a box
abbrev pub HasBox : TreeValue → WideValue → WideRef → Type 0
HasBox tree wide wides.Empty = Unit {0}
HasBox tree wide (wides.Leaf leaf) = leaf.node < length tree.nodes
HasBox tree wide (wides.Inner w) = (w < length wide.tops) × (top_at wide.tops w < length tree.nodes)

-- a child has the box of its lane, and a leaf its places
pub record HasLaneBox (lanes : Lanes8) (k : ℕ) (box : BoxValue) : Type 0 where
  pub same : lane_box lanes k ≡ box
  pub limits : IsBox box

abbrev pub HasLane : TreeValue → WideValue → Lanes8 → ℕ → WideRef → Type 0
HasLane tree wide lanes k wides.Empty = Unit {0}
HasLane tree wide lanes k (wides.Leaf leaf) = HasLaneBox lanes k (box_at tree no_box leaf.node) × IsWideLeaf tree.nodes leaf
HasLane tree wide lanes k (wides.Inner w) = HasLaneBox lanes k (box_at tree no_box (top_at wide.tops w))

-- from where a ray is in the box of a node of these trees
abbrev pub entry_by : TreeValue → WideValue → ObjectRayValue → WalkNode → Option Ratio
entry_by tree wide object (TopInner w) = entry_in object (box_at tree no_box (top_at wide.tops w))
entry_by tree wide object (TopLeaf n) = entry_in object (box_at tree no_box n)
entry_by tree wide object (Inner i w) = entry_in object (box_at tree no_box (top_at wide.tops w))
entry_by tree wide object (Leaf i n) = entry_in object (box_at tree no_box n)

abbrev pub entry_through : Trees → WalkNode → Option Ratio
entry_through t = entry_by t.tree.now t.wide.now t.ray.now

-- the turns of nodes of these trees were added
abbrev pub AddsThrough : Option Ratio → Trees → List WalkNode → List Turn → List Turn → Type 0
AddsThrough limit t = Adds (AddsNode limit (entry_through t))

-- none of them is met within the limit
abbrev pub AreLeftOut : Option Ratio → Trees → List WalkNode → Type 0
AreLeftOut limit t = All (λ n. is_open limit (entry_through t n) ≡ false)

-- ---- the way down

-- the bits of the lanes that a window overlaps
abbrev pub AreMet : Lanes8 → Window → ℕ → Type 0
AreMet lanes window met = (j : ℕ) → j < 8 → HasBit met j ↔ Overlaps lanes window j

-- one bit alone is set, at the place of a wide node
pub record IsAlone (children : List WideRef) (met u : ℕ) : Type 0 where
  pub place : ℕ
  pub few : place < 8
  pub is_it : child_at children place ≡ wides.Inner u
  pub alone : (j : ℕ) → j < 8 → (j ≡ place → ⊥) → HasBit met j → ⊥

-- the ray meets no other child of wide node w than wide node u within the limit
pub record LeadsOn (limit : Option Ratio) (t : Trees) (w u : ℕ) : Type 0 where
  pub place : ℕ
  pub there : place < length (children_in t.wide.now.nodes w)
  pub is_it : child_at (children_in t.wide.now.nodes w) place ≡ wides.Inner u
  pub others : (j : ℕ) → j < length (children_in t.wide.now.nodes w) → (j ≡ place → ⊥)
      → AreLeftOut limit t (child t.level (child_at (children_in t.wide.now.nodes w) j))

-- wide node w leads to v, so many levels down
abbrev pub LeadsTo : Option Ratio → Trees → ℕ → ℕ → ℕ → Type 0
LeadsTo limit t zero w v = w ≡ v
LeadsTo limit t (suc k) w v = (u : ℕ) × LeadsOn limit t w u × LeadsTo limit t k u v

-- of a wide node, the children whose bits aren't set are left out
abbrev pub LeavesOut : Option Ratio → Trees → ℕ → ℕ → Type 0
LeavesOut limit t w met =
    (j : ℕ) → j < 8 → (HasBit met j → ⊥) → AreLeftOut limit t (child t.level (child_at (children_in t.wide.now.nodes w) j))

-- where a way down from wide node w ends, with the children that are left there
pub record IsDown (limit : Option Ratio) (t : Trees) (w at met : ℕ) : Type 0 where
  pub node : at < length t.wide.now.nodes
  pub levels : ℕ
  pub leads : LeadsTo limit t levels w at
  pub out : LeavesOut limit t at met

-- ---- primitives

-- a window meets the least box of points, or there are none
abbrev pub MeetsPoints : Window → ItemPoints → Type 0
MeetsPoints window (Triangle a b c) = Meets window (box_of_tri (tri_value a b c))
MeetsPoints window (Aabb lo hi) = Meets window (box_value lo hi)
MeetsPoints window Nothing = Unit {0}

-- there is a window, and it doesn't meet points
abbrev pub IsPassed : Option Window → ItemPoints → Type 0
IsPassed None points = ⊥
IsPassed (Some window) points = MeetsPoints window points → ⊥
