-- A child whose lane the window doesn't overlap is one whose box the ray doesn't meet within the limit.
use Rattle.std.proofs.Common.{ℕ, zero, suc, ◌≡◌, ◌+◌, ◌*◌, ◌<◌, true, false, Option, Some, None, option_map, IfSome, List, [], ◌∷◌, length, refl, sym, ap, subst, ◌∙◌, arith}
use Rattle.std.specs.Prelude.{All, slice_index_or}
use Rattle.std.proofs.lemmas.List.Elements.{All-nil, All-cons, All-get_or}
use Rattle.ray_geom.specs.declared.ratio.Ratio.{Ratio}
use Rattle.ray_geom.specs.Boxes.{BoxValue, IsBox}
use Rattle.ray_geom.specs.ObjectRay.{IsObjectRay, ObjectRayValue}
use Rattle.ray_prune.specs.declared.reach.Reach.{Reach}
use Rattle.ray_prune.specs.BoxReach.{reach_of}
use Rattle.ray_prune.specs.BoxSpan.{IsReach}
use Rattle.ray_prune.proofs.Entries.{reach_of-some}
use Rattle.ray_lanes.specs.declared.lanes.Lanes8.{Lanes8}
use Rattle.ray_lanes.specs.declared.lanes.Window.{Window}
use Rattle.ray_lanes.specs.Overlap.{Overlaps}
use Rattle.ray_tree.specs.Trees.{TreeValue, box_at}
use Rattle.ray_wide.specs.declared.node.WideRef.{WideRef}
use Rattle.ray_wide.specs.declared.node.WideRef.TheVariants as wides
use Rattle.ray_wide.specs.Wides.{IsChild, IsLane, IsRoot, WideValue, child_at, children_in, is_there, lane_box, lanes_in, top_at}
use Rattle.ray_wide.proofs.Boxing.{node_for}
use Rattle.ray_window.specs.Meets.{IsUpTo, Meets}
use Rattle.ray_window.specs.Windows.{last_of, window_of, window_to}
use Rattle.ray_window.proofs.Windows.{Overlaps-met, window-holds}
use Rattle.ray_bottom.specs.Slots.{IsSound}
use Rattle.ray_bottom.specs.Trees.{BottomWithTree}
use Rattle.ray_nearest.specs.declared.node.WalkNode.{WalkNode}
use Rattle.ray_query.specs.Limits.{is_open}
use Rattle.ray_query.specs.Limits.{is_within}
use Rattle.ray_query.proofs.Orders.{false-else}
use Rattle.ray_walk.specs.declared.level.Level.{Level}
use Rattle.ray_walk.specs.declared.level.Level.TheVariants.{World, Object}
use Rattle.ray_walk.specs.Aims.{AreTrees, HasBox, HasLane, IsSameLimit, entry_by}
use Rattle.ray_walk.specs.Sound.{IsWalkable}
use Rattle.ray_walk.specs.Traced.{Traced}
use Rattle.ray_candidates.specs.Placements.{entry_in}
use Rattle.ray_tree.specs.Trees.{no_box}
use Rattle.ray_walk.specs.WideScene.{child, inner_at, leaf_at}
use Rattle.ray_walk.proofs.BoxLimits.{bottom-limits, top-limits}
use Rattle.ray_candidates.proofs.Opened.{le_told}
use Rattle.ray_walk.proofs.WideParts.{lane-is}

-- ---- windows

pub up-to : (limit : Option Ratio) (e : Ratio) → is_within limit e ≡ true → IsUpTo limit e.num e.den
up-to None e within = tt
up-to (Some c) e within = le_told (e.num * c.den) (c.num * e.den) within

unmet : (object : ObjectRayValue) (box : BoxValue) → IsObjectRay object → IsBox box → (limit : Option Ratio) (lanes : Lanes8) (k : ℕ) → lane_box lanes k ≡ box
    → (Overlaps lanes (window_of object limit) k → ⊥) → is_open limit (entry_in object box) ≡ false
unmet object box ray limits limit lanes k lane none = by (reach_of object box) (reach_of-some object box)
  where
    by : (o : Option Reach) → IfSome o (IsReach object box) → is_open limit (option_map (λ (r : Reach). r.entry) o) ≡ false
    by None some = refl
    by (Some r) some = false-else (is_within limit r.entry) (λ within.
        none (Overlaps-met lanes (window_of object limit) k
        (subst (Meets (window_of object limit)) (sym lane)
        (window-holds object box ray limits limit r.entry.num r.entry.den r.entry.positive some.entry (up-to limit r.entry within)))))

-- windows up to limits of the same numbers are the same
module _ (object : ObjectRayValue) where
  to-last : Ratio → Window
  to-last last = window_to object.det object.origin object.dir object.tmin last.num last.den

  pub window-same : (a b : Option Ratio) → IsSameLimit a b → window_of object a ≡ window_of object b
  unfolding window_of last_of
  window-same None None same = refl
  window-same None (Some b) same = absurd same
  window-same (Some a) None same = absurd same
  window-same (Some a) (Some b) (num, den) = window-same-parts a b num den
    where
      window-same-parts : (a b : Ratio) → a.num ≡ b.num → a.den ≡ b.den → window_of object (Some a) ≡ window_of object (Some b)
      window-same-parts a b num den = grind arith

-- ---- children

-- the trees of structures are so
pub bottom-trees : (b : BottomWithTree) → IsSound b → AreTrees b.tree b.wide
bottom-trees b sound = record { over = sound.wide; limits = bottom-limits b sound }

pub top-trees : (s : Traced) → IsWalkable s → AreTrees s.top.tree s.top.wide
top-trees s w = record { over = w.wide; limits = top-limits s w }

pub trees-as : (tree now : TreeValue) (wide broad : WideValue) → tree ≡ now → wide ≡ broad → AreTrees now broad → AreTrees tree wide
trees-as tree now wide broad same alike are = subst (λ t. AreTrees t wide) (sym same) (subst (AreTrees now) (sym alike) are)

-- what stands at a place of a list, whatever stands for what is missing
pub any-default : {X : Type 0} (xs : List X) (k : ℕ) (d e : X) → k < length xs → slice_index_or xs k d ≡ slice_index_or xs k e
any-default [] k d e small = absurd (omega (arith, small))
any-default (x ∷ xs) zero d e small = refl
any-default (x ∷ xs) (suc k) d e small = any-default xs k d e (omega (arith, small))

pub entry-leaf : (tree : TreeValue) (wide : WideValue) (object : ObjectRayValue) (level : Level) (n : ℕ)
    → entry_by tree wide object (leaf_at level n) ≡ entry_in object (box_at tree no_box n)
entry-leaf tree wide object World n = refl
entry-leaf tree wide object (Object i) n = refl

pub entry-inner : (tree : TreeValue) (wide : WideValue) (object : ObjectRayValue) (level : Level) (w : ℕ)
    → entry_by tree wide object (inner_at level w) ≡ entry_in object (box_at tree no_box (top_at wide.tops w))
entry-inner tree wide object World w = refl
entry-inner tree wide object (Object i) w = refl

-- the root has a box, and so has each child
pub root-box : (tree : TreeValue) (wide : WideValue) (root : WideRef) → IsRoot tree.nodes wide.tops root → HasBox tree wide root
root-box tree wide wides.Empty is = tt
root-box tree wide (wides.Leaf leaf) (is, first, few) = is.node.small
root-box tree wide (wides.Inner w) (top, first, some, start) = (
  omega (arith, first, some),
  subst (λ m. m < length tree.nodes) (sym (ap (top_at wide.tops) first ∙ start)) top.small,
)

module _ (tree : TreeValue) (wide : WideValue) (trees : AreTrees tree wide) where
  child-box : (from : ℕ) (c : WideRef) → IsChild tree.nodes wide.tops from c → HasBox tree wide c
  child-box from wides.Empty is = tt
  child-box from (wides.Leaf leaf) is = is.node.small
  child-box from (wides.Inner v) is =
      let topped = trees.over.collapsed.topped in
      let within = is.1 in
      (within, (trees.over.collapsed.each v (omega (arith, topped, within))).top.small)

  pub is-child : (w k : ℕ) → w < length wide.nodes → k < 8 → IsChild tree.nodes wide.tops (w + 1) (child_at (children_in wide.nodes w) k)
  is-child w k small few =
      let node = trees.over.collapsed.each w small in
      let eight = node.eight in
      All-get_or (IsChild tree.nodes wide.tops (w + 1)) (children_in wide.nodes w) k wides.Empty (omega (arith, eight, few)) node.each

  pub box-at : (w k : ℕ) → w < length wide.nodes → k < 8 → HasBox tree wide (child_at (children_in wide.nodes w) k)
  box-at w k small few = child-box (w + 1) (child_at (children_in wide.nodes w) k) (is-child w k small few)

  lane-by : (w k : ℕ) → w < length wide.nodes → k < 8 → (c : WideRef) → child_at (children_in wide.nodes w) k ≡ c
      → IsChild tree.nodes wide.tops (w + 1) c → HasBox tree wide c → HasLane tree wide (lanes_in wide.nodes w) k c
  lane-by w k small few wides.Empty is one box = tt
  lane-by w k small few (wides.Leaf leaf) is one box = (
    record {
      same = lane-is tree wide.tops (lanes_in wide.nodes w) k (wides.Leaf leaf) (subst (IsLane tree wide.tops (lanes_in wide.nodes w) k) is (trees.over.lanes w k small few)) refl;
      limits = trees.limits leaf.node box;
    },
    one,
  )
  lane-by w k small few (wides.Inner v) is one box = record {
    same = lane-is tree wide.tops (lanes_in wide.nodes w) k (wides.Inner v) (subst (IsLane tree wide.tops (lanes_in wide.nodes w) k) is (trees.over.lanes w k small few)) refl;
    limits = trees.limits (top_at wide.tops v) box.1;
  }

  pub lane-at : (w k : ℕ) → w < length wide.nodes → k < 8 → HasLane tree wide (lanes_in wide.nodes w) k (child_at (children_in wide.nodes w) k)
  lane-at w k small few = lane-by w k small few (child_at (children_in wide.nodes w) k) refl (is-child w k small few) (box-at w k small few)

  -- where the box of a lane isn't met within the limit, its child is left out
  module _ (object : ObjectRayValue) (limit : Option Ratio) (level : Level) (w k : ℕ) (small : w < length wide.nodes) (few : k < 8)
      (shut : IsBox (lane_box (lanes_in wide.nodes w) k) → is_open limit (entry_in object (lane_box (lanes_in wide.nodes w) k)) ≡ false) where
    abbrev IsOut : WalkNode → Type 0
    IsOut n = is_open limit (entry_by tree wide object n) ≡ false

    out-at : (c : WideRef) → child_at (children_in wide.nodes w) k ≡ c → is_there c ≡ true → node_for wide.tops c < length tree.nodes
        → is_open limit (entry_in object (box_at tree no_box (node_for wide.tops c))) ≡ false
    out-at c is there within =
        let same : lane_box (lanes_in wide.nodes w) k ≡ box_at tree no_box (node_for wide.tops c) =
        lane-is tree wide.tops (lanes_in wide.nodes w) k c (subst (IsLane tree wide.tops (lanes_in wide.nodes w) k) is (trees.over.lanes w k small few)) there in
        subst (λ b. is_open limit (entry_in object b) ≡ false) same (shut (subst IsBox (sym same) (trees.limits (node_for wide.tops c) within)))

    out-by : (c : WideRef) → child_at (children_in wide.nodes w) k ≡ c → HasBox tree wide c → All IsOut (child level c)
    out-by wides.Empty is box = All-nil IsOut
    out-by (wides.Leaf leaf) is box =
        All-cons IsOut (leaf_at level leaf.node) []
        (ap (is_open limit) (entry-leaf tree wide object level leaf.node) ∙ out-at (wides.Leaf leaf) is refl box) (All-nil IsOut)
    out-by (wides.Inner v) is box =
        All-cons IsOut (inner_at level v) []
        (ap (is_open limit) (entry-inner tree wide object level v) ∙ out-at (wides.Inner v) is refl box.1) (All-nil IsOut)

    pub child-shut : All IsOut (child level (child_at (children_in wide.nodes w) k))
    child-shut = out-by (child_at (children_in wide.nodes w) k) refl (box-at w k small few)

  pub child-out : (object : ObjectRayValue) → IsObjectRay object → (limit : Option Ratio) (level : Level) (w k : ℕ) → w < length wide.nodes → k < 8
      → (Overlaps (lanes_in wide.nodes w) (window_of object limit) k → ⊥)
      → All (λ n. is_open limit (entry_by tree wide object n) ≡ false) (child level (child_at (children_in wide.nodes w) k))
  child-out object ray limit level w k small few none =
      child-shut object limit level w k small few
      (λ is. unmet object (lane_box (lanes_in wide.nodes w) k) ray is limit (lanes_in wide.nodes w) k refl none)
