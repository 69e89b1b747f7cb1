-- The way down through wide nodes of which a ray meets one child alone.
use Rattle.std.proofs.Common.{ℕ, zero, suc, ◌≡◌, ◌+◌, ◌++◌, ◌<◌, ◌≤◌, ◌∙◌, Some, Option, List, [], ◌∷◌, length, slice_index_or, refl, sym, ap, subst, inl, arith}
use Rattle.std.specs.Prelude.{All, false}
use Rattle.std.specs.List.{flat_map}
use Rattle.std.proofs.lemmas.List.{append_assoc}
use Rattle.std.proofs.lemmas.List.Concat.{flat_map-cons}
use Rattle.std.proofs.lemmas.List.Elements.{All-nil, All-cons, All-head, All-tail}
use Rattle.std.proofs.lemmas.List.Sorted.{IsPermutation-refl}
use Rattle.ray_geom.specs.declared.ratio.Ratio.{Ratio}
use Rattle.ray_geom.specs.ObjectRay.{object_of}
use Rattle.ray_geom.specs.Transform.{identity_value}
use Rattle.ray_wide.specs.declared.node.WideRef.{WideRef}
use Rattle.ray_wide.specs.declared.node.WideRef.TheVariants as wides
use Rattle.ray_wide.specs.Wides.{IsChild, WideValue, child_at, children_in}
use Rattle.ray_nearest.specs.declared.node.WalkNode.{WalkNode}
use Rattle.ray_nearest.specs.declared.node.WalkNode.TheVariants.{Inner, TopInner}
use Rattle.ray_nearest.specs.declared.turn.Turn.{Turn}
use Rattle.ray_nearest.specs.Adding.{Adds, AddsNode, AddsNodes}
use Rattle.ray_nearest.specs.Scene.{SceneValue}
use Rattle.ray_query.specs.Limits.{is_open}
use Rattle.ray_nearest.proofs.Added.{each_itself, passed_by}
use Rattle.ray_walk.specs.declared.level.Level.TheVariants.{World, Object}
use Rattle.ray_walk.specs.declared.trees.Trees.{Trees}
use Rattle.ray_walk.specs.Aims.{AddsThrough, AreLeftOut, AreTrees, IsAlone, LeadsOn, LeadsTo, LeavesOut, entry_by, entry_through}
use Rattle.ray_candidates.specs.Placements.{Placement}
use Rattle.ray_walk.specs.Traced.{Traced, placement_at}
use Rattle.ray_walk.specs.WideScene.{below_by, child, inner_at, wide_below, wide_entry, wide_scene}
use Rattle.ray_walk.proofs.LeftOut.{is-child}
use Rattle.ray_walk.proofs.Pushing.{Adds-as, object-entries, world-entries}
use Rattle.ray_walk.proofs.Walking.{All-append}

-- ---- one level, and one more

module _ (limit : Option Ratio) (t : Trees) where
  pub leads-more : (k w v u : ℕ) → LeadsTo limit t k w v → LeadsOn limit t v u → LeadsTo limit t (suc k) w u
  leads-more zero w v u same on = (u, subst (λ x. LeadsOn limit t x u) (sym same) on, refl)
  leads-more (suc k) w v u (x, first, rest) on = (x, first, leads-more k x v u rest on)

  -- where one bit alone is set, a wide node leads on to its child
  module _ (trees : AreTrees t.tree.now t.wide.now) (w met u : ℕ) (small : w < length t.wide.now.nodes) (outs : LeavesOut limit t w met)
      (one : IsAlone (children_in t.wide.now.nodes w) met u) where
    eight : length (children_in t.wide.now.nodes w) ≡ 8
    eight = (trees.over.collapsed.each w small).eight

    out : (j : ℕ) → j < 8 → (j ≡ one.place → ⊥) → AreLeftOut limit t (child t.level (child_at (children_in t.wide.now.nodes w) j))
    out j few not = outs j few (λ bit. one.alone j few not bit)

    pub leads-on : LeadsOn limit t w u
    leads-on =
        let few : one.place < 8 = one.few in
        record {
          place = one.place;
          there = omega (arith, few, eight);
          is_it = one.is_it;
          others = λ j below not. out j (omega (arith, below, eight)) not;
        }

    -- which comes after it
    pub later : (w < u) × (u < length t.wide.now.nodes)
    later =
        let after = subst (IsChild t.tree.now.nodes t.wide.now.tops (w + 1)) one.is_it (is-child t.tree.now t.wide.now trees w one.place small one.few) in
        let topped = trees.over.collapsed.topped in
        let from : w + 1 ≤ u = after.0 in
        let below : u < length t.wide.now.tops = after.1 in
        (omega (arith, from), omega (arith, below, topped))

-- ---- one of a list, and the others

module _ {X Y : Type 0} (Q : Y → Type 0) (G : X → List Y) where
  of-all : (cs : List X) (d : X) → ((i : ℕ) → i < length cs → All Q (G (slice_index_or cs i d))) → All Q (flat_map G cs)
  of-all [] d each = All-nil Q
  of-all (c ∷ cs) d each =
      subst (λ ys. All Q ys) (sym (flat_map-cons G c cs))
      (All-append Q (G c) (flat_map G cs) (each 0 (omega arith)) (of-all cs d (λ i few. each (suc i) (omega (arith, few)))))

  parted : (cs : List X) (j : ℕ) (d : X) → j < length cs
      → ((i : ℕ) → i < length cs → (i ≡ j → ⊥) → All Q (G (slice_index_or cs i d)))
      → (xs : List Y) × (ys : List Y) × (flat_map G cs ≡ xs ++ (G (slice_index_or cs j d) ++ ys)) × All Q xs × All Q ys
  parted [] j d small each = absurd (omega (arith, small))
  parted (c ∷ cs) zero d small each =
      ([], flat_map G cs, flat_map-cons G c cs, All-nil Q, of-all cs d (λ i few. each (suc i) (omega (arith, few)) (λ e. absurd (omega (arith, e)))))
  parted (c ∷ cs) (suc j) d small each =
      let (xs, ys, same, first, last) =
      parted cs j d (omega (arith, small)) (λ i few not. each (suc i) (omega (arith, few)) (λ e. not (omega (arith, e)))) in (
        G c ++ xs,
        ys,
        flat_map-cons G c cs ∙ (ap (λ zs. G c ++ zs) same ∙ sym (append_assoc (G c) xs (G (slice_index_or cs j d) ++ ys))),
        All-append Q (G c) xs (each 0 (omega arith) (λ e. absurd (omega (arith, e)))) first,
        last,
      )

-- ---- in a scene

-- trees as a scene has them: what is below their wide nodes, where nothing is found, and the entries of children
pub record AreWays (t : Trees) (s : SceneValue) : Type 0 where
  pub below : (w : ℕ) → s.below (inner_at t.level w) ≡ flat_map (child t.level) (children_in t.wide.now.nodes w)
  pub none : (w : ℕ) → s.finds (inner_at t.level w) ≡ []
  pub same : (c : WideRef) → All (λ n. entry_through t n ≡ s.entry n) (child t.level c)

module _ (limit : Option Ratio) (t : Trees) (s : SceneValue) (ways : AreWays t s) where
  abbrev IsShut : WalkNode → Type 0
  IsShut n = is_open limit (s.entry n) ≡ false

  -- what is left out adds nothing
  shut-all : (ns : List WalkNode) → All (λ n. entry_through t n ≡ s.entry n) ns → AreLeftOut limit t ns → All IsShut ns
  shut-all [] same out = All-nil IsShut
  shut-all (n ∷ ns) same out =
      let E = λ (m : WalkNode). entry_through t m ≡ s.entry m in
      let P = λ (m : WalkNode). is_open limit (entry_through t m) ≡ false in
      All-cons IsShut n ns (sym (ap (is_open limit) (All-head E n ns same)) ∙ All-head P n ns out) (shut-all ns (All-tail E n ns same) (All-tail P n ns out))

  none-added : (ns : List WalkNode) → All IsShut ns → (turns : List Turn) → Adds (AddsNode limit s.entry) ns turns turns
  none-added [] shut turns = IsPermutation-refl turns
  none-added (n ∷ ns) shut turns =
      (turns, ([], inl (refl, All-head IsShut n ns shut), IsPermutation-refl turns), none-added ns (All-tail IsShut n ns shut) turns)

  same-all : (cs : List WideRef) → All (λ n. entry_through t n ≡ s.entry n) (flat_map (child t.level) cs)
  same-all [] = All-nil (λ n. entry_through t n ≡ s.entry n)
  same-all (c ∷ cs) =
      let E = λ (n : WalkNode). entry_through t n ≡ s.entry n in
      subst (λ ns. All E ns) (sym (flat_map-cons (child t.level) c cs)) (All-append E (child t.level c) (flat_map (child t.level) cs) (ways.same c) (same-all cs))

  one-level : (w u : ℕ) (old new : List Turn) → LeadsOn limit t w u → AddsNodes limit s (s.below (inner_at t.level u)) old new
      → AddsNodes limit s (s.below (inner_at t.level w)) old new
  one-level w u old new on added =
      let cs = children_in t.wide.now.nodes w in
      let (xs, ys, split, first, last) =
      parted IsShut (child t.level) cs on.place wides.Empty on.there
      (λ i few not. shut-all (child t.level (slice_index_or cs i wides.Empty)) (ways.same (slice_index_or cs i wides.Empty)) (on.others i few not)) in
      let here : flat_map (child t.level) cs ≡ xs ++ (child t.level (wides.Inner u) ++ ys) =
      split ∙ ap (λ (c : WideRef). xs ++ (child t.level c ++ ys)) on.is_it in
      subst (λ ns. AddsNodes limit s ns old new) (sym (ways.below w ∙ here))
      (passed_by limit s xs ys (inner_at t.level u) old new (ways.none u) (none-added xs first) (none-added ys last) added)

  -- the turns of the children of the wide node to which one leads stand for those of its own
  pub down : (k w v : ℕ) (old new : List Turn) → LeadsTo limit t k w v
      → AddsThrough limit t (flat_map (child t.level) (children_in t.wide.now.nodes v)) old new
      → AddsNodes limit s (s.below (inner_at t.level w)) old new
  down zero w v old new same added =
      subst (λ x. AddsNodes limit s (s.below (inner_at t.level x)) old new) (sym same)
      (subst (λ ns. AddsNodes limit s ns old new) (sym (ways.below v))
      (each_itself limit s (flat_map (child t.level) (children_in t.wide.now.nodes v)) old new
      (Adds-as limit (entry_through t) s.entry (flat_map (child t.level) (children_in t.wide.now.nodes v))
      (same-all (children_in t.wide.now.nodes v)) old new added)))
  down (suc k) w v old new (u, on, rest) added = one-level w u old new on (down k u v old new rest added)

-- ---- in the program's scene

module _ (s : Traced) (t : Trees) where
  pub object-ways : (i : ℕ) (p : Placement) → placement_at s i ≡ Some p → t.tree.now ≡ p.bottom.tree → t.wide.now ≡ p.bottom.wide
      → t.ray.now ≡ object_of s.ray p.instance.matrix → t.level ≡ Object i → AreWays t (wide_scene s)
  unfolding wide_scene
  object-ways i p is tree wide ray level = record {
    below = subst (λ l. (w : ℕ) → (wide_scene s).below (inner_at l w) ≡ flat_map (child l) (children_in t.wide.now.nodes w)) (sym level)
        (λ w. ap (below_by i w) is ∙ ap (λ (x : WideValue). flat_map (child (Object i)) (children_in x.nodes w)) (sym wide));
    none = subst (λ l. (w : ℕ) → (wide_scene s).finds (inner_at l w) ≡ []) (sym level) (λ w. refl);
    same = subst (λ l. (c : WideRef) → All (λ n. entry_through t n ≡ (wide_scene s).entry n) (child l c)) (sym level)
        (λ c. subst (λ (E : WalkNode → Option Ratio). All (λ n. E n ≡ wide_entry s n) (child (Object i) c))
        (λ j. entry_by (sym tree j) (sym wide j) (sym ray j)) (object-entries s i p is c));
  }

  pub world-ways : t.tree.now ≡ s.top.tree → t.wide.now ≡ s.top.wide → t.ray.now ≡ object_of s.ray identity_value → t.level ≡ World
      → AreWays t (wide_scene s)
  unfolding wide_scene
  world-ways tree wide ray level = record {
    below = subst (λ l. (w : ℕ) → (wide_scene s).below (inner_at l w) ≡ flat_map (child l) (children_in t.wide.now.nodes w)) (sym level)
        (λ w. ap (λ (x : WideValue). flat_map (child World) (children_in x.nodes w)) (sym wide));
    none = subst (λ l. (w : ℕ) → (wide_scene s).finds (inner_at l w) ≡ []) (sym level) (λ w. refl);
    same = subst (λ l. (c : WideRef) → All (λ n. entry_through t n ≡ (wide_scene s).entry n) (child l c)) (sym level)
        (λ c. subst (λ (E : WalkNode → Option Ratio). All (λ n. E n ≡ wide_entry s n) (child World c))
        (λ j. entry_by (sym tree j) (sym wide j) (sym ray j)) (world-entries s c));
  }

-- what is below a wide node, as the scene has it
pub below-inner : (s : Traced) (limit : Option Ratio) (i w : ℕ) (old new : List Turn) → AddsNodes limit (wide_scene s) ((wide_scene s).below (Inner i w)) old new
    → AddsNodes limit (wide_scene s) (wide_below s (Inner i w)) old new
unfolding wide_scene
below-inner s limit i w old new added = added

pub below-top : (s : Traced) (limit : Option Ratio) (w : ℕ) (old new : List Turn) → AddsNodes limit (wide_scene s) ((wide_scene s).below (TopInner w)) old new
    → AddsNodes limit (wide_scene s) (wide_below s (TopInner w)) old new
unfolding wide_scene
below-top s limit w old new added = added
