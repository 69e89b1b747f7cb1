-- What a walk of all that a ray is traced through answers is the answer of the trace.
use Rattle.std.proofs.Common.{ℕ, zero, suc, ◌≡◌, ◌<◌, Option, Some, None, List, [], ◌∷◌, length, get_or, option_map, refl, sym, ap, subst, ◌∙◌, arith}
use Rattle.std.specs.Prelude.{IfOk, IfSome, Result, Ok, Err, slice_get, option_and_then}
use Rattle.std.specs.List.{flat_map}
use Rattle.std.specs.List.Sorted.{IsPermutation}
use Rattle.std.proofs.lemmas.List.{get_or-map, length-map}
use Rattle.std.proofs.lemmas.List.Sorted.{IsPermutation-trans, IsPermutation-sym, sum_by-IsPermutation, Contains-permutation}
use Rattle.ray_tree.specs.declared.node.Node.{Node}
use Rattle.ray_tree.specs.Trees.{shape_at, item_box}
use Rattle.ray_tree.specs.Trees.{items_below}
use Rattle.ray_geometries.specs.Contents.{ContentsValue, bounds_of}
use Rattle.ray_bottom.specs.Slots.{structure_at}
use Rattle.ray_bottom.specs.Trees as bottoms
use Rattle.ray_top.specs.Instances.{InstanceValue}
use Rattle.ray_top.specs.InstanceReading.{bounds_in}
use Rattle.ray_top.specs.Trees as tops
use Rattle.ray_query.specs.declared.candidate.Candidate.{Candidate}
use Rattle.ray_query.specs.declared.decision.Decision.{Decision}
use Rattle.ray_query.specs.Play.{play, start}
use Rattle.ray_nearest.specs.Parts.{scene_of}
use Rattle.ray_nearest.specs.Answer.{answer_in}
use Rattle.ray_query.specs.KeyOrder.{AreApart, has_key, in_key_order}
use Rattle.ray_nearest.specs.Scene.{found_in as found_in_scene}
use Rattle.ray_query.proofs.Members.{Member-from_Contains, Contains-from_Member}
use Rattle.ray_query.proofs.Rising.{in_key_order-same}
use Rattle.ray_candidates.specs.Candidates.{active_instance, found_in, found_in_instance, joined, candidates, trace_answer}
use Rattle.ray_candidates.specs.Standing.{IsStanding, structures_in}
use Rattle.ray_walk.specs.Sound.{IsWalkable}
use Rattle.ray_walk.specs.Traced.{Traced, parts_of, traced_scene, placement_at, placement_of, ref, root_in, roots_by, top_ref}
use Rattle.ray_candidates.specs.Placements.{Placement}
use Rattle.ray_candidates.proofs.Apart.{AreApart-found}
use Rattle.ray_candidates.proofs.Placing.{All-at}
use Rattle.ray_walk.proofs.WellPlaced.{is_placement}
use Rattle.ray_candidates.proofs.Spread.{joined-spread, joined-permuted}
use Rattle.ray_walk.proofs.Every.{all, of_instance, top-every}
use Rattle.ray_walk.proofs.Everywhere.{instance-found, no-root, no_bounds, root-gives}
use Rattle.ray_candidates.proofs.StructureFound.{tree-spread}
use Rattle.ray_walk.proofs.Walking.{are-parts}

at-get : {X : Type 0} (xs : List X) (k : ℕ) (d : X) → k < length xs → slice_get xs k ≡ Some (get_or xs k d)
at-get [] k d below = absurd (omega (arith, below))
at-get (x ∷ xs) zero d below = refl
at-get (x ∷ xs) (suc k) d below = at-get xs k d (omega (arith, below))

some_same : {X : Type 0} (x y : X) → Some x ≡ Some y → x ≡ y
some_same x y e = cc

same_twice : {X : Type 0} (x y : X) → Some (Some x) ≡ Some (Some y) → x ≡ y
same_twice x y e = some_same x y (some_same (Some x) (Some y) e)

module _ (s : Traced) (w : IsWalkable s) where
  -- nothing is found of an instance that has no box in the world
  no_roots : (j : ℕ) (p : Placement) → placement_at s j ≡ Some p → bounds_of p.bottom.geometries ≡ None → of_instance s (are-parts s w) j ≡ []
  no_roots j p is none = ap (λ o. flat_map (all s (are-parts s w)) (roots_by j o)) is ∙ by p.bottom.tree.nodes refl
    where
      by : (ns : List Node) → p.bottom.tree.nodes ≡ ns → flat_map (all s (are-parts s w)) (root_in ns (ref j p.bottom.tree 0)) ≡ []
      by [] e = refl
      by (x ∷ xs) e = let many = ap length e in
          let over = (w.bottoms.each p.instance.id p.bottom (is_placement s j p is).stands).over in
          absurd (no-root p.bottom.tree p.bottom.geometries over none (omega (arith, many)))

  no_placement : (j : ℕ) → placement_at s j ≡ None → of_instance s (are-parts s w) j ≡ []
  no_placement j is = ap (λ o. flat_map (all s (are-parts s w)) (roots_by j o)) is

  of_active : (j : ℕ) (i : InstanceValue) → slice_get s.top.contents.instances j ≡ Some (Some i)
      → option_and_then (tops.world_box i.matrix) (option_and_then (λ bounds. bounds) (bounds_in s.top.used i.id)) ≡ None
      → (o : Option Placement) → placement_at s j ≡ o → of_instance s (are-parts s w) j ≡ []
  of_active j i at none None is = no_placement j is
  of_active j i at none (Some p) is =
      let placed = is_placement s j p is in
      let same : i ≡ p.instance = same_twice i p.instance (sym at ∙ placed.active) in
      let standing : IsStanding s.top.used (structures_in s.bottoms) i =
      All-at (λ k. IfSome k (IsStanding s.top.used (structures_in s.bottoms))) s.top.contents.instances j (Some i) w.standing.each at in
      let there : structures_in s.bottoms i.id ≡ Some (bottoms.without_tree p.bottom) =
      ap (option_map bottoms.without_tree) (ap (λ (k : InstanceValue). structure_at k.id s.bottoms) same ∙ placed.stands) in
      let contents : standing.bottom ≡ bottoms.without_tree p.bottom =
      some_same standing.bottom (bottoms.without_tree p.bottom) (sym standing.stands ∙ there) in
      let bounds : bounds_in s.top.used i.id ≡ Some (bounds_of p.bottom.geometries) =
      standing.bounds ∙ ap (λ (c : ContentsValue). Some (bounds_of c.geometries)) contents in
      no_roots j p is
      (no_bounds i.matrix (bounds_of p.bottom.geometries)
      (sym (ap (λ o. option_and_then (tops.world_box i.matrix) (option_and_then (λ b. b) o)) bounds) ∙ none))

  nothing : (j : ℕ) → j < length (tops.items_of (tops.without_tree s.top)) → item_box (tops.items_of (tops.without_tree s.top)) j ≡ None
      → of_instance s (are-parts s w) j ≡ []
  nothing j below none =
      let instances = s.top.contents.instances in
      by (get_or instances j None) (at-get instances j None small) (sym (get_or-map (tops.item_of s.top.used) instances j None None small) ∙ none)
    where
      small : j < length s.top.contents.instances
      small = let many = length-map s.top.contents.instances (tops.item_of s.top.used) in omega (arith, many, below)

      by : (o : Option InstanceValue) → slice_get s.top.contents.instances j ≡ Some o → tops.item_of s.top.used o ≡ None → of_instance s (are-parts s w) j ≡ []
      by None at e =
          let inactive : active_instance s.top.contents j ≡ None = ap (option_and_then (λ k. k)) at in
          no_placement j (ap (option_and_then (placement_of s.bottoms s.mask)) inactive)
      by (Some i) at e = of_active j i at e (placement_at s j) refl

  pub walk-found : IsPermutation (found_in_scene (scene_of (parts_of s))) (found_in s.top.contents (structures_in s.bottoms) s.ray s.flags s.mask)
  walk-found =
      let parts = are-parts s w in
      let items = tops.items_of (tops.without_tree s.top) in
      let xs = items_below s.top.tree.order (shape_at s.top.tree 0) in
      let F = of_instance s parts in
      let G = λ (n : ℕ). found_in_instance (structures_in s.bottoms) s.ray s.flags s.mask n (active_instance s.top.contents n) in
      let whole : found_in_scene (scene_of (parts_of s)) ≡ flat_map F xs =
      root-gives (all s parts) F s.top.tree (top_ref s.top.tree 0) (λ some. top-every s parts w.over.shape 0 some) in
      let spread = joined-spread F (length items) xs (tree-spread F s.top.tree items w.over nothing) in
      let each = joined-permuted F G (length items) (λ k below. instance-found s w parts k) in
      let many : length items ≡ length s.top.contents.instances = length-map s.top.contents.instances (tops.item_of s.top.used) in
      subst (λ zs. IsPermutation zs (found_in s.top.contents (structures_in s.bottoms) s.ray s.flags s.mask)) (sym whole)
      (subst (λ n. IsPermutation (flat_map F xs) (joined G n)) many
      (IsPermutation-trans (flat_map F xs) (joined F (length items)) (joined G (length items)) spread each))

  -- no key stands twice among what is found
  pub apart : AreApart (found_in_scene (scene_of (parts_of s)))
  apart = record {
    once = λ k.
        let ys = found_in s.top.contents (structures_in s.bottoms) s.ray s.flags s.mask in
        let same = sum_by-IsPermutation (has_key k) (found_in_scene (scene_of (parts_of s))) ys walk-found in
        let once = (AreApart-found s.top.contents (structures_in s.bottoms) s.ray s.flags s.mask).once k in
        omega (arith, same, once);
  }

  -- in rising order of keys, both are the same
  pub same-order : in_key_order (found_in_scene (scene_of (parts_of s))) ≡ in_key_order (found_in s.top.contents (structures_in s.bottoms) s.ray s.flags s.mask)
  same-order =
      let xs = found_in_scene (scene_of (parts_of s)) in
      let ys = found_in s.top.contents (structures_in s.bottoms) s.ray s.flags s.mask in
      in_key_order-same xs ys apart (AreApart-found s.top.contents (structures_in s.bottoms) s.ray s.flags s.mask)
      (λ f m. Member-from_Contains ys f (Contains-permutation xs ys f walk-found (Contains-from_Member xs f m)))
      (λ f m. Member-from_Contains xs f (Contains-permutation ys xs f (IsPermutation-sym xs ys walk-found) (Contains-from_Member ys f m)))

  pub walk-answer : (meaning : Candidate → Decision) (number : ℕ)
      → answer_in meaning number s.flags (traced_scene s) ≡ trace_answer meaning s.top.contents (structures_in s.bottoms) s.ray number s.flags s.mask
  unfolding traced_scene candidates
  walk-answer meaning number = ap (λ fs. (play meaning number s.flags start fs).committed) same-order

-- what is answered, where it is answered
pub other-answer : {A E : Type 0} (r : Result A E) (x y : A) → x ≡ y → IfOk r (λ a. a ≡ x) → IfOk r (λ a. a ≡ y)
other-answer (Ok a) x y same is = is ∙ same
other-answer (Err e) x y same is = is
