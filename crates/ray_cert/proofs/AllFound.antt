-- What is found in all parts of a ray is what the ray finds, in another order; and each part is sound.
use Rattle.std.proofs.Common.{◌≡◌, ◌∙◌, ◌*◌, ◌^◌, ◌≤◌, refl, sym, ap, subst, ℕ, Bool, true, false, if◌then◌else◌, List, [], ◌∷◌, ◌++◌, Option, Some, None, option_map, option_and_then, length, slice_get, append_assoc, append-nil, arith}
use Rattle.std.specs.List.{flat_map, range_with_len}
use Rattle.std.specs.List.Sorted.{IsPermutation}
use Rattle.std.proofs.lemmas.List.Concat.{flat_map-cons}
use Rattle.std.proofs.lemmas.List.Sorted.{IsPermutation-refl, IsPermutation-sym, sum_by-IsPermutation}
use Rattle.ray_geom.specs.declared.ratio.Ratio.{Ratio}
use Rattle.ray_geom.specs.Frac.{numerator, denominator}
use Rattle.ray_geom.specs.Ratio.{parts_of}
use Rattle.ray_geom.specs.ObjectRay.{object_of}
use Rattle.ray_geom.specs.Scene.{IsRay, RayValue}
use Rattle.ray_prune.specs.BoxSpan.{IsInside}
use Rattle.ray_flags.specs.declared.ray_flags.RayFlags.{RayFlags}
use Rattle.ray_stated.proofs.Ordered.{stated_once}
use Rattle.ray_stated.proofs.Planned.{over_halved}
use Rattle.ray_stated.specs.Order.{stated_order}
use Rattle.ray_stated.specs.Stated.{stated_tree}
use Rattle.ray_tree.specs.Trees.{TreeOver, items_below, shape_at}
use Rattle.ray_geom.specs.Boxes.{BoxValue}
use Rattle.ray_bottom.proofs.Places.{items-few}
use Rattle.ray_bottom.specs.Slots.{AreSound, Slots, structure_at}
use Rattle.ray_bottom.specs.Trees.{BottomWithTree, items_of, place_at, without_tree}
use Rattle.ray_top.specs.Instances.{InstanceValue}
use Rattle.ray_top.specs.Contents.{IsActive, IsInstance, IsTop, TopValue}
use Rattle.ray_query.specs.declared.candidate.Candidate.{Candidate}
use Rattle.ray_query.specs.declared.commit.Commit.{Commit}
use Rattle.ray_query.specs.declared.decision.Decision.{Decision}
use Rattle.ray_query.specs.declared.found.Found.{Found}
use Rattle.ray_query.specs.KeyOrder.{AreApart, has_key, in_key_order}
use Rattle.ray_query.specs.Limits.{IsInOrder}
use Rattle.ray_query.specs.Play.{play, start}
use Rattle.ray_query.proofs.Members.{Member, Member-flat_map, Member-permuted}
use Rattle.ray_query.proofs.Orders.{Each}
use Rattle.ray_query.proofs.Rising.{in_key_order-same}
use Rattle.ray_candidates.specs.Candidates.{active_instance, candidates, found_in, found_in_instance, found_in_structure, is_seen, joined, trace_answer}
use Rattle.ray_candidates.specs.Placements.{IsWellPlaced, Placement, found_by_item}
use Rattle.ray_candidates.specs.Standing.{AreStanding, structures_in}
use Rattle.ray_candidates.specs.Telling.{IsPlaceable}
use Rattle.ray_candidates.proofs.Aligned.{joined-range}
use Rattle.ray_candidates.proofs.Apart.{AreApart-found}
use Rattle.ray_candidates.proofs.FoundInside.{IsFoundIn, found_inside}
use Rattle.ray_candidates.proofs.Opened.{le_tells}
use Rattle.ray_candidates.proofs.Placing.{All-at, placeable_at}
use Rattle.ray_candidates.proofs.Spread.{joined-permuted}
use Rattle.ray_candidates.proofs.StructureFound.{bottom-found}
use Rattle.ray_cert.specs.Certificates.{CertValue, Supports, cert_of, name_of}
use Rattle.ray_cert.specs.Parts.{Part, part_of, parts_at, parts_by, parts_of_ray, placement_of, tree_of}
use Rattle.ray_cert.specs.PlayLaw.{IsUpTo}
use Rattle.ray_cert.proofs.BelowNodes.{root_held}
use Rattle.ray_cert.proofs.Supporting.{answer-supported, supported-answer}
use Rattle.ray_cert.proofs.TestedUpTo.{IsSoundPart, all_in, all_in_part}

-- the stated tree is a tree over the items
pub stated-over : (items : List (Option BoxValue)) → length items ≤ 2 ^ 20 → TreeOver (stated_tree items) items
stated-over items few = over_halved items (stated_order items) (length (stated_order items)) refl few (stated_once items)

-- ---- lists of parts

all_in-append : (ps qs : List Part) → all_in (ps ++ qs) ≡ all_in ps ++ all_in qs
all_in-append [] qs = refl
all_in-append (p ∷ ps) qs =
    ap (λ zs. all_in_part p ++ zs) (all_in-append ps qs) ∙ sym (append_assoc (all_in_part p) (all_in ps) (all_in qs))

all_in-flat_map : (each : ℕ → List Part) (ns : List ℕ) → all_in (flat_map each ns) ≡ flat_map (λ n. all_in (each n)) ns
all_in-flat_map each [] = refl
all_in-flat_map each (n ∷ ns) =
    ap all_in (flat_map-cons each n ns)
    ∙ (all_in-append (each n) (flat_map each ns)
    ∙ (ap (λ zs. all_in (each n) ++ zs) (all_in-flat_map each ns) ∙ sym (flat_map-cons (λ m. all_in (each m)) n ns)))

Each-append : {X : Type 0} (P : X → Type 0) (xs ys : List X) → Each P xs → Each P ys → Each P (xs ++ ys)
Each-append P [] ys first second = second
Each-append P (x ∷ xs) ys (here, rest) second = (here, Each-append P xs ys rest second)

Each-flat_map : {X Y : Type 0} (P : Y → Type 0) (each : X → List Y) (xs : List X) → ((x : X) → Each P (each x)) → Each P (flat_map each xs)
Each-flat_map P each [] all = tt
Each-flat_map P each (x ∷ xs) all =
    subst (Each P) (sym (flat_map-cons each x xs)) (Each-append P (each x) (flat_map each xs) (all x) (Each-flat_map P each xs all))

-- ---- what is given

-- a top structure within the limits, whose instances' structures stand among sound ones, and a ray within the limits
pub record IsGiven (top : TopValue) (bottoms : Slots) (ray : RayValue) : Type 0 where
  pub limits : IsTop top
  pub standing : AreStanding top (structures_in bottoms)
  pub sound : AreSound bottoms
  pub is_ray : IsRay ray

-- parts are sound, and what is found there is this, in another order
record AreParts (end : Ratio) (ps : List Part) (fs : List Found) : Type 0 where
  pub sound : Each (IsSoundPart end) ps
  pub moved : IsPermutation (all_in ps) fs

no_parts : (end : Ratio) → AreParts end [] []
no_parts end = record { sound = tt; moved = IsPermutation-refl [] }

abbrev placing : InstanceValue → BottomWithTree → Placement
placing i b = record { instance = i; bottom = b }

module _ (top : TopValue) (bottoms : Slots) (ray : RayValue) (flags : RayFlags) (mask : ℕ) (given : IsGiven top bottoms ray) where
  well-placed : (n : ℕ) (i : InstanceValue) (b : BottomWithTree) → slice_get top.contents.instances n ≡ Some (Some i) → structure_at i.id bottoms ≡ Some b
      → IsWellPlaced (placing i b)
  well-placed n i b at stands =
      let is : IsInstance top.used (Some i) = All-at (IsInstance top.used) top.contents.instances n (Some i) given.limits.each at in
      let active : IsActive top.used i = is.limits in
      let placeable : IsPlaceable (structures_in bottoms) i = placeable_at top (structures_in bottoms) n i given.limits given.standing at in
      record {
        matrix = active.matrix;
        kept = placeable.kept (without_tree b) (ap (option_map without_tree) stands);
        sound = given.sound.each i.id b stands;
      }

  over_of : (i : InstanceValue) (b : BottomWithTree) → structure_at i.id bottoms ≡ Some b → TreeOver (tree_of b) (items_of b.geometries)
  over_of i b stands =
      let few = items-few b.geometries in
      let most = (given.sound.each i.id b stands).limits.primitives in
      stated-over (items_of b.geometries) (omega (arith, few, most))

  -- what is found of an item
  found-item : (n : ℕ) (p : Placement) (f : Found) → IsWellPlaced p → Member f (all_in_part (part_of ray flags n p (tree_of p.bottom)))
      → IsInOrder f × IsUpTo (parts_of ray.tmax) f.t
  found-item n p f well m =
      let tree = tree_of p.bottom in
      let (q, among, found) = Member-flat_map (found_by_item ray flags n p) (items_below tree.order (shape_at tree 0)) f m in
      let here : IsFoundIn ray p (place_at p.bottom.geometries q) f = found_inside ray flags n p q f given.is_ray well found in
      let inside : IsInside (object_of ray p.instance.matrix) here.box (numerator f.t) (denominator f.t) = here.inside in
      (here.in_order, le_tells (f.t.num * 65536) (ray.tmax * f.t.den) (let to = inside.to in omega (arith, to)))

  part-placed : (n : ℕ) (i : InstanceValue) (b : BottomWithTree) → slice_get top.contents.instances n ≡ Some (Some i) → structure_at i.id bottoms ≡ Some b
      → AreParts (parts_of ray.tmax) (parts_by ray flags n (Some (placing i b))) (found_in_structure ray flags n i (Some (without_tree b)))
  part-placed n i b at stands =
      let p = placing i b in
      let tree = tree_of b in
      let well : IsWellPlaced p = well-placed n i b at stands in
      let over = over_of i b stands in
      record {
        sound = (
          record {
            held = root_held ray flags n p tree given.is_ray well over;
            in_order = λ f m. (found-item n p f well m).0;
            within = λ f m. (found-item n p f well m).1;
          },
          tt,
        );
        moved = subst (λ zs. IsPermutation zs (found_in_structure ray flags n i (Some (without_tree b))))
            (sym (append-nil (all_in_part (part_of ray flags n p tree)))) (bottom-found ray flags n p tree over);
      }

  by_structure : (n : ℕ) (i : InstanceValue) (o : Option BottomWithTree) → slice_get top.contents.instances n ≡ Some (Some i) → structure_at i.id bottoms ≡ o
      → AreParts (parts_of ray.tmax) (parts_by ray flags n (option_map (placing i) o)) (found_in_structure ray flags n i (option_map without_tree o))
  by_structure n i None at stands = no_parts (parts_of ray.tmax)
  by_structure n i (Some b) at stands = part-placed n i b at stands

  by_mask : (n : ℕ) (i : InstanceValue) (seen : Bool) → slice_get top.contents.instances n ≡ Some (Some i)
      → AreParts (parts_of ray.tmax) (parts_by ray flags n (if seen then option_map (placing i) (structure_at i.id bottoms) else None))
      (if seen then found_in_structure ray flags n i (structures_in bottoms i.id) else [])
  by_mask n i true at = by_structure n i (structure_at i.id bottoms) at refl
  by_mask n i false at = no_parts (parts_of ray.tmax)

  by_active : (n : ℕ) (o : Option (Option InstanceValue)) → slice_get top.contents.instances n ≡ o
      → AreParts (parts_of ray.tmax) (parts_by ray flags n (option_and_then (placement_of bottoms mask) (option_and_then (λ j. j) o)))
      (found_in_instance (structures_in bottoms) ray flags mask n (option_and_then (λ j. j) o))
  by_active n None at = no_parts (parts_of ray.tmax)
  by_active n (Some None) at = no_parts (parts_of ray.tmax)
  by_active n (Some (Some i)) at = by_mask n i (is_seen mask i) at

  at_number : (n : ℕ) → AreParts (parts_of ray.tmax) (parts_at top.contents bottoms ray flags mask n)
      (found_in_instance (structures_in bottoms) ray flags mask n (active_instance top.contents n))
  at_number n = by_active n (slice_get top.contents.instances n) refl

  -- ---- all of them

  abbrev all_parts : List Part
  all_parts = parts_of_ray top.contents bottoms ray flags mask

  abbrev all_found : List Found
  all_found = found_in top.contents (structures_in bottoms) ray flags mask

  parts-sound : Each (IsSoundPart (parts_of ray.tmax)) all_parts
  parts-sound =
      Each-flat_map (IsSoundPart (parts_of ray.tmax)) (parts_at top.contents bottoms ray flags mask) (range_with_len 0 (length top.contents.instances))
      (λ n. (at_number n).sound)

  parts-found : IsPermutation (all_in all_parts) all_found
  parts-found =
      let many = length top.contents.instances in
      let F = λ (n : ℕ). all_in (parts_at top.contents bottoms ray flags mask n) in
      let G = λ (n : ℕ). found_in_instance (structures_in bottoms) ray flags mask n (active_instance top.contents n) in
      let whole : all_in all_parts ≡ joined F many =
      all_in-flat_map (parts_at top.contents bottoms ray flags mask) (range_with_len 0 many) ∙ sym (joined-range F many) in
      subst (λ zs. IsPermutation zs all_found) (sym whole) (joined-permuted F G many (λ n below. (at_number n).moved))

  pub parts-apart : AreApart (all_in all_parts)
  parts-apart = record {
    once = λ k.
        let same = sum_by-IsPermutation (has_key k) (all_in all_parts) all_found parts-found in
        let once = (AreApart-found top.contents (structures_in bottoms) ray flags mask).once k in
        omega (arith, same, once);
  }

  same_order : in_key_order (all_in all_parts) ≡ in_key_order all_found
  same_order =
      in_key_order-same (all_in all_parts) all_found parts-apart (AreApart-found top.contents (structures_in bottoms) ray flags mask)
      (λ f m. Member-permuted (all_in all_parts) all_found f parts-found m)
      (λ f m. Member-permuted all_found (all_in all_parts) f (IsPermutation-sym (all_in all_parts) all_found parts-found) m)

  module _ (meaning : Candidate → Decision) (number : ℕ) where
    same_answer : (play meaning number flags start (in_key_order (all_in all_parts))).committed
        ≡ trace_answer meaning top.contents (structures_in bottoms) ray number flags mask
    unfolding candidates
    same_answer = ap (λ fs. (play meaning number flags start fs).committed) same_order

    -- a certificate that supports its hit names the answer of testing every primitive
    pub named-answer : (cert : CertValue) → Supports meaning top.contents bottoms ray number flags mask cert
        → option_map name_of (trace_answer meaning top.contents (structures_in bottoms) ray number flags mask) ≡ cert.named
    named-answer cert s =
        ap (option_map name_of) (sym same_answer)
        ∙ supported-answer (parts_of ray.tmax) all_parts parts-sound parts-apart meaning number flags cert s

    -- and the certificate that is made of the answer supports it
    pub made-supports : (o : Option Commit) → o ≡ trace_answer meaning top.contents (structures_in bottoms) ray number flags mask
        → Supports meaning top.contents bottoms ray number flags mask (cert_of (parts_of ray.tmax) all_parts o)
    made-supports o is =
        answer-supported (parts_of ray.tmax) all_parts parts-sound parts-apart meaning number flags o (is ∙ sym same_answer)
