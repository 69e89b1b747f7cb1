-- What a string tells of a part, as the program reads it.
use Rattle.std.proofs.Common.{◌≡◌, ◌∙◌, ◌+◌, ◌<◌, ◌≤◌, ◌-◌, refl, sym, ap, ℕ, suc, zero, Bool, true, false, if◌then◌else◌, List, [], ◌∷◌, ◌++◌, Option, Some, None, option_map, option_and_then, length, drop, slice_get, arith}
use Rattle.std.specs.Prelude.{IfSome}
use Rattle.std.specs.List.{flat_map, range_with_len}
use Rattle.std.proofs.lemmas.List.Concat.{flat_map-cons}
use Rattle.ray_geom.specs.declared.ratio.Ratio.{Ratio}
use Rattle.ray_geom.specs.ObjectRay.{ObjectRayValue, object_of}
use Rattle.ray_geom.specs.Scene.{RayValue}
use Rattle.ray_flags.specs.declared.ray_flags.RayFlags.{RayFlags}
use Rattle.ray_tree.specs.Trees.{TreeValue, shape_at}
use Rattle.ray_bottom.specs.Slots.{Slots}
use Rattle.ray_top.specs.declared.instance.Instance.{Instance}
use Rattle.ray_top.specs.Instances.{InstanceValue, instance_value}
use Rattle.ray_top.specs.Contents.{ContentsValue as TopContents}
use Rattle.ray_query.specs.declared.found.Found.{Found}
use Rattle.ray_candidates.specs.Candidates.{active_instance}
use Rattle.ray_candidates.specs.Placements.{Placement, found_by_item}
use Rattle.ray_candidates.proofs.Placing.{All-at}
use Rattle.ray_cert.specs.Certificates.{digits_in}
use Rattle.ray_cert.specs.Checking.{found_taken, gathered_from, is_met_in, string_taken, taken_of, whole_of}
use Rattle.ray_cert.specs.Parts.{AreStatedFor, IsStatedFor, Part, Trees, part_of, parts_at, parts_by, parts_from, placement_of, tree_of}
use Rattle.ray_cert.proofs.Taking.{drop-all, drop-some}

-- ---- one string

behind-found : (before : List Found) (find : ℕ → List Found) (o : Option (List ℕ))
    → option_map (λ gs. before ++ gs) (option_map (flat_map find) o) ≡ option_map (λ items. before ++ flat_map find items) o
behind-found before find None = refl
behind-found before find (Some items) = refl

pub string-read-as : (limit : Ratio) (ray : RayValue) (flags : RayFlags) (number : ℕ) (p : Placement) (tree : TreeValue) (object : ObjectRayValue) (digits : List Bool)
    (before : List Found) (o : Option (List ℕ)) → object ≡ object_of ray p.instance.matrix
    → o ≡ whole_of (taken_of (is_met_in object limit tree) tree.order (shape_at tree 0) digits)
    → option_map (λ gs. before ++ gs) (found_taken limit (part_of ray flags number p tree) digits)
    ≡ option_map (λ items. before ++ flat_map (found_by_item ray flags number p) items) o
string-read-as limit ray flags number p tree object digits before o same told =
    let find = found_by_item ray flags number p in
    ap (λ (q : Option (List ℕ)). option_map (λ gs. before ++ gs) (option_map (flat_map find) q))
    (sym (told ∙ ap (λ (ob : ObjectRayValue). whole_of (taken_of (is_met_in ob limit tree) tree.order (shape_at tree 0) digits)) same))
    ∙ behind-found before find o

-- ---- the next string

abbrev pub Gathered : Type 0
Gathered = List Found × List (List Bool)

get-none : {X : Type 0} (xs : List X) (k : ℕ) → slice_get xs k ≡ None → drop k xs ≡ []
get-none [] zero at = refl
get-none [] (suc k) at = refl
get-none (x ∷ xs) zero at = absurd (cc)
get-none (x ∷ xs) (suc k) at = get-none xs k at

some_same : {X : Type 0} (x y : X) → Some x ≡ Some y → x ≡ y
some_same x y e = cc

get-some : {X : Type 0} (xs : List X) (k : ℕ) (x : X) → slice_get xs k ≡ Some x → drop k xs ≡ x ∷ drop (k + 1) xs
get-some [] k x at = absurd (cc)
get-some (y ∷ xs) zero x at = ap (λ z. z ∷ xs) (some_same y x at)
get-some (y ∷ xs) (suc k) x at =
    let next : suc (k + 1) ≡ suc k + 1 = omega arith in
    get-some xs k x at ∙ ap (λ (n : ℕ). x ∷ drop n (y ∷ xs)) next

pub next-none : (limit : Ratio) (fs : List Found) (p : Part) (ds : List (List Bool)) (k : ℕ) → slice_get ds k ≡ None
    → ◌≡◌ {A = Option Gathered} None (string_taken limit fs (p ∷ []) (drop k ds))
next-none limit fs p ds k at = sym (ap (string_taken limit fs (p ∷ [])) (get-none ds k at))

fits-by : (fs now : List Found) (rest : List (List Bool)) (o : Option (List Found)) → option_map (λ gs. fs ++ gs) o ≡ Some now
    → ◌≡◌ {A = Option Gathered} (Some (now, rest)) (option_map (λ gs. (fs ++ gs, rest)) o)
fits-by fs now rest None told = absurd (cc)
fits-by fs now rest (Some gs) told = ap (λ (hs : List Found). Some (hs, rest)) (sym (some_same (fs ++ gs) now told))

fails-by : (fs : List Found) (rest : List (List Bool)) (o : Option (List Found)) → option_map (λ gs. fs ++ gs) o ≡ None
    → ◌≡◌ {A = Option Gathered} None (option_map (λ gs. (fs ++ gs, rest)) o)
fails-by fs rest None told = refl
fails-by fs rest (Some gs) told = absurd (cc)

pub next-fits : (limit : Ratio) (fs now : List Found) (p : Part) (ds : List (List Bool)) (k : ℕ) (d : List Bool) (fits : Bool) → slice_get ds k ≡ Some d
    → option_map (λ gs. fs ++ gs) (found_taken limit p d) ≡ (if fits then Some now else None) → fits ≡ true
    → ◌≡◌ {A = Option Gathered} (Some (now, drop (k + 1) ds)) (string_taken limit fs (p ∷ []) (drop k ds))
next-fits limit fs now p ds k d fits at told is =
    fits-by fs now (drop (k + 1) ds) (found_taken limit p d) (told ∙ ap (λ (b : Bool). if b then Some now else None) is)
    ∙ sym (ap (string_taken limit fs (p ∷ [])) (get-some ds k d at))

pub next-fails : (limit : Ratio) (fs now : List Found) (p : Part) (ds : List (List Bool)) (k : ℕ) (d : List Bool) (fits : Bool) → slice_get ds k ≡ Some d
    → option_map (λ gs. fs ++ gs) (found_taken limit p d) ≡ (if fits then Some now else None) → fits ≡ false
    → ◌≡◌ {A = Option Gathered} None (string_taken limit fs (p ∷ []) (drop k ds))
next-fails limit fs now p ds k d fits at told is =
    fails-by fs (drop (k + 1) ds) (found_taken limit p d) (told ∙ ap (λ (b : Bool). if b then Some now else None) is)
    ∙ sym (ap (string_taken limit fs (p ∷ [])) (get-some ds k d at))

pub next-cost : (ds : List (List Bool)) (k : ℕ) (d : List Bool) → slice_get ds k ≡ Some d → digits_in (drop k ds) ≡ length d + digits_in (drop (k + 1) ds)
next-cost ds k d at = ap digits_in (get-some ds k d at)

pub none-left : (ds : List (List Bool)) → digits_in (drop (length ds) ds) ≡ 0
none-left ds = ap digits_in (drop-all ds)

-- ---- all instances

active-at : (o : Option (Option InstanceValue)) (i : InstanceValue) → option_and_then (λ j. j) o ≡ Some i → o ≡ Some (Some i)
active-at None i p = absurd (cc)
active-at (Some None) i p = absurd (cc)
active-at (Some (Some j)) i p = ap Some p

pub stated-for : (top : TopContents) (bottoms : Slots) (trees : Trees) (n : ℕ) (o : Option Instance) → AreStatedFor top bottoms trees
    → option_map instance_value o ≡ active_instance top n → IfSome o (λ i. IsStatedFor bottoms trees (instance_value i))
stated-for top bottoms trees n None are told = tt
stated-for top bottoms trees n (Some i) are told =
    All-at (λ (j : Option InstanceValue). IfSome j (IsStatedFor bottoms trees)) top.instances n (Some (instance_value i)) are.each
    (active-at (slice_get top.instances n) (instance_value i) (sym told))

module _ (limit : Ratio) (ray : RayValue) (flags : RayFlags) where
  abbrev goes_on : List Part → Option Gathered → Option (List Found)
  goes_on ps o = option_and_then (λ r. gathered_from limit r.0 ps r.1) o

  behind-string : (fs : List Found) (ps : List Part) (ds : List (List Bool)) (o : Option (List Found))
      → option_and_then (λ gs. gathered_from limit (fs ++ gs) ps ds) o ≡ goes_on ps (option_map (λ gs. (fs ++ gs, ds)) o)
  behind-string fs ps ds None = refl
  behind-string fs ps ds (Some gs) = refl

  gathered-parts : (n : ℕ) (o : Option Placement) (fs : List Found) (ps : List Part) (ds : List (List Bool))
      → gathered_from limit fs (parts_by ray flags n o ++ ps) ds ≡ goes_on ps (string_taken limit fs (parts_by ray flags n o) ds)
  gathered-parts n None fs ps ds = refl
  gathered-parts n (Some p) fs ps [] = refl
  gathered-parts n (Some p) fs ps (d ∷ ds) = behind-string fs ps ds (found_taken limit (part_of ray flags n p (tree_of p.bottom)) d)

  module _ (top : TopContents) (bottoms : Slots) (mask : ℕ) where
    parts-next : (n count : ℕ) → n < count
        → parts_from top bottoms ray flags mask n (count - n) ≡ parts_at top bottoms ray flags mask n ++ parts_from top bottoms ray flags mask (n + 1) (count - (n + 1))
    parts-next n count below =
        let more : count - n ≡ suc (count - (n + 1)) = omega (arith, below) in
        ap (parts_from top bottoms ray flags mask n) more
        ∙ flat_map-cons (parts_at top bottoms ray flags mask) n (range_with_len (n + 1) (count - (n + 1)))

    module _ (n count : ℕ) (below : n < count) (fs now : List Found) (ds : List (List Bool)) (taken : ℕ) (o : Option InstanceValue) (after : Option ℕ)
        (is : o ≡ active_instance top n)
        (told : option_map (λ k. (now, drop k ds)) after ≡ string_taken limit fs (parts_by ray flags n (option_and_then (placement_of bottoms mask) o)) (drop taken ds)) where
      gathered-next : gathered_from limit fs (parts_from top bottoms ray flags mask n (count - n)) (drop taken ds)
          ≡ goes_on (parts_from top bottoms ray flags mask (n + 1) (count - (n + 1))) (option_map (λ k. (now, drop k ds)) after)
      gathered-next =
          let rest = parts_from top bottoms ray flags mask (n + 1) (count - (n + 1)) in
          ap (λ ps. gathered_from limit fs ps (drop taken ds)) (parts-next n count below)
          ∙ (gathered-parts n (option_and_then (placement_of bottoms mask) (active_instance top n)) fs rest (drop taken ds)
          ∙ ap (goes_on rest) (sym (told
          ∙ ap (λ (q : Option InstanceValue). string_taken limit fs (parts_by ray flags n (option_and_then (placement_of bottoms mask) q)) (drop taken ds)) is)))

      pub gathered-goes_on : (next : ℕ) → after ≡ Some next
          → gathered_from limit fs (parts_from top bottoms ray flags mask n (count - n)) (drop taken ds)
          ≡ gathered_from limit now (parts_from top bottoms ray flags mask (n + 1) (count - (n + 1))) (drop next ds)
      gathered-goes_on next some =
          gathered-next
          ∙ ap (λ (a : Option ℕ). goes_on (parts_from top bottoms ray flags mask (n + 1) (count - (n + 1))) (option_map (λ k. (now, drop k ds)) a)) some

      pub gathered-stops : after ≡ None → gathered_from limit fs (parts_from top bottoms ray flags mask n (count - n)) (drop taken ds) ≡ None
      gathered-stops none =
          gathered-next
          ∙ ap (λ (a : Option ℕ). goes_on (parts_from top bottoms ray flags mask (n + 1) (count - (n + 1))) (option_map (λ k. (now, drop k ds)) a)) none

    -- at the end
    no-parts : (n count : ℕ) → count ≤ n → parts_from top bottoms ray flags mask n (count - n) ≡ []
    no-parts n count above = let none : count - n ≡ 0 = omega (arith, above) in ap (parts_from top bottoms ray flags mask n) none

    pub gathered-more : (n count : ℕ) (fs : List Found) (ds : List (List Bool)) (taken : ℕ) → count ≤ n → taken < length ds
        → gathered_from limit fs (parts_from top bottoms ray flags mask n (count - n)) (drop taken ds) ≡ None
    gathered-more n count fs ds taken above below =
        let left = drop-some taken ds below in
        λ i. gathered_from limit fs (no-parts n count above i) (left.is i)

    drop-past : (k : ℕ) (xs : List (List Bool)) → length xs ≤ k → drop k xs ≡ []
    drop-past zero [] past = refl
    drop-past (suc k) [] past = refl
    drop-past zero (x ∷ xs) past = absurd (omega (arith, past))
    drop-past (suc k) (x ∷ xs) past = drop-past k xs (omega (arith, past))

    pub gathered-all : (n count : ℕ) (fs : List Found) (ds : List (List Bool)) (taken : ℕ) → count ≤ n → length ds ≤ taken
        → gathered_from limit fs (parts_from top bottoms ray flags mask n (count - n)) (drop taken ds) ≡ Some fs
    gathered-all n count fs ds taken above past =
        λ i. gathered_from limit fs (no-parts n count above i) (drop-past taken ds past i)
