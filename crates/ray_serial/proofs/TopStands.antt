-- What a top structure is written as stands for its contents.
use Rattle.std.proofs.Common.{ℕ, suc, ◌≡◌, ◌<◌, ◌≤◌, ◌+◌, ◌-◌, ◌/◌, ◌==◌, ◌||◌, ◌^◌, Bool, true, false, not, List, [], ◌∷◌, length, take, drop, get_or, map, fold, Option, Some, None, refl, ap, ◌∙◌, arith, inl, inr}
use Rattle.std.specs.Prelude.{All, IfSome, replicate, slice_get, unwrap_or, if◌then◌else◌}
use Rattle.std.specs.List.{flat_map, position_or_len}
use Rattle.std.specs.Simd.{first_chunks}
use Rattle.std.specs.Ordering.{nat_cmp}
use Rattle.std.specs.BTreeSet.{insert_key}
use Rattle.std.proofs.lemmas.Bool.{cases_lt}
use Rattle.std.proofs.lemmas.Bool.Decides.{nat_tests}
use Rattle.std.proofs.lemmas.List.{take_at, drop_at, get_or_past}
use Rattle.std.proofs.lemmas.List.Concat.{flat_map-cons}
use Rattle.std.proofs.lemmas.List.Elements.{All-tail}
use Rattle.std.proofs.lemmas.Map.Views.{All-insert_key}
use Rattle.std.proofs.lemmas.Option.{slice_get-get_or}
use Rattle.ray_geom.specs.Transform.{IsMatrix}
use Rattle.ray_bytes.specs.Fields.{long_at}
use Rattle.ray_bytes.specs.References.{reference_of}
use Rattle.ray_bytes.specs.StructureSizes.{structure_size}
use Rattle.ray_bytes.specs.declared.instance_record.InstanceRecord.{InstanceRecord}
use Rattle.ray_top.specs.declared.instance.Instance.{Instance}
use Rattle.ray_top.specs.declared.used.Used.{Used}
use Rattle.ray_top.specs.Contents.{TopValue, IsActive}
use Rattle.ray_top.specs.Instances.{InstanceValue, told_instance}
use Rattle.ray_form.specs.InstanceBytes.{instance_parts}
use Rattle.ray_form.specs.Form.{instances_of_payload, is_top_payload, flags_of_payload}
use Rattle.ray_serial.specs.Meaning.{handle_in}
use Rattle.ray_serial.specs.TopMeaning.{with_reference, reference_in, referring_instance, instance_in, instances_in}
use Rattle.ray_serial.specs.TopWritten.{with_handle, handles_of, handle_number, placed_bytes, instance_bytes, all_instance_bytes, top_payload, top_form, record_of, told_record, records_of, FitsTold}
use Rattle.ray_serial.specs.Standing.{StandsFor}
use Rattle.ray_serial.proofs.OtherHandles.{AreLong, handle_said}
use Rattle.ray_serial.proofs.TopSteps.{length-handles_of, length-instance_bytes}
use Rattle.ray_serial.proofs.Distinct.{has, has_handle}
use Rattle.ray_serial.proofs.TopBack.{CanWrite, placed_record, placed_back, place_below, length-all, if_true, top_header, says_head}

-- ---- handles

abbrev Long : ℕ → Type 0
Long n = n < 2 ^ 64

long_by : (handles : List ℕ) (told : Instance) (active : Bool) → FitsTold told → All Long handles →
    All Long (if active then insert_key nat_cmp handles (reference_of told.id) else handles)
long_by handles told true fits all = All-insert_key nat_cmp (reference_of told.id) Long handles all (let id = fits.id in omega arith)
long_by handles told false fits all = all

long_fold : (handles : List ℕ) (instances : List (Option InstanceValue)) → All (λ i. FitsTold (told_instance i)) instances → All Long handles →
    All Long (fold (λ hs x. with_handle hs (told_instance x)) handles instances)
long_fold handles [] fits all = all
long_fold handles (x ∷ xs) fits all =
    long_fold (with_handle handles (told_instance x)) xs (All-tail (λ i. FitsTold (told_instance i)) x xs fits)
    (long_by handles (told_instance x) (told_instance x).active (fits 0 x (omega arith)) all)

handles_long : (instances : List (Option InstanceValue)) → All (λ i. FitsTold (told_instance i)) instances → All Long (handles_of instances)
unfolding handles_of
handles_long instances fits = long_fold [] instances fits (λ k d below. absurd (omega arith))

are_long : (handles : List ℕ) → All Long handles → AreLong handles
are_long handles all = record { each = each }
  where
    each : (k : ℕ) → get_or handles k 0 < 2 ^ 64
    each k = elim (cases_lt k (length handles)) [
      | inl below ↦ all k 0 below
      | inr past ↦ let none = get_or_past handles k 0 past in omega arith
    ]

-- ---- where a reference stands

found_by : (h r : ℕ) (b : Bool) (hs : List ℕ) (n : ℕ) → (h == r) ≡ b → (b ≡ false → get_or hs n 0 ≡ r) → get_or (h ∷ hs) (if not b then 1 + n else 0) 0 ≡ r
found_by h r true hs n e f = grind (arith, nat_tests)
found_by h r false hs n e f = let next : 1 + n ≡ suc n = omega arith in ap (λ k. get_or (h ∷ hs) k 0) next ∙ f refl

or_right : (a b : Bool) → (a || b) ≡ true → a ≡ false → b ≡ true
or_right true b e f = absurd cc
or_right false b e f = e

place_found : (r : ℕ) (hs : List ℕ) → has r hs ≡ true → get_or hs (position_or_len (λ h. h == r) hs) 0 ≡ r
unfolding has
place_found r [] e = absurd cc
place_found r (h ∷ hs) e =
    found_by h r (h == r) hs (position_or_len (λ x. x == r) hs) refl (λ f. place_found r hs (or_right (h == r) (has r hs) e f))

-- ---- one instance

active_number : (n : ℕ) → not (n + 1 == 0) ≡ true
active_number n = grind (arith, nat_tests)

placed_reads : (bytes : List ℕ) (place reference : ℕ) (told : Instance) → IsMatrix told.matrix → told.custom < 2 ^ 24 → told.sbt < 2 ^ 24 → told.flags.0 < 16 →
    told.mask < 2 ^ 8 → place < 65536 → reference ≡ reference_of told.id → handle_in bytes place ≡ Some reference → instance_in bytes (placed_bytes (place + 1) told) ≡ Some (record_of told)
unfolding instance_in reference_in
placed_reads bytes place reference told is custom sbt flags mask few names stands =
    let from = placed_record (place + 1) told in
    let e = placed_back (place + 1) told is custom sbt flags mask (omega arith) in
    let back : place + 1 - 1 ≡ place = omega arith in
    let refers : unwrap_or (handle_in bytes (place + 1 - 1)) 0 ≡ reference_of told.id =
    ap (λ k. unwrap_or (handle_in bytes k) 0) back ∙ (ap (λ o. unwrap_or o 0) stands ∙ names) in
    ap (referring_instance bytes) e
    ∙ (if_true (not (place + 1 == 0)) (Some (with_reference (reference_in bytes from) from)) None (active_number place)
    ∙ ap (λ r. Some (with_reference r from)) refers)

zeros_read : (bytes : List ℕ) → instance_in bytes (replicate 64 0) ≡ None
unfolding instance_in long_at
zeros_read bytes = refl

told_reads : (used : List Used) (bytes handles : List ℕ) (o : Option InstanceValue) → IfSome o (IsActive used) → FitsTold (told_instance o) → length handles ≤ 65536 →
    ((k : ℕ) → handle_in bytes k ≡ slice_get handles k) →
    ((told_instance o).active ≡ true → has (reference_of (told_instance o).id) handles ≡ true) → instance_in bytes (instance_bytes handles (told_instance o)) ≡ told_record (told_instance o)
unfolding instance_bytes handle_number
told_reads used bytes handles (Some x) a fits few said stands =
    let r = reference_of x.id in
    let place = position_or_len (λ h. h == r) handles in
    let below = place_below r handles (stands refl) in
    placed_reads bytes place (get_or handles place 0) (told_instance (Some x)) a.matrix a.custom a.sbt a.flags fits.mask (omega arith)
    (place_found r handles (stands refl)) (said place ∙ slice_get-get_or handles place 0 below)
told_reads used bytes handles None a fits few said stands = zeros_read bytes

-- ---- all of them

same_all : (g : List ℕ → Option InstanceRecord) (f : Option InstanceValue → List ℕ) (r : Option InstanceValue → Option InstanceRecord) (xs : List (Option InstanceValue)) →
    ((x : Option InstanceValue) → length (f x) ≡ 64) → ((k : ℕ) → k < length xs → g (f (get_or xs k None)) ≡ r (get_or xs k None)) →
    map g (first_chunks 64 (length xs) (flat_map f xs)) ≡ map r xs
same_all g f r [] sized each = refl
same_all g f r (x ∷ xs) sized each =
    let rest = same_all g f r xs sized (λ k below. each (suc k) (omega arith)) in
    let split = flat_map-cons f x xs in
    (λ i. g (take 64 (split i)) ∷ map g (first_chunks 64 (length xs) (drop 64 (split i))))
    ∙ ((λ i. g (take_at (f x) (flat_map f xs) 64 (sized x) i) ∷ map g (first_chunks 64 (length xs) (drop_at (f x) (flat_map f xs) 64 (sized x) i)))
    ∙ (λ i. each 0 (omega arith) i ∷ rest i))

instances_read : (t : TopValue) (bytes : List ℕ) → CanWrite t → ((k : ℕ) → handle_in bytes k ≡ slice_get (handles_of t.contents.instances) k) →
    map (instance_in bytes) (instance_parts (all_instance_bytes (handles_of t.contents.instances) t.contents.instances)) ≡ records_of t.contents.instances
unfolding all_instance_bytes
instances_read t bytes can said =
    let instances = t.contents.instances in
    let handles = handles_of instances in
    let f : Option InstanceValue → List ℕ = λ i. instance_bytes handles (told_instance i) in
    let all = length-all handles instances in
    let many : length (flat_map f instances) / 64 ≡ length instances = omega arith in
    ap (λ n. map (instance_in bytes) (first_chunks 64 n (flat_map f instances))) many
    ∙ same_all (instance_in bytes) f (λ i. told_record (told_instance i)) instances (λ x. length-instance_bytes handles (told_instance x))
    (λ k below. told_reads t.used bytes handles (get_or instances k None) (can.is.each k None below).limits (can.fits k None below)
    (let few = length-handles_of instances in let most = can.is.count in omega arith) said (has_handle instances k below))

handles_said : (t : TopValue) → CanWrite t → (k : ℕ) → handle_in (top_form t.contents) k ≡ slice_get (handles_of t.contents.instances) k
unfolding top_form
handles_said t can k =
    let c = t.contents in
    handle_said (structure_size 1 (length c.instances)) (handles_of c.instances) (top_payload (handles_of c.instances) c) k
    (are_long (handles_of c.instances) (handles_long c.instances can.fits)) (top_header c can.is.count).count

pub StandsFor-top_form : (t : TopValue) → CanWrite t → StandsFor t.contents (top_form t.contents)
unfolding instances_in
StandsFor-top_form t can =
    let c = t.contents in
    let bytes = top_form c in
    let h = top_header c can.is.count in
    let says = says_head t can in
    record {
      top = ap is_top_payload h.payload_is ∙ says.top;
      flags = ap flags_of_payload h.payload_is ∙ says.flags;
      instances = ap (λ p. map (instance_in bytes) (instance_parts (instances_of_payload p))) h.payload_is
          ∙ (ap (λ e. map (instance_in bytes) (instance_parts e)) says.instances ∙ instances_read t bytes can (handles_said t can));
    }
