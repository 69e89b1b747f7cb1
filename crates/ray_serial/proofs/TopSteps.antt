-- The steps of the loops over instances, and where a handle is found.
use Rattle.std.proofs.Common.{ℕ, zero, suc, ◌≡◌, ◌<◌, ◌≤◌, ◌+◌, ◌*◌, ◌++◌, ◌==◌, ◌^◌, Bool, true, false, not, List, [], ◌∷◌, length, take, get_or, Option, Some, None, option_map, Result, Ok, Err, fold, refl, sym, ap, subst, ◌∙◌, arith, append_assoc, append-nil, length-append, mul-suc, inl, inr, to_z, of_z}
use Rattle.std.specs.Prelude.{IfSome, slice_get, slice_index_or, if◌then◌else◌, MatchResult}
use Rattle.std.specs.List.{flat_map, position_or_len, AllByRecursion}
use Rattle.std.specs.List.Sorted.{IsStrictlySortedBy, IsBinarySearchResult}
use Rattle.std.specs.Ordering.{nat_cmp}
use Rattle.std.specs.declared.cmp.Ordering.TheVariants.{Less}
use Rattle.std.specs.BTreeSet.{insert_key}
use Rattle.std.proofs.lemmas.Bool.Decides.{nat_tests}
use Rattle.std.proofs.lemmas.List.{take_more}
use Rattle.std.proofs.lemmas.List.Concat.{flat_map-cons}
use Rattle.std.proofs.lemmas.List.Sums.{fold_more}
use Rattle.std.proofs.lemmas.List.Sorted.{searched}
use Rattle.std.proofs.lemmas.Option.{slice_get-get_or}
use Rattle.ray_top.specs.Contents.{IsTop, IsActive, TopValue, ContentsValue}
use Rattle.ray_top.specs.Instances.{InstanceValue, told_instance}
use Rattle.ray_top.specs.declared.instance.Instance.{Instance}
use Rattle.std.specs.Prelude.{ℤ, pos, replicate}
use Rattle.std.specs.Int.{w32, w64, cast_unsigned}
use Rattle.std.specs.Int.RustNames.{FitsSigned}
use Rattle.std.specs.Ordering.{match_ordering}
use Rattle.std.specs.declared.cmp.Ordering.{Ordering}
use Rattle.std.specs.declared.cmp.Ordering.TheVariants.{Equal, Greater}
use Rattle.std.proofs.lemmas.Int.{ints, to_z-of_z}
use Rattle.std.proofs.lemmas.Bool.{cases_lt}
use Rattle.ray_geom.specs.declared.vec3.Vec3.{Vec3}
use Rattle.ray_geom.specs.Vector.{IsShort, IsWithin}
use Rattle.ray_geom.specs.Transform.{MatrixValue, IsMatrix, row_of, rows_of}
use Rattle.ray_bytes.specs.References.{reference_of}
use Rattle.ray_geometries.specs.Storing.{bytes_of_words}
use Rattle.ray_serial.specs.Written.{form_size}
use Rattle.ray_serial.specs.TopWritten.{with_handle, handles_of, handle_number, placed_bytes, instance_bytes, all_instance_bytes, top_head, top_payload, top_form, FitsBits, FitsRow, IsRising}
use Rattle.ray_bytes.specs.StructureSizes.{structure_size}
use Rattle.ray_serial.proofs.Headers.{length-form_bytes}

-- ---- handles

pub handles_none : handles_of [] ≡ []
unfolding handles_of
handles_none = refl

pub handles_more : (instances : List (Option InstanceValue)) (i : ℕ) → i < length instances →
    with_handle (handles_of (take i instances)) (told_instance (get_or instances i None)) ≡ handles_of (take (i + 1) instances)
unfolding handles_of
handles_more instances i below = sym (fold_more (λ handles x. with_handle handles (told_instance x)) [] instances i None below)

-- ---- the bytes of instances

pub all_none : (handles start : List ℕ) → start ≡ start ++ all_instance_bytes handles []
unfolding all_instance_bytes
all_none handles start = sym (append-nil start)

all-append : (handles : List ℕ) (instances : List (Option InstanceValue)) (x : Option InstanceValue) →
    all_instance_bytes handles (instances ++ x ∷ []) ≡ all_instance_bytes handles instances ++ instance_bytes handles (told_instance x)
unfolding all_instance_bytes
all-append handles [] x = append-nil (instance_bytes handles (told_instance x))
all-append handles (y ∷ ys) x =
    let f : Option InstanceValue → List ℕ = λ i. instance_bytes handles (told_instance i) in
    flat_map-cons f y (ys ++ x ∷ [])
    ∙ (ap (λ bs. f y ++ bs) (all-append handles ys x)
    ∙ (sym (append_assoc (f y) (flat_map f ys) (f x)) ∙ ap (λ bs. bs ++ f x) (sym (flat_map-cons f y ys))))

pub all_more : (handles start now : List ℕ) (instances : List (Option InstanceValue)) (i : ℕ) → i < length instances →
    now ≡ start ++ all_instance_bytes handles (take i instances) →
    now ++ instance_bytes handles (told_instance (get_or instances i None)) ≡ start ++ all_instance_bytes handles (take (i + 1) instances)
all_more handles start now instances i below e =
    ap (λ ys. ys ++ instance_bytes handles (told_instance (get_or instances i None))) e
    ∙ (append_assoc start (all_instance_bytes handles (take i instances)) (instance_bytes handles (told_instance (get_or instances i None)))
    ∙ ap (λ ys. start ++ ys) (sym (ap (all_instance_bytes handles) (take_more instances i None below) ∙ all-append handles (take i instances) (get_or instances i None))))

-- ---- what is told of an instance

some_told : (o : Option (Option InstanceValue)) (x : Option InstanceValue) (told : Instance) → o ≡ Some x → option_map told_instance o ≡ Some told → told ≡ told_instance x
some_told (Some y) x told p q = let same : y ≡ x = cc in let is : told_instance y ≡ told = cc in sym is ∙ ap told_instance same
some_told None x told p q = absurd cc

pub told_at : (instances : List (Option InstanceValue)) (i : ℕ) (told : Instance) → i < length instances → option_map told_instance (slice_get instances i) ≡ Some told →
    told ≡ told_instance (get_or instances i None)
told_at instances i told below e = some_told (slice_get instances i) (get_or instances i None) told (slice_get-get_or instances i None below) e

fits_told : (P : InstanceValue → Type 0) → ((x : InstanceValue) → P x → FitsBits (told_instance (Some x))) → (o : Option InstanceValue) → IfSome o P → FitsBits (told_instance o)
fits_told P f (Some x) h = f x h
fits_told P f None h = record { custom = omega arith; sbt = omega arith; flags = omega arith }

pub FitsBits-told : (t : TopValue) (i : ℕ) (told : Instance) → IsTop t → i < length t.contents.instances →
    option_map told_instance (slice_get t.contents.instances i) ≡ Some told → FitsBits told
FitsBits-told t i told is below e =
    let P : Instance → Type 0 = λ x. FitsBits x in
    subst P (sym (told_at t.contents.instances i told below e))
    (fits_told (IsActive t.used) (λ x a. record { custom = a.custom; sbt = a.sbt; flags = a.flags }) (get_or t.contents.instances i None) (is.each i None below).limits)

-- ---- rising lists

less_is : (a b : ℕ) → nat_cmp a b ≡ Less → a < b
less_is a b e = grind (arith, nat_tests)

above_first : (x : ℕ) (xs : List ℕ) → AllByRecursion (λ y. nat_cmp x y ≡ Less) xs → (j : ℕ) → j < length xs → x < get_or xs j 0
above_first x [] all j below = absurd (omega arith)
above_first x (y ∷ ys) all zero below = less_is x y all.0
above_first x (y ∷ ys) all (suc j) below = above_first x ys all.1 j (omega arith)

rising_from : (xs : List ℕ) → IsStrictlySortedBy nat_cmp xs → (i j : ℕ) → i < j → j < length xs → get_or xs i 0 < get_or xs j 0
unfolding IsStrictlySortedBy
rising_from [] sorted i j p q = absurd (omega arith)
rising_from (x ∷ xs) sorted zero zero p q = absurd (omega arith)
rising_from (x ∷ xs) sorted zero (suc j) p q = above_first x xs sorted.0 j (omega arith)
rising_from (x ∷ xs) sorted (suc i) zero p q = absurd (omega arith)
rising_from (x ∷ xs) sorted (suc i) (suc j) p q = rising_from xs sorted.1 i j (omega arith) (omega arith)

pub IsRising-sorted : (xs : List ℕ) → IsStrictlySortedBy nat_cmp xs → IsRising xs
IsRising-sorted xs sorted = record { each = rising_from xs sorted }

-- ---- where a number stands

found : (y x : ℕ) (n : ℕ) → y ≡ x → (if not (y == x) then 1 + n else 0) ≡ 0
found y x n e = grind (arith, nat_tests)

passed : (y x : ℕ) (n : ℕ) → (y ≡ x → ⊥) → (if not (y == x) then 1 + n else 0) ≡ suc n
passed y x n ne = grind (arith, nat_tests)

place : (x : ℕ) (xs : List ℕ) (k : ℕ) → k < length xs → get_or xs k 0 ≡ x → ((j : ℕ) → j < k → get_or xs j 0 ≡ x → ⊥) → position_or_len (λ y. y == x) xs ≡ k
place x [] k below here before = absurd (omega arith)
place x (y ∷ ys) zero below here before = found y x (position_or_len (λ z. z == x) ys) here
place x (y ∷ ys) (suc k) below here before =
    passed y x (position_or_len (λ z. z == x) ys) (before 0 (omega arith))
    ∙ ap suc (place x ys k (omega arith) here (λ j lt. before (suc j) (omega arith)))

absent : (x : ℕ) (xs : List ℕ) → ((j : ℕ) → j < length xs → get_or xs j 0 ≡ x → ⊥) → position_or_len (λ y. y == x) xs ≡ length xs
absent x [] none = refl
absent x (y ∷ ys) none =
    passed y x (position_or_len (λ z. z == x) ys) (none 0 (omega arith)) ∙ ap suc (absent x ys (λ j lt. none (suc j) (omega arith)))

pub rises : (xs : List ℕ) → IsRising xs → (i j : ℕ) → i ≤ j → j < length xs → get_or xs i 0 ≤ get_or xs j 0
rises xs rising i j le below =
    elim (cases_lt i j) [
      | inl lt ↦ let less = rising.each i j lt below in omega arith
      | inr ge ↦ let same : i ≡ j = omega arith in let e = ap (λ k. get_or xs k 0) same in omega arith
    ]

-- where a search ends
abbrev pub position_from : Result ℕ ℕ → List ℕ → ℕ
position_from (Ok k) xs = k
position_from (Err k) xs = length xs

number_is : (xs : List ℕ) (x : ℕ) (r : Result ℕ ℕ) → IsRising xs →
    MatchResult r (λ i. (i < length xs) × (get_or xs i 0 ≡ x))
    (λ i. (i ≤ length xs) × ((k : ℕ) → k < i → get_or xs k 0 < x) × ((k : ℕ) → i ≤ k → k < length xs → x < get_or xs k 0)) →
    position_or_len (λ y. y == x) xs ≡ position_from r xs
number_is xs x (Ok k) rising h = place x xs k h.0 h.1 (λ j lt e. let less = rising.each j k lt h.0 in let here = h.1 in absurd (omega arith))
number_is xs x (Err k) rising h =
    absent x xs (λ j below e. elim (cases_lt j k) [
      | inl lt ↦ let less = h.1 j lt in absurd (omega arith)
      | inr le ↦ let less = h.2 j le below in absurd (omega arith)
    ])

pub position_found : (xs : List ℕ) (x : ℕ) (r : Result ℕ ℕ) → IsRising xs → IsBinarySearchResult (λ y. nat_cmp y x) xs r →
    position_or_len (λ y. y == x) xs ≡ position_from r xs
position_found xs x r rising h = number_is xs x r rising (searched xs x r h (rises xs rising))

-- ---- sizes

insert_by : (o : Ordering) (k x n : ℕ) (xs ys : List ℕ) → length ys ≤ suc (length xs) → length (match_ordering o (k ∷ x ∷ xs) (x ∷ xs) (x ∷ ys)) ≤ suc (suc (length xs))
insert_by Less k x n xs ys h = omega arith
insert_by Equal k x n xs ys h = omega arith
insert_by Greater k x n xs ys h = omega arith

insert_grows : (ks : List ℕ) (k : ℕ) → length (insert_key nat_cmp ks k) ≤ suc (length ks)
insert_grows [] k = omega arith
insert_grows (x ∷ xs) k = insert_by (nat_cmp k x) k x 0 xs (insert_key nat_cmp xs k) (insert_grows xs k)

with_grows : (handles : List ℕ) (told : Instance) (active : Bool) →
    length (if active then insert_key nat_cmp handles (reference_of told.id) else handles) ≤ suc (length handles)
with_grows handles told true = insert_grows handles (reference_of told.id)
with_grows handles told false = omega arith

handles_grow : (handles : List ℕ) (instances : List (Option InstanceValue)) →
    length (fold (λ hs x. with_handle hs (told_instance x)) handles instances) ≤ length handles + length instances
handles_grow handles [] = omega arith
handles_grow handles (x ∷ xs) =
    let first = with_grows handles (told_instance x) (told_instance x).active in
    let others = handles_grow (with_handle handles (told_instance x)) xs in
    omega arith

pub length-handles_of : (instances : List (Option InstanceValue)) → length (handles_of instances) ≤ length instances
unfolding handles_of
length-handles_of instances = let h = handles_grow [] instances in omega arith

length-placed : (number : ℕ) (told : Instance) → length (placed_bytes number told) ≡ 64
unfolding placed_bytes
length-placed number told = refl

length-by : (handles : List ℕ) (told : Instance) (active : Bool) →
    length (if active then placed_bytes (handle_number handles (reference_of told.id)) told else replicate 64 0) ≡ 64
length-by handles told true = length-placed (handle_number handles (reference_of told.id)) told
length-by handles told false = refl

pub length-instance_bytes : (handles : List ℕ) (told : Instance) → length (instance_bytes handles told) ≡ 64
unfolding instance_bytes
length-instance_bytes handles told = length-by handles told told.active

length_parts : {X : Type 0} (f : X → List ℕ) (n : ℕ) → ((x : X) → length (f x) ≡ n) → (xs : List X) → length (flat_map f xs) ≡ n * length xs
length_parts f n sized [] = omega arith
length_parts f n sized (x ∷ xs) =
    let rest = length_parts f n sized xs in
    let first = sized x in
    ap length (flat_map-cons f x xs) ∙ (length-append (f x) (flat_map f xs) ∙ omega (arith, mul-suc n (length xs)))

pub length-all_instance_bytes : (handles : List ℕ) (instances : List (Option InstanceValue)) → length (all_instance_bytes handles instances) ≡ 64 * length instances
unfolding all_instance_bytes
length-all_instance_bytes handles instances =
    length_parts (λ i. instance_bytes handles (told_instance i)) 64 (λ i. length-instance_bytes handles (told_instance i)) instances

pub length-top_head : (flags count : ℕ) → length (top_head flags count) ≡ 48
unfolding top_head bytes_of_words
length-top_head flags count = refl

pub length-top_payload : (handles : List ℕ) (c : ContentsValue) → length (top_payload handles c) ≡ 48 + 64 * length c.instances
length-top_payload handles c =
    length-append (top_head c.flags.0 (length c.instances)) (all_instance_bytes handles c.instances)
    ∙ (λ i. length-top_head c.flags.0 (length c.instances) i + length-all_instance_bytes handles c.instances i)

pub top_few : (c : ContentsValue) → length c.instances ≤ 2 ^ 16 → form_size (handles_of c.instances) (top_payload (handles_of c.instances) c) < 2 ^ 64
top_few c few =
    let many = length-handles_of c.instances in
    let long = length-top_payload (handles_of c.instances) c in
    omega arith

-- ---- rows of a transform

pub FitsRow-row : (v : Vec3) (t : ℤ) → IsShort (2 ^ 12) v → IsWithin (2 ^ 20) t → FitsRow (row_of v t)
FitsRow-row v t short within = record { each = each }
  where
    each : (k : ℕ) → FitsSigned w32 (slice_index_or (row_of v t) k (pos 0))
    each zero = let p = short.x_within in omega (arith, ints)
    each (suc zero) = let p = short.y_within in omega (arith, ints)
    each (suc (suc zero)) = let p = short.z_within in omega (arith, ints)
    each (suc (suc (suc zero))) = omega (arith, ints)
    each (suc (suc (suc (suc k)))) = omega (arith, ints)

-- a number that is held in 64 bits
pub word_same : (z : ℤ) → FitsSigned w32 z → cast_unsigned w32 (to_z w64 (of_z w64 z)) ≡ cast_unsigned w32 z
word_same z fits = ap (cast_unsigned w32) (to_z-of_z w64 z (omega (arith, ints)))

pub FitsRow-entry : (rows : List (List ℤ)) (m : MatrixValue) → rows ≡ rows_of m → IsMatrix m → FitsRow (get_or rows 2 [])
FitsRow-entry rows m e is =
    let P : List ℤ → Type 0 = λ row. FitsRow row in
    subst P (sym (ap (λ (rs : List (List ℤ)). get_or rs 2 []) e)) (FitsRow-row m.c m.t.z is.c_short is.t_short.z_within)

pub length-top_form : (c : ContentsValue) → length (top_form c) ≡ 104 + 8 * length (handles_of c.instances) + 64 * length c.instances
unfolding top_form
length-top_form c =
    length-form_bytes (structure_size 1 (length c.instances)) (handles_of c.instances) (top_payload (handles_of c.instances) c)
    ∙ (let long = length-top_payload (handles_of c.instances) c in omega arith)
