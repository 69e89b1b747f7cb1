-- The steps of the loops over geometries.
use Rattle.std.proofs.Common.{ℕ, suc, ◌≡◌, ◌<◌, ◌≤◌, ◌+◌, ◌-◌, ◌==◌, ◌&&◌, Bool, true, false, List, length, Option, Some, None, refl, sym, ap, ◌∙◌, arith}
use Rattle.std.specs.Prelude.{is_some, nat_le, if◌then◌else◌}
use Rattle.std.proofs.lemmas.Bool.Decides.{nat_tests}
use Rattle.std.proofs.lemmas.List.{length-drop}
use Rattle.ray_form.specs.Heads.{count_in, geometry_size, is_whole, is_geometry, geometry_in}
use Rattle.ray_form.specs.Rows.{after_first, are_geometries, total_in, row_total, row_size, with_first, geometries_in}

-- elements before, and those of the geometries that follow
abbrev pub more_elements : ℕ → Option ℕ → Option ℕ
more_elements before None = None
more_elements before (Some others) = Some (before + others)

-- one geometry fewer
fewer : (i n : ℕ) → i < n → n - i ≡ suc (n - (i + 1))
fewer i n below = omega arith

-- ---- how many elements

total_first : (is are : Bool) (before count total : ℕ) → is ≡ true →
    more_elements (before + count) (if are then Some total else None) ≡ more_elements before (if is && are then Some (count + total) else None)
total_first true true before count total e = let same : before + count + total ≡ before + (count + total) = omega arith in ap Some same
total_first true false before count total e = refl
total_first false are before count total e = absurd cc

pub total_goes_on : (kind i n before : ℕ) (rest : List ℕ) → i < n → is_geometry kind rest ≡ true →
    more_elements (before + count_in rest) (row_total kind (n - (i + 1)) (after_first rest)) ≡ more_elements before (row_total kind (n - i) rest)
total_goes_on kind i n before rest below e =
    total_first (is_geometry kind rest) (are_geometries kind (n - (i + 1)) (after_first rest)) before (count_in rest)
    (total_in (n - (i + 1)) (after_first rest)) e
    ∙ ap (λ m. more_elements before (row_total kind m rest)) (sym (fewer i n below))

none_first : (is are : Bool) (total : ℕ) → is ≡ false → (if is && are then Some total else None) ≡ None
none_first true are total e = absurd cc
none_first false are total e = refl

pub total_stops : (kind i n before : ℕ) (rest : List ℕ) → i < n → is_geometry kind rest ≡ false →
    None ≡ more_elements before (row_total kind (n - i) rest)
total_stops kind i n before rest below e =
    sym (ap (λ m. more_elements before (row_total kind m rest)) (fewer i n below)
    ∙ ap (more_elements before) (none_first (is_geometry kind rest) (are_geometries kind (n - (i + 1)) (after_first rest))
    (total_in (suc (n - (i + 1))) rest) e))

ends_by : (is : Bool) (before : ℕ) → (if is then Some before else None) ≡ more_elements before (if is then Some 0 else None)
ends_by true before = let same : before ≡ before + 0 = omega arith in ap Some same
ends_by false before = refl

pub total_ends : (kind i n before : ℕ) (rest : List ℕ) → i ≡ n →
    (if length rest == 0 then Some before else None) ≡ more_elements before (row_total kind (n - i) rest)
total_ends kind i n before rest done =
    let none : 0 ≡ n - i = omega arith in
    ends_by (length rest == 0) before ∙ ap (λ m. more_elements before (row_total kind m rest)) none

-- ---- whether all elements stand for primitives

has_first : {X : Type 0} (first : Option X) (others : Option (List X)) → is_some first ≡ true → is_some others ≡ is_some (with_first first others)
has_first (Some x) (Some xs) e = refl
has_first (Some x) None e = refl
has_first None others e = absurd cc

lacks_first : {X : Type 0} (first : Option X) (others : Option (List X)) → is_some first ≡ false → false ≡ is_some (with_first first others)
lacks_first (Some x) others e = absurd cc
lacks_first None others e = refl

pub sound_goes_on : (i n : ℕ) (rest : List ℕ) → i < n → is_some (geometry_in rest) ≡ true →
    is_some (geometries_in (n - (i + 1)) (after_first rest)) ≡ is_some (geometries_in (n - i) rest)
sound_goes_on i n rest below e =
    has_first (geometry_in rest) (geometries_in (n - (i + 1)) (after_first rest)) e
    ∙ ap (λ m. is_some (geometries_in m rest)) (sym (fewer i n below))

pub sound_stops : (i n : ℕ) (rest : List ℕ) → i < n → is_some (geometry_in rest) ≡ false → false ≡ is_some (geometries_in (n - i) rest)
sound_stops i n rest below e =
    lacks_first (geometry_in rest) (geometries_in (n - (i + 1)) (after_first rest)) e
    ∙ ap (λ m. is_some (geometries_in m rest)) (sym (fewer i n below))

-- ---- how many bytes

first_taken : (whole : Bool) (size left : ℕ) → whole ≡ true → (if whole then size + left else 0) ≡ size + left
first_taken true size left e = refl
first_taken false size left e = absurd cc

both : (a b : Bool) → (a && b) ≡ true → b ≡ true
both true b e = e
both false b e = absurd cc

at_most : (a b : ℕ) → nat_le a b ≡ true → a ≤ b
at_most a b e = grind (arith, nat_tests)

whole_within : (rest : List ℕ) → is_whole rest ≡ true → geometry_size rest ≤ length rest
unfolding is_whole
whole_within rest e = at_most (geometry_size rest) (length rest) (both (nat_le 32 (length rest)) (nat_le (geometry_size rest) (length rest)) e)

length-after_first : (rest : List ℕ) → length (after_first rest) ≡ length rest - geometry_size rest
unfolding after_first
length-after_first rest = length-drop (geometry_size rest) rest

-- what is gone past after one geometry more
pub record IsGonePast (n i : ℕ) (bytes rest : List ℕ) : Type 0 where
  pub size : length bytes + row_size (n - i) rest ≡ row_size n bytes + length rest
  pub within : length rest ≤ length bytes

pub size_goes_on : (n i : ℕ) (bytes rest : List ℕ) → i < n → is_whole rest ≡ true → length bytes + row_size (n - i) rest ≡ row_size n bytes + length rest
    → length rest ≤ length bytes → IsGonePast n (i + 1) bytes (after_first rest)
size_goes_on n i bytes rest below whole so_far within =
    let here = whole_within rest whole in
    let left = length-after_first rest in
    let step : row_size (n - i) rest ≡ geometry_size rest + row_size (n - (i + 1)) (after_first rest) =
    ap (λ m. row_size m rest) (fewer i n below)
    ∙ first_taken (is_whole rest) (geometry_size rest) (row_size (n - (i + 1)) (after_first rest)) whole in
    record { size = omega arith; within = omega arith }
