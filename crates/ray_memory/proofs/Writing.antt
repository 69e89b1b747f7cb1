-- Bytes that are written over a range, one after the other.
use Rattle.std.proofs.Common.{ℕ, zero, suc, ◌≡◌, ◌≢◌, ◌<◌, ◌≤◌, ◌+◌, ◌-◌, List, [], ◌∷◌, ◌++◌, length, take, drop, Option, Some, None, true, false, refl, ap, sym, subst, ◌∙◌, inl, inr, arith}
use Rattle.std.specs.Prelude.{slice_get, option_map, unwrap_or, if◌then◌else◌}
use Rattle.std.proofs.Math.ListN.{set}
use Rattle.std.proofs.lemmas.Bool.Decides.{nat_tests}
use Rattle.std.proofs.lemmas.Bool.{cases_Bool, cases_eq, cases_lt, cond-true, cond-false}
use Rattle.std.proofs.lemmas.List.{length-append, length-drop, length-take-le}
use Rattle.std.proofs.lemmas.Option.{slice_get_past}
use Rattle.ray_rules.specs.declared.byte_range.ByteRange.{ByteRange}
use Rattle.ray_memory.specs.Bytes.{IsWritten, IsOverwritten, is_between, first_of}

set-length : (xs : List ℕ) (i x : ℕ) → length (set xs i x) ≡ length xs
set-length [] i x = refl
set-length (y ∷ ys) zero x = refl
set-length (y ∷ ys) (suc i) x = ap suc (set-length ys i x)

set-same : (xs : List ℕ) (i x : ℕ) → i < length xs → slice_get (set xs i x) i ≡ Some x
set-same [] i x below = absurd (omega arith)
set-same (y ∷ ys) zero x below = refl
set-same (y ∷ ys) (suc i) x below = set-same ys i x (omega arith)

set-other : (xs : List ℕ) (i x j : ℕ) → j ≢ i → slice_get (set xs i x) j ≡ slice_get xs j
set-other [] i x j differs = refl
set-other (y ∷ ys) zero x zero differs = absurd (differs refl)
set-other (y ∷ ys) zero x (suc j) differs = refl
set-other (y ∷ ys) (suc i) x zero differs = refl
set-other (y ∷ ys) (suc i) x (suc j) differs = set-other ys i x j (λ e. differs (ap suc e))

-- what stands at a place once a range is written
abbrev over : ByteRange → (ℕ → Option ℕ) → List ℕ → ℕ → Option ℕ
over to byte_for before at =
    if is_between to at then option_map (λ old. unwrap_or (byte_for (at - to.from)) old) (slice_get before at)
    else slice_get before at

over-in : (to : ByteRange) (byte_for : ℕ → Option ℕ) (before : List ℕ) (at : ℕ) → is_between to at ≡ true
    → over to byte_for before at ≡ option_map (λ old. unwrap_or (byte_for (at - to.from)) old) (slice_get before at)
over-in to byte_for before at e = cond-true (is_between to at) _ _ e

over-out : (to : ByteRange) (byte_for : ℕ → Option ℕ) (before : List ℕ) (at : ℕ) → is_between to at ≡ false
    → over to byte_for before at ≡ slice_get before at
over-out to byte_for before at e = cond-false (is_between to at) _ _ e

-- nothing is written yet
pub written-none : (to : ByteRange) (byte_for : ℕ → Option ℕ) (bytes : List ℕ) → IsWritten (first_of to 0) byte_for bytes bytes
written-none to byte_for bytes = record {
  sized = refl;
  each = λ at. sym (over-out (first_of to 0) byte_for bytes at (grind (arith, nat_tests)));
}

there : (bytes : List ℕ) (at : ℕ) → at < length bytes → (old : ℕ) × (slice_get bytes at ≡ Some old)
there [] at below = absurd (omega arith)
there (x ∷ xs) zero below = (x, refl)
there (x ∷ xs) (suc at) below = there xs at (omega arith)

-- one byte more
pub written-more : (to : ByteRange) (byte_for : ℕ → Option ℕ) (before mid : List ℕ) (k place x : ℕ) → place ≡ to.from + k → place < length before → byte_for k ≡ Some x
    → IsWritten (first_of to k) byte_for before mid → IsWritten (first_of to (k + 1)) byte_for before (set mid place x)
written-more to byte_for before mid k place x is below byte w = record {
  sized = set-length mid place x ∙ w.sized;
  each = λ at. elim (cases_eq at place) [
    | inl same ↦
        let sized = w.sized in
        let here = there before at (omega arith) in
        let number : at - to.from ≡ k = omega arith in
        (subst (λ j. slice_get (set mid place x) j ≡ Some x) (sym same) (set-same mid place x (omega arith)))
        ∙ sym (over-in (first_of to (k + 1)) byte_for before at (grind (arith, nat_tests))
        ∙ (ap (option_map (λ old. unwrap_or (byte_for (at - to.from)) old)) here.1
        ∙ ap (λ o. Some (unwrap_or o here.0)) (ap byte_for number ∙ byte)))
    | inr differs ↦
        set-other mid place x at differs ∙ (w.each at ∙ elim (cases_Bool (is_between (first_of to k) at)) [
          | inl inside ↦
              over-in (first_of to k) byte_for before at inside
              ∙ sym (over-in (first_of to (k + 1)) byte_for before at (grind (arith, nat_tests)))
          | inr outside ↦
              over-out (first_of to k) byte_for before at outside
              ∙ sym (over-out (first_of to (k + 1)) byte_for before at (grind (arith, nat_tests)))
        ])
  ];
}

-- all bytes that there are, of those that are there
pub written-all : (to : ByteRange) (byte_for : ℕ → Option ℕ) (before after : List ℕ) (n : ℕ) → n ≤ to.size
    → ((k : ℕ) → n ≤ k → to.from + k < length before → k < to.size → byte_for k ≡ None)
    → IsWritten (first_of to n) byte_for before after → IsWritten to byte_for before after
written-all to byte_for before after n within ends w = record {
  sized = w.sized;
  each = λ at. w.each at ∙ elim (cases_Bool (is_between (first_of to n) at)) [
    | inl inside ↦
        over-in (first_of to n) byte_for before at inside
        ∙ sym (over-in to byte_for before at (grind (arith, nat_tests)))
    | inr outside ↦
        over-out (first_of to n) byte_for before at outside
        ∙ elim (cases_Bool (is_between to at)) [
          | inl more ↦
              elim (cases_lt at (length before)) [
                | inl below ↦
                    let old = there before at below in
                    let none : byte_for (at - to.from) ≡ None =
                    ends (at - to.from) (grind (arith, nat_tests)) (grind (arith, nat_tests)) (grind (arith, nat_tests)) in
                    sym (over-in to byte_for before at more
                    ∙ (ap (option_map (λ o. unwrap_or (byte_for (at - to.from)) o)) old.1
                    ∙ (ap (λ o. Some (unwrap_or o old.0)) none ∙ sym old.1)))
                | inr past ↦
                    let none = slice_get_past before at past in
                    sym (over-in to byte_for before at more
                    ∙ (ap (option_map (λ o. unwrap_or (byte_for (at - to.from)) o)) none ∙ sym none))
              ]
          | inr beside ↦ sym (over-out to byte_for before at beside)
        ]
  ];
}

-- a range that begins past the end is as before
pub written-past : (to : ByteRange) (byte_for : ℕ → Option ℕ) (bytes : List ℕ) → length bytes ≤ to.from → IsWritten to byte_for bytes bytes
written-past to byte_for bytes past =
    written-all to byte_for bytes bytes 0 (omega arith) (λ k low below high. absurd (omega arith)) (written-none to byte_for bytes)

-- ---- bytes that are copied over others

slice_get-left : (xs ys : List ℕ) (k : ℕ) → k < length xs → slice_get (xs ++ ys) k ≡ slice_get xs k
slice_get-left [] ys k below = absurd (omega arith)
slice_get-left (x ∷ xs) ys zero below = refl
slice_get-left (x ∷ xs) ys (suc k) below = slice_get-left xs ys k (omega arith)

slice_get-right : (xs ys : List ℕ) (k : ℕ) → length xs ≤ k → slice_get (xs ++ ys) k ≡ slice_get ys (k - length xs)
slice_get-right [] ys k past = let e : k ≡ k - 0 = omega arith in ap (slice_get ys) e
slice_get-right (x ∷ xs) ys zero past = absurd (omega arith)
slice_get-right (x ∷ xs) ys (suc k) past = let e : suc k - suc (length xs) ≡ k - length xs = omega arith in slice_get-right xs ys k (omega arith) ∙ ap (slice_get ys) (sym e)

slice_get-take : (n : ℕ) (xs : List ℕ) (k : ℕ) → k < n → slice_get (take n xs) k ≡ slice_get xs k
slice_get-take zero xs k below = absurd (omega arith)
slice_get-take (suc n) [] k below = refl
slice_get-take (suc n) (x ∷ xs) zero below = refl
slice_get-take (suc n) (x ∷ xs) (suc k) below = slice_get-take n xs k (omega arith)

slice_get-drop : (n : ℕ) (xs : List ℕ) (k : ℕ) → slice_get (drop n xs) k ≡ slice_get xs (n + k)
slice_get-drop zero xs k = let e : k ≡ 0 + k = omega arith in ap (slice_get xs) e
slice_get-drop (suc n) [] k = refl
slice_get-drop (suc n) (x ∷ xs) k =
    let e : suc (n + k) ≡ suc n + k = omega arith in slice_get-drop n xs k ∙ ap (slice_get (x ∷ xs)) e

-- the first bytes of a range are those of a list, which is copied there
copied : (to : ByteRange) (byte_for : ℕ → Option ℕ) (bytes before : List ℕ) (n : ℕ) → length bytes ≡ n → to.from + n ≤ length before
    → ((k : ℕ) → k < n → byte_for k ≡ slice_get bytes k)
    → IsWritten (first_of to n) byte_for before (take to.from before ++ (bytes ++ drop (to.from + n) before))
copied to byte_for bytes before n long fits same =
    let front = take to.from before in
    let back = drop (to.from + n) before in
    let front-long : length front ≡ to.from = length-take-le to.from before (omega arith) in record {
      sized = omega (arith, length-append front (bytes ++ back), length-append bytes back, length-drop (to.from + n) before);
      each = λ at. elim (cases_lt at to.from) [
        | inl below ↦
            slice_get-left front (bytes ++ back) at (omega arith) ∙ (slice_get-take to.from before at below
            ∙ sym (over-out (first_of to n) byte_for before at (grind (arith, nat_tests))))
        | inr past ↦
            let moved : at - length front ≡ at - to.from = omega arith in
            slice_get-right front (bytes ++ back) at (omega arith) ∙ (ap (slice_get (bytes ++ back)) moved
            ∙ elim (cases_lt (at - to.from) n) [
              | inl inside ↦
                  let old = there before at (omega arith) in
                  let new = there bytes (at - to.from) (omega arith) in
                  slice_get-left bytes back (at - to.from) (omega arith) ∙ (new.1
                  ∙ sym (over-in (first_of to n) byte_for before at (grind (arith, nat_tests))
                  ∙ (ap (option_map (λ o. unwrap_or (byte_for (at - to.from)) o)) old.1
                  ∙ ap (λ o. Some (unwrap_or o old.0)) (same (at - to.from) inside ∙ new.1))))
              | inr behind ↦
                  let rest : (to.from + n) + ((at - to.from) - length bytes) ≡ at = omega arith in
                  slice_get-right bytes back (at - to.from) (omega arith)
                  ∙ (slice_get-drop (to.from + n) before ((at - to.from) - length bytes) ∙ (ap (slice_get before) rest
                  ∙ sym (over-out (first_of to n) byte_for before at (grind (arith, nat_tests)))))
            ])
      ];
    }

-- as many bytes of a list as go into a range are copied over it
pub overwritten : (to : ByteRange) (bytes before after : List ℕ) (n : ℕ) → n ≤ to.size → n ≤ length bytes → to.from + n ≤ length before
    → (n < to.size → n < length bytes → length before ≤ to.from + n)
    → after ≡ take to.from before ++ (take n bytes ++ drop (to.from + length (take n bytes)) before) → IsOverwritten to bytes before after
overwritten to bytes before after n within there-are fits ends is =
    let long : length (take n bytes) ≡ n = length-take-le n bytes there-are in
    let after-is : after ≡ take to.from before ++ (take n bytes ++ drop (to.from + n) before) =
    is ∙ ap (λ m. take to.from before ++ (take n bytes ++ drop (to.from + m) before)) long in
    written-all to (slice_get bytes) before after n within
    (λ k past below inside. slice_get_past bytes k (elim (cases_lt n (length bytes)) [
      | inl more ↦ absurd (omega (arith, ends (omega arith) more))
      | inr all ↦ omega arith
    ]))
    (subst (IsWritten (first_of to n) (slice_get bytes) before) (sym after-is)
    (copied to (slice_get bytes) (take n bytes) before n long fits (λ k below. sym (slice_get-take n bytes k below))))
