-- The slab test of eight boxes, lane by lane.
use Rattle.std.proofs.Common.{map, ◌≡◌, ◌∙◌, ℕ, ℤ, pos, negsuc, neg_ℤ, ◌+ℤ◌, ◌-ℤ◌, ◌≤ℤ◌, Bool, true, false, cond, ◌&&◌, ◌+◌, ◌-◌, ◌*◌, ◌%◌, ◌<◌, ◌≤◌, ◌^◌, List, length, refl, sym, ap, subst, arith, nat_le, slice_index_or, FitsSigned, of_z, to_z, to_z-of_z, w32}
use Rattle.std.specs.Prelude.{int_le}
use Rattle.std.proofs.lemmas.Int.{ints}
use Rattle.std.proofs.lemmas.Bool.Decides.{nat_tests}
use Rattle.std.proofs.lemmas.List.{get_or-map, get_or-replicate, length-map}
use Rattle.std.proofs.lemmas.Simd.{get_or-zip2, length-zip2}
use Rattle.std.proofs.Math.Nat.{mul-le-mul_right}
use Rattle.ray_geom.specs.Vector.{IsWithin}
use Rattle.ray_prune.specs.BoxReach.{natural_part}
use Rattle.ray_slabs.specs.declared.axis.Axis.{Axis}
use Rattle.ray_slabs.specs.declared.axis.Axis.TheVariants.{Rising, Falling, Flat}
use Rattle.ray_slabs.specs.Keys.{high_half}
use Rattle.ray_slabs.specs.Axes.{IsSafe, beyond, far_of, near_of, overlaps}
use Rattle.ray_slabs.specs.AxisRows.{IsFit, far_row, lifted_beyond, lifted_far, near_row}
use Rattle.ray_slabs.specs.Eights.{IsFarRow, IsNearRow}
use Rattle.ray_slabs.specs.Rows.{high_of_word, high_row, keys_over, keys_under, lifted, plane_of_word, planes_row, stored_word}

-- ---- planes

natural_is : (z : ℤ) → pos 0 ≤ℤ z → pos (natural_part z) ≡ z
natural_is (pos n) h = omega (arith, ints)
natural_is (negsuc n) h = absurd (omega (arith, ints))

plane-word : (p : ℤ) → IsWithin (2 ^ 19) p → plane_of_word p ≡ natural_part (p +ℤ pos (2 ^ 19))
plane-word (pos n) w = let b = w.below in let e = natural_is (pos n +ℤ pos (2 ^ 19)) (omega (arith, ints)) in omega (arith, ints, b, e)
plane-word (negsuc n) w = let b = w.above in let e = natural_is (negsuc n +ℤ pos (2 ^ 19)) (omega (arith, ints, b)) in omega (arith, ints, b, e)

short-plane : (p : ℤ) → IsWithin (2 ^ 19) p → natural_part (p +ℤ pos (2 ^ 19)) ≤ 2 ^ 20
short-plane p w =
    let a = w.above in let b = w.below in let e = natural_is (p +ℤ pos (2 ^ 19)) (omega (arith, ints, a)) in omega (arith, ints, b, e)

high-short : (factor p : ℕ) → p ≤ 2 ^ 20 → factor < 2 ^ 32 → high_half (p * 1024) factor ≤ 2 ^ 30
high-short factor p few small =
    let m : p * factor ≤ 2 ^ 20 * factor = mul-le-mul_right factor few in
    let e : (p * 1024) * factor ≡ 1024 * (p * factor) = omega arith in
    omega (arith, m, e, small)

high-word : (factor p : ℕ) → p ≤ 2 ^ 20 → factor < 2 ^ 32 → high_of_word factor p ≡ high_half (p * 1024) factor
high-word factor p few small =
    let m : p * factor ≤ 2 ^ 20 * factor = mul-le-mul_right factor few in
    let e : (p * 1024) * factor ≡ 1024 * (p * factor) = omega arith in
    omega (arith, m, e, small)

-- ---- one axis, one lane

low-fits : (z : ℤ) → FitsSigned w32 z → neg_ℤ (pos (2 ^ 31)) ≤ℤ z
low-fits (pos n) f = omega (arith, ints)
low-fits (negsuc n) f = let h = f.sfits in omega (arith, ints, h)

high-fits : (z : ℤ) → FitsSigned w32 z → z ≤ℤ pos (2 ^ 31 - 1)
high-fits (pos n) f = let h = f.sfits in omega (arith, ints, h)
high-fits (negsuc n) f = omega (arith, ints)

lifted-is : (z : ℤ) → FitsSigned w32 z → pos (lifted z) ≡ z +ℤ pos (2 ^ 31)
lifted-is z f = natural_is (z +ℤ pos (2 ^ 31)) (let h = low-fits z f in omega (arith, ints, h))

-- what a row has at a lane
abbrev near_word : Axis → ℕ → ℕ → ℕ
near_word (Rising factor start) lo hi = (lifted start + high_of_word factor lo) % 2 ^ 32
near_word (Falling factor start) lo hi = (lifted start + (2 ^ 32 - high_of_word factor hi)) % 2 ^ 32
near_word (Flat from to) lo hi = cond (nat_le (stored_word lo) (lifted to) && nat_le (lifted from) (stored_word hi)) 0 lifted_beyond

abbrev far_word : Axis → ℕ → ℕ → ℕ
far_word (Rising factor start) lo hi = (lifted_far start + high_of_word factor hi) % 2 ^ 32
far_word (Falling factor start) lo hi = (lifted_far start + (2 ^ 32 - high_of_word factor lo)) % 2 ^ 32
far_word (Flat from to) lo hi = lifted_beyond

rising : (start : ℤ) (s h : ℕ) → pos s ≡ start +ℤ pos (2 ^ 31) → start ≤ℤ pos (2 ^ 31 - 64 - 2 ^ 30) → h ≤ 2 ^ 30
    → pos ((s + h) % 2 ^ 32) ≡ (start +ℤ pos h) +ℤ pos (2 ^ 31)
rising start s h is high few = omega (arith, ints)

rising-far : (start : ℤ) (s h : ℕ) → pos s ≡ start +ℤ pos (2 ^ 31) → start ≤ℤ pos (2 ^ 31 - 64 - 2 ^ 30) → h ≤ 2 ^ 30
    → pos (((s + 3) % 2 ^ 32 + h) % 2 ^ 32) ≡ ((start +ℤ pos h) +ℤ pos 3) +ℤ pos (2 ^ 31)
rising-far start s h is high few = omega (arith, ints)

falling : (start : ℤ) (s h : ℕ) → pos s ≡ start +ℤ pos (2 ^ 31) → neg_ℤ (pos (2 ^ 30)) ≤ℤ start → start ≤ℤ pos (2 ^ 31 - 64) → h ≤ 2 ^ 30
    → pos ((s + (2 ^ 32 - h)) % 2 ^ 32) ≡ (start -ℤ pos h) +ℤ pos (2 ^ 31)
falling start s h is low high few = omega (arith, ints)

falling-far : (start : ℤ) (s h : ℕ) → pos s ≡ start +ℤ pos (2 ^ 31) → neg_ℤ (pos (2 ^ 30)) ≤ℤ start → start ≤ℤ pos (2 ^ 31 - 64) → h ≤ 2 ^ 30
    → pos (((s + 3) % 2 ^ 32 + (2 ^ 32 - h)) % 2 ^ 32) ≡ ((start -ℤ pos h) +ℤ pos 3) +ℤ pos (2 ^ 31)
falling-far start s h is low high few = omega (arith, ints)

-- a test of naturals is one of whole numbers 2^31 less
same-test : (a b : ℕ) (x y : ℤ) → pos a ≡ x +ℤ pos (2 ^ 31) → pos b ≡ y +ℤ pos (2 ^ 31) → nat_le a b ≡ int_le x y
same-test a b x y e f = by (nat_le a b) refl (int_le x y) refl
  where
    by : (p : Bool) → nat_le a b ≡ p → (q : Bool) → int_le x y ≡ q → p ≡ q
    by true i true j = refl
    by false i false j = refl
    by true i false j = absurd (grind (arith, ints, nat_tests))
    by false i true j = absurd (grind (arith, ints, nat_tests))

stored-is : (p : ℕ) → p ≤ 2 ^ 20 → pos (stored_word p) ≡ pos (p * 1024) +ℤ pos (2 ^ 31)
stored-is p few = omega (arith, ints)

flat : (t : Bool) → pos (cond t 0 lifted_beyond) ≡ cond t (neg_ℤ (pos (2 ^ 31))) beyond +ℤ pos (2 ^ 31)
flat true = refl
flat false = refl

near-by : (axis : Axis) → IsSafe axis → IsFit axis → (p q : ℕ) → p ≤ 2 ^ 20 → q ≤ 2 ^ 20
    → pos (near_word axis p q) ≡ near_of axis (p * 1024) (q * 1024) +ℤ pos (2 ^ 31)
near-by (Rising factor start) safe (small, fits) p q few many =
    let low = safe.low in
    let high = safe.high in
    rising start (lifted start) (high_of_word factor p) (lifted-is start fits) (omega (arith, ints, high))
    (subst (λ x. x ≤ 2 ^ 30) (sym (high-word factor p few small)) (high-short factor p few small))
    ∙ ap (λ x. (start +ℤ pos x) +ℤ pos (2 ^ 31)) (high-word factor p few small)
near-by (Falling factor start) safe (small, fits) p q few many =
    let low = safe.low in
    let high = safe.high in
    falling start (lifted start) (high_of_word factor q) (lifted-is start fits) (omega (arith, ints, low)) (omega (arith, ints, high))
    (subst (λ x. x ≤ 2 ^ 30) (sym (high-word factor q many small)) (high-short factor q many small))
    ∙ ap (λ x. (start -ℤ pos x) +ℤ pos (2 ^ 31)) (high-word factor q many small)
near-by (Flat from to) safe (f, g) p q few many =
    ap (λ t. pos (cond t 0 lifted_beyond))
    (λ i. same-test (stored_word p) (lifted to) (pos (p * 1024)) to (stored-is p few) (lifted-is to g) i
    && same-test (lifted from) (stored_word q) from (pos (q * 1024)) (lifted-is from f) (stored-is q many) i)
    ∙ flat (overlaps from to (p * 1024) (q * 1024))

far-by : (axis : Axis) → IsSafe axis → IsFit axis → (p q : ℕ) → p ≤ 2 ^ 20 → q ≤ 2 ^ 20
    → pos (far_word axis p q) ≡ far_of axis (p * 1024) (q * 1024) +ℤ pos (2 ^ 31)
far-by (Rising factor start) safe (small, fits) p q few many =
    let high = safe.high in
    rising-far start (lifted start) (high_of_word factor q) (lifted-is start fits) (omega (arith, ints, high))
    (subst (λ x. x ≤ 2 ^ 30) (sym (high-word factor q many small)) (high-short factor q many small))
    ∙ ap (λ x. ((start +ℤ pos x) +ℤ pos 3) +ℤ pos (2 ^ 31)) (high-word factor q many small)
far-by (Falling factor start) safe (small, fits) p q few many =
    let low = safe.low in
    let high = safe.high in
    falling-far start (lifted start) (high_of_word factor p) (lifted-is start fits) (omega (arith, ints, low)) (omega (arith, ints, high))
    (subst (λ x. x ≤ 2 ^ 30) (sym (high-word factor p few small)) (high-short factor p few small))
    ∙ ap (λ x. ((start -ℤ pos x) +ℤ pos 3) +ℤ pos (2 ^ 31)) (high-word factor p few small)
far-by (Flat from to) safe fit p q few many = refl

-- ---- one axis, eight lanes

planes-at : (row : List ℤ) (k : ℕ) → k < length row → IsWithin (2 ^ 19) (slice_index_or row k (pos 0))
    → slice_index_or (planes_row row) k 0 ≡ natural_part (slice_index_or row k (pos 0) +ℤ pos (2 ^ 19))
planes-at row k small within =
    let long = length-map row (of_z w32) in
    get_or-map (λ a. (2 ^ 19 + a) % 2 ^ 32) (map (of_z w32) row) k 0 0 (omega (arith, long, small))
    ∙ (ap (λ a. (2 ^ 19 + a) % 2 ^ 32) (get_or-map (of_z w32) row k (pos 0) 0 small)
    ∙ plane-word (slice_index_or row k (pos 0)) within)

planes-long : (row : List ℤ) → length (planes_row row) ≡ length row
planes-long row = length-map (map (of_z w32) row) (λ a. (2 ^ 19 + a) % 2 ^ 32) ∙ length-map row (of_z w32)

over-at : (start : ℕ) (row : List ℕ) (factor k : ℕ) → k < length row
    → slice_index_or (keys_over start (high_row row factor)) k 0 ≡ (start + high_of_word factor (slice_index_or row k 0)) % 2 ^ 32
over-at start row factor k small =
    let long = length-map row (high_of_word factor) in
    get_or-map (λ x. (start + x) % 2 ^ 32) (high_row row factor) k 0 0 (omega (arith, long, small))
    ∙ ap (λ x. (start + x) % 2 ^ 32) (get_or-map (high_of_word factor) row k 0 0 small)

under-at : (start : ℕ) (row : List ℕ) (factor k : ℕ) → k < length row
    → slice_index_or (keys_under start (high_row row factor)) k 0 ≡ (start + (2 ^ 32 - high_of_word factor (slice_index_or row k 0))) % 2 ^ 32
under-at start row factor k small =
    let long = length-map row (high_of_word factor) in
    get_or-map (λ x. (start + (2 ^ 32 - x)) % 2 ^ 32) (high_row row factor) k 0 0 (omega (arith, long, small))
    ∙ ap (λ x. (start + (2 ^ 32 - x)) % 2 ^ 32) (get_or-map (high_of_word factor) row k 0 0 small)

near-at : (axis : Axis) (lo hi : List ℕ) (k : ℕ) → k < length lo → k < length hi
    → slice_index_or (near_row axis lo hi) k 0 ≡ near_word axis (slice_index_or lo k 0) (slice_index_or hi k 0)
near-at (Rising factor start) lo hi k a b = over-at (lifted start) lo factor k a
near-at (Falling factor start) lo hi k a b = under-at (lifted start) hi factor k b
near-at (Flat from to) lo hi k a b =
    get_or-zip2 (λ l h. cond (nat_le (stored_word l) (lifted to) && nat_le (lifted from) (stored_word h)) 0 lifted_beyond) lo hi k 0 0 0 a b

far-at : (axis : Axis) (lo hi : List ℕ) (k : ℕ) → k < 8 → k < length lo → k < length hi
    → slice_index_or (far_row axis lo hi) k 0 ≡ far_word axis (slice_index_or lo k 0) (slice_index_or hi k 0)
far-at (Rising factor start) lo hi k few a b = over-at (lifted_far start) hi factor k b
far-at (Falling factor start) lo hi k few a b = under-at (lifted_far start) lo factor k a
far-at (Flat from to) lo hi k few a b = get_or-replicate 8 k lifted_beyond 0 few

over-long : (start : ℕ) (row : List ℕ) (factor : ℕ) → length (keys_over start (high_row row factor)) ≡ length row
over-long start row factor = length-map (high_row row factor) (λ x. (start + x) % 2 ^ 32) ∙ length-map row (high_of_word factor)

under-long : (start : ℕ) (row : List ℕ) (factor : ℕ) → length (keys_under start (high_row row factor)) ≡ length row
under-long start row factor = length-map (high_row row factor) (λ x. (start + (2 ^ 32 - x)) % 2 ^ 32) ∙ length-map row (high_of_word factor)

near-long : (axis : Axis) (lo hi : List ℕ) → length lo ≡ 8 → length hi ≡ 8 → length (near_row axis lo hi) ≡ 8
near-long (Rising factor start) lo hi a b = over-long (lifted start) lo factor ∙ a
near-long (Falling factor start) lo hi a b = under-long (lifted start) hi factor ∙ b
near-long (Flat from to) lo hi a b =
    length-zip2 (λ l h. cond (nat_le (stored_word l) (lifted to) && nat_le (lifted from) (stored_word h)) 0 lifted_beyond) lo hi (a ∙ sym b) ∙ a

far-long : (axis : Axis) (lo hi : List ℕ) → length lo ≡ 8 → length hi ≡ 8 → length (far_row axis lo hi) ≡ 8
far-long (Rising factor start) lo hi a b = over-long (lifted_far start) hi factor ∙ b
far-long (Falling factor start) lo hi a b = under-long (lifted_far start) lo factor ∙ a
far-long (Flat from to) lo hi a b = refl

module _ (axis : Axis) (safe : IsSafe axis) (fit : IsFit axis) (lo hi : List ℤ) (a : length lo ≡ 8) (b : length hi ≡ 8) where
  lo-long : length (planes_row lo) ≡ 8
  lo-long = planes-long lo ∙ a

  hi-long : length (planes_row hi) ≡ 8
  hi-long = planes-long hi ∙ b

  pub near-is : (row : List ℕ) → row ≡ near_row axis (planes_row lo) (planes_row hi) → IsNearRow axis lo hi row
  near-is row e = record {
    long = ap length e ∙ near-long axis (planes_row lo) (planes_row hi) lo-long hi-long;
    each = λ k few l h.
        let p = planes-at lo k (omega (arith, few, a)) l in
        let q = planes-at hi k (omega (arith, few, b)) h in
        ap pos (ap (λ xs. slice_index_or xs k 0) e
        ∙ (near-at axis (planes_row lo) (planes_row hi) k (omega (arith, few, lo-long)) (omega (arith, few, hi-long)) ∙ (λ i. near_word axis (p i) (q i))))
        ∙ near-by axis safe fit (natural_part (slice_index_or lo k (pos 0) +ℤ pos (2 ^ 19))) (natural_part (slice_index_or hi k (pos 0) +ℤ pos (2 ^ 19)))
        (short-plane (slice_index_or lo k (pos 0)) l) (short-plane (slice_index_or hi k (pos 0)) h);
  }

  pub far-is : (row : List ℕ) → row ≡ far_row axis (planes_row lo) (planes_row hi) → IsFarRow axis lo hi row
  far-is row e = record {
    long = ap length e ∙ far-long axis (planes_row lo) (planes_row hi) lo-long hi-long;
    each = λ k few l h.
        let p = planes-at lo k (omega (arith, few, a)) l in
        let q = planes-at hi k (omega (arith, few, b)) h in
        ap pos (ap (λ xs. slice_index_or xs k 0) e
        ∙ (far-at axis (planes_row lo) (planes_row hi) k few (omega (arith, few, lo-long)) (omega (arith, few, hi-long)) ∙ (λ i. far_word axis (p i) (q i))))
        ∙ far-by axis safe fit (natural_part (slice_index_or lo k (pos 0) +ℤ pos (2 ^ 19))) (natural_part (slice_index_or hi k (pos 0) +ℤ pos (2 ^ 19)))
        (short-plane (slice_index_or lo k (pos 0)) l) (short-plane (slice_index_or hi k (pos 0)) h);
  }

-- ---- the last key

fits-last : (last : ℤ) → pos 0 ≤ℤ last → last ≤ℤ pos (2 ^ 31 - 64) → FitsSigned w32 last
fits-last (pos n) h k = record { sfits = omega (arith, ints, k) }
fits-last (negsuc n) h k = absurd (omega (arith, ints, h))

-- also where it is held as its bits
pub lifted-last : (last : ℤ) → pos 0 ≤ℤ last → last ≤ℤ pos (2 ^ 31 - 64) → pos (lifted (to_z w32 (of_z w32 last))) ≡ last +ℤ pos (2 ^ 31)
lifted-last last h k = ap (λ z. pos (lifted z)) (to_z-of_z (fits-last last h k)) ∙ natural_is (last +ℤ pos (2 ^ 31)) (omega (arith, ints, h))
