-- What the rows of eight boxes come to.
use Rattle.std.proofs.Common.{◌≡◌, ◌∙◌, ℕ, zero, suc, ℤ, pos, ◌+ℤ◌, ◌≤ℤ◌, Bool, true, false, cond, ◌-◌, ◌/◌, ◌%◌, ◌<◌, ◌≤◌, ◌^◌, ◌↔◌, List, [], ◌∷◌, map, length, replicate, refl, sym, ap, subst, arith, nat_lt, nat_le, slice_index_or, Fits, w8, w32}
use Rattle.std.specs.Int.{int_max, int_min}
use Rattle.std.proofs.lemmas.Int.{clamps, ints}
use Rattle.std.proofs.lemmas.Bool.Decides.{nat_tests}
use Rattle.std.proofs.lemmas.List.{get_or-replicate}
use Rattle.std.proofs.lemmas.Simd.{bit_mask_l, get_or-zip2, length-zip2, mask_l-lt, mask_l-mod, tops_compared}
use lib.Lanes.{zip2, mask_l, top, Each1}
use mir.Syntax.{wrap_sub}
use borrow.Table.Row.{s_int}
use borrow.Rule.Simd.Lanes.{act2}
use Rattle.ray_lanes.specs.Overlap.{HasBit}
use Rattle.ray_slabs.specs.declared.eights.Bounds8.{Bounds8}
use Rattle.ray_slabs.specs.declared.planes.Planes.{Planes}
use Rattle.ray_slabs.specs.declared.slabs.Slabs.{Slabs}
use Rattle.ray_slabs.specs.Axes.{far_of, near_of}
use Rattle.ray_slabs.specs.Bounds.{entry_key, exit_key}
use Rattle.ray_slabs.specs.Eights.{any_key}
use Rattle.ray_slabs.specs.Rows.{greater_row, lesser_row}
use Rattle.ray_slabs.proofs.Lanes.{le32}

-- ---- bits

module _ (a b : List ℕ) (long : length a ≡ 8) (broad : length b ≡ 8) where
  abbrev pub number : ℕ
  number = mask_l (map (top 31) (zip2 le32 a b)) % 18446744073709551616

  tests-long : length (zip2 nat_le a b) ≡ 8
  tests-long = length-zip2 nat_le a b (long ∙ sym broad) ∙ long

  number-is : number ≡ mask_l (zip2 nat_le a b)
  number-is =
      ap (λ ms. mask_l ms % 18446744073709551616) (tops_compared w32 nat_le a b)
      ∙ mask_l-mod (zip2 nat_le a b) 64 (omega (arith, tests-long))

  pub number-fits : Fits w8 number
  number-fits = record { fits = omega (arith, number-is, mask_l-lt (zip2 nat_le a b), ap (λ n. 2 ^ n) tests-long) }

  number-bit : (k : ℕ) → k < 8 → number / 2 ^ k % 2 ≡ cond (nat_le (slice_index_or a k 0) (slice_index_or b k 0)) 1 0
  number-bit k few =
      ap (λ n. n / 2 ^ k % 2) number-is
      ∙ (bit_mask_l (zip2 nat_le a b) k
      ∙ ap (λ t. cond t 1 0) (get_or-zip2 nat_le a b k 0 0 false (omega (arith, few, long)) (omega (arith, few, broad))))

  set : (t : Bool) → ◌≡◌ {A = ℕ} (cond t 1 0) 1 → t ≡ true
  set true e = refl
  set false e = absurd (omega arith)

  le-of : (x y : ℕ) → nat_le x y ≡ true → x ≤ y
  le-of x y e = grind (arith, nat_tests)

  of-le : (x y : ℕ) → x ≤ y → nat_le x y ≡ true
  of-le x y h = grind (arith, nat_tests)

  pub number-told : (k : ℕ) → k < 8 → HasBit number k ↔ (slice_index_or a k 0 ≤ slice_index_or b k 0)
  number-told k few = (
    (λ bit. le-of (slice_index_or a k 0) (slice_index_or b k 0) (set (nat_le (slice_index_or a k 0) (slice_index_or b k 0)) (sym (number-bit k few) ∙ bit))),
    (λ h. number-bit k few ∙ ap (λ t. cond t 1 0) (of-le (slice_index_or a k 0) (slice_index_or b k 0) h)),
  )

-- ---- keys

each-at : {X : Type 0} (P : X → Type 0) (xs : List X) (k : ℕ) (d : X) → k < length xs → Each1 P xs → P (slice_index_or xs k d)
each-at P [] k d small each = absurd (omega (arith, small))
each-at P (x ∷ xs) zero d small each = each.0
each-at P (x ∷ xs) (suc k) d small each = each-at P xs k d (omega (arith, small)) each.1

less : (x : ℕ) → Fits w32 x → 2 ^ 31 ≤ x → act2 wrap_sub (s_int w32) (s_int w32) (s_int w32) x 2147483648 ≡ x - 2 ^ 31
less x f h = let small = f.fits in omega (arith, small, h)

pub keys-at : (row : List ℕ) → length row ≡ 8 → Each1 (Fits w32) row → (k : ℕ) → k < 8 → 2 ^ 31 ≤ slice_index_or row k 0
    → slice_index_or (zip2 (act2 wrap_sub (s_int w32) (s_int w32) (s_int w32)) row (replicate 8 2147483648)) k 0 ≡ slice_index_or row k 0 - 2 ^ 31
keys-at row long fit k few h =
    get_or-zip2 (act2 wrap_sub (s_int w32) (s_int w32) (s_int w32)) row (replicate 8 2147483648) k 0 0 0 (omega (arith, few, long)) few
    ∙ (ap (act2 wrap_sub (s_int w32) (s_int w32) (s_int w32) (slice_index_or row k 0)) (get_or-replicate 8 k 2147483648 0 few)
    ∙ less (slice_index_or row k 0) (each-at (Fits w32) row k 0 (omega (arith, few, long)) fit) h)

-- ---- the greatest and the least

greater-lifted : (a b : ℕ) (x y : ℤ) → pos a ≡ x +ℤ pos (2 ^ 31) → pos b ≡ y +ℤ pos (2 ^ 31) → pos (cond (nat_lt a b) b a) ≡ int_max x y +ℤ pos (2 ^ 31)
greater-lifted a b x y e f = by (nat_lt a b) refl
  where
    by : (t : Bool) → nat_lt a b ≡ t → pos (cond t b a) ≡ int_max x y +ℤ pos (2 ^ 31)
    by true i = let h : a < b = (grind (arith, nat_tests)) in omega (arith, ints, clamps, h, e, f)
    by false i = let h : b ≤ a = (grind (arith, nat_tests)) in omega (arith, ints, clamps, h, e, f)

lesser-lifted : (a b : ℕ) (x y : ℤ) → pos a ≡ x +ℤ pos (2 ^ 31) → pos b ≡ y +ℤ pos (2 ^ 31) → pos (cond (nat_lt a b) a b) ≡ int_min x y +ℤ pos (2 ^ 31)
lesser-lifted a b x y e f = by (nat_lt a b) refl
  where
    by : (t : Bool) → nat_lt a b ≡ t → pos (cond t a b) ≡ int_min x y +ℤ pos (2 ^ 31)
    by true i = let h : a < b = (grind (arith, nat_tests)) in omega (arith, ints, clamps, h, e, f)
    by false i = let h : b ≤ a = (grind (arith, nat_tests)) in omega (arith, ints, clamps, h, e, f)

-- a row of eight that has a whole number at a lane, with 2^31 more
pub record IsAt (row : List ℕ) (k : ℕ) (z : ℤ) : Type 0 where
  pub long : length row ≡ 8
  pub is : pos (slice_index_or row k 0) ≡ z +ℤ pos (2 ^ 31)

module _ (k : ℕ) (few : k < 8) where
  pub replicated : (n : ℕ) (z : ℤ) → pos n ≡ z +ℤ pos (2 ^ 31) → IsAt (replicate 8 n) k z
  replicated n z e = record { long = refl; is = ap pos (get_or-replicate 8 k n 0 few) ∙ e }

  pub greater : (a b : List ℕ) (x y : ℤ) → IsAt a k x → IsAt b k y → IsAt (greater_row a b) k (int_max x y)
  greater a b x y p q =
      let long = p.long in
      let broad = q.long in
      record {
        long = length-zip2 (λ u v. cond (nat_lt u v) v u) a b (long ∙ sym broad) ∙ long;
        is = ap pos (get_or-zip2 (λ u v. cond (nat_lt u v) v u) a b k 0 0 0 (omega (arith, few, long)) (omega (arith, few, broad)))
            ∙ greater-lifted (slice_index_or a k 0) (slice_index_or b k 0) x y p.is q.is;
      }

  pub lesser : (a b : List ℕ) (x y : ℤ) → IsAt a k x → IsAt b k y → IsAt (lesser_row a b) k (int_min x y)
  lesser a b x y p q =
      let long = p.long in
      let broad = q.long in
      record {
        long = length-zip2 (λ u v. cond (nat_lt u v) u v) a b (long ∙ sym broad) ∙ long;
        is = ap pos (get_or-zip2 (λ u v. cond (nat_lt u v) u v) a b k 0 0 0 (omega (arith, few, long)) (omega (arith, few, broad)))
            ∙ lesser-lifted (slice_index_or a k 0) (slice_index_or b k 0) x y p.is q.is;
      }

-- ---- what is told

-- where two rows have an entry and an exit at a lane
pub told-at : (k : ℕ) (slabs : Slabs) (planes : Planes) (bounds : Bounds8) (entries exits : List ℕ) → pos 0 ≤ℤ slabs.last → slabs.last ≤ℤ pos (2 ^ 31 - 64)
    → IsAt entries k (entry_key slabs planes)
    → IsAt exits k (int_min (int_min (int_min slabs.last (far_of slabs.x planes.lo_x planes.hi_x)) (far_of slabs.y planes.lo_y planes.hi_y)) (far_of slabs.z planes.lo_z planes.hi_z))
    → HasBit bounds.met k ↔ (slice_index_or entries k 0 ≤ slice_index_or exits k 0)
    → (2 ^ 31 ≤ slice_index_or entries k 0 → slice_index_or bounds.keys k 0 ≡ slice_index_or entries k 0 - 2 ^ 31)
    → (HasBit bounds.met k ↔ (entry_key slabs planes ≤ℤ exit_key slabs any_key planes)) × (pos (slice_index_or bounds.keys k 0) ≡ entry_key slabs planes)
told-at k slabs planes bounds entries exits not_before short p q bits keys =
    by (far_of slabs.x planes.lo_x planes.hi_x) (far_of slabs.y planes.lo_y planes.hi_y) (far_of slabs.z planes.lo_z planes.hi_z)
    (near_of slabs.x planes.lo_x planes.hi_x) (near_of slabs.y planes.lo_y planes.hi_y) (near_of slabs.z planes.lo_z planes.hi_z) p.is q.is
  where
    by : (x y z a b c : ℤ) → pos (slice_index_or entries k 0) ≡ int_max (int_max (int_max (pos 0) a) b) c +ℤ pos (2 ^ 31)
        → pos (slice_index_or exits k 0) ≡ int_min (int_min (int_min slabs.last x) y) z +ℤ pos (2 ^ 31)
        → (HasBit bounds.met k ↔ (int_max (int_max (int_max (pos 0) a) b) c ≤ℤ int_min (int_min (int_min (int_min slabs.last any_key) x) y) z))
        × (pos (slice_index_or bounds.keys k 0) ≡ int_max (int_max (int_max (pos 0) a) b) c)
    by x y z a b c e f =
        let within : int_min slabs.last any_key ≡ slabs.last = omega (arith, ints, clamps, short) in
        let positive : pos 0 ≤ℤ int_max (int_max (int_max (pos 0) a) b) c = omega (arith, ints, clamps) in
        known (int_max (int_max (int_max (pos 0) a) b) c) (int_min (int_min (int_min slabs.last x) y) z) (int_min (int_min (int_min (int_min slabs.last any_key) x) y) z)
        (ap (λ l. int_min (int_min (int_min l x) y) z) (sym within)) positive e f
      where
        known : (in_ out other : ℤ) → out ≡ other → pos 0 ≤ℤ in_ → pos (slice_index_or entries k 0) ≡ in_ +ℤ pos (2 ^ 31) → pos (slice_index_or exits k 0) ≡ out +ℤ pos (2 ^ 31)
            → (HasBit bounds.met k ↔ (in_ ≤ℤ other)) × (pos (slice_index_or bounds.keys k 0) ≡ in_)
        known in_ out other same positive e f =
            let kept : HasBit bounds.met k ↔ (in_ ≤ℤ other) =
            ((λ bit. let h = bits.0 bit in omega (arith, ints, h, same, e, f)), (λ le. bits.1 (omega (arith, ints, le, same, e, f)))) in
            let key : pos (slice_index_or bounds.keys k 0) ≡ in_ =
            (let h = keys (omega (arith, ints, positive, e)) in omega (arith, ints, h, e, positive)) in
            (kept, key)

pub as-row : (k : ℕ) (z : ℤ) (a b : List ℕ) → a ≡ b → IsAt b k z → IsAt a k z
as-row k z a b e at = subst (λ row. IsAt row k z) (sym e) at
