-- The bits of the number that the masks of three axes give.
use Rattle.std.proofs.Common.{◌≡◌, ◌∙◌, ◌<◌, ◌/◌, ◌%◌, ◌^◌, ◌↔◌, ℕ, zero, suc, ℤ, pos, ◌≤ℤ◌, Bool, true, false, cond, ◌&&◌, List, [], ◌∷◌, map, length, get_or, refl, sym, ap, ap₂, arith, of_z, Fits, w8, w32}
use Rattle.std.specs.Prelude.{int_le}
use Rattle.std.proofs.lemmas.Int.{ints}
use lib.Lanes.{zip2, mask_l, top}
use Rattle.std.proofs.lemmas.Simd.{length-zip2, get_or-zip2, mask_l-lt, mask_l-mod, bit_mask_l}
use Rattle.ray_lanes.specs.declared.lanes.Lanes8.{Lanes8}
use Rattle.ray_lanes.specs.declared.lanes.Window.{Window}
use Rattle.ray_lanes.specs.Overlap.{of_box, on_axis, OverlapsOn, Overlaps, HasBit}
use Rattle.ray_lanes.specs.Masks.{axis_tests, lane_of, mask_of}
use Rattle.ray_lanes.proofs.Compared.{and32}

-- box by box, whether three tests hold
abbrev pub all_of : List Bool → List Bool → List Bool → List Bool
all_of xs ys zs = zip2 (λ a b. a && b) (zip2 (λ a b. a && b) xs ys) zs

-- the number that three masks give
abbrev pub number_of : List ℤ → List ℤ → List ℤ → ℕ
number_of x y z = mask_l (map (top 31) (zip2 and32 (zip2 and32 (map (of_z w32) x) (map (of_z w32) y)) (map (of_z w32) z))) % 2 ^ 64

topped : (p q r : Bool) → top 31 (and32 (and32 (of_z w32 (lane_of p)) (of_z w32 (lane_of q))) (of_z w32 (lane_of r))) ≡ ((p && q) && r)
topped true true true = refl
topped true true false = refl
topped true false true = refl
topped true false false = refl
topped false true true = refl
topped false true false = refl
topped false false true = refl
topped false false false = refl

tops : (xs ys zs : List Bool) → map (top 31) (zip2 and32 (zip2 and32 (map (of_z w32) (mask_of xs)) (map (of_z w32) (mask_of ys))) (map (of_z w32) (mask_of zs))) ≡ all_of xs ys zs
tops [] ys zs = refl
tops (x ∷ xs) [] zs = refl
tops (x ∷ xs) (y ∷ ys) [] = refl
tops (x ∷ xs) (y ∷ ys) (z ∷ zs) = ap₂ (λ a b. a ∷ b) (topped x y z) (tops xs ys zs)

-- the masks of eight boxes on each axis, by their tests
pub record AreMasks (x y z : List ℤ) (xs ys zs : List Bool) : Type 0 where
  pub x_is : x ≡ mask_of xs
  pub y_is : y ≡ mask_of ys
  pub z_is : z ≡ mask_of zs
  pub x_long : length xs ≡ 8
  pub y_long : length ys ≡ 8
  pub z_long : length zs ≡ 8

all_long : (xs ys zs : List Bool) → length xs ≡ 8 → length ys ≡ 8 → length zs ≡ 8 → length (all_of xs ys zs) ≡ 8
all_long xs ys zs a b c =
    let inner : length (zip2 (λ p q. p && q) xs ys) ≡ length xs = length-zip2 (λ p q. p && q) xs ys (a ∙ sym b) in
    length-zip2 (λ p q. p && q) (zip2 (λ p q. p && q) xs ys) zs (inner ∙ a ∙ sym c) ∙ inner ∙ a

number-is : (x y z : List ℤ) (xs ys zs : List Bool) → AreMasks x y z xs ys zs → number_of x y z ≡ mask_l (all_of xs ys zs)
number-is x y z xs ys zs m =
    (λ i. number_of (m.x_is i) (m.y_is i) (m.z_is i))
    ∙ ap (λ ms. mask_l ms % 2 ^ 64) (tops xs ys zs)
    ∙ mask_l-mod (all_of xs ys zs) 64 (omega (arith, all_long xs ys zs m.x_long m.y_long m.z_long))

pub number-fits : (x y z : List ℤ) (xs ys zs : List Bool) → AreMasks x y z xs ys zs → Fits w8 (number_of x y z)
number-fits x y z xs ys zs m =
    let long = all_long xs ys zs m.x_long m.y_long m.z_long in
    record { fits = omega (arith, number-is x y z xs ys zs m, mask_l-lt (all_of xs ys zs), ap (λ n. 2 ^ n) long) }

number-bit : (x y z : List ℤ) (xs ys zs : List Bool) → AreMasks x y z xs ys zs → (k : ℕ) → k < 8
    → number_of x y z / 2 ^ k % 2 ≡ cond ((get_or xs k false && get_or ys k false) && get_or zs k false) 1 0
number-bit x y z xs ys zs m k small =
    let inner : length (zip2 (λ p q. p && q) xs ys) ≡ length xs = length-zip2 (λ p q. p && q) xs ys (m.x_long ∙ sym m.y_long) in
    let a : k < length xs = omega (arith, m.x_long) in
    let b : k < length ys = omega (arith, m.y_long) in
    let c : k < length zs = omega (arith, m.z_long) in
    let d : k < length (zip2 (λ p q. p && q) xs ys) = omega (arith, inner) in
    ap (λ n. n / 2 ^ k % 2) (number-is x y z xs ys zs m)
    ∙ bit_mask_l (all_of xs ys zs) k
    ∙ ap (λ t. cond t 1 0)
    (get_or-zip2 (λ p q. p && q) (zip2 (λ p q. p && q) xs ys) zs k false false false d c
    ∙ ap (λ t. t && get_or zs k false) (get_or-zip2 (λ p q. p && q) xs ys k false false false a b))

set : (b : Bool) → ◌≡◌ {A = ℕ} (cond b 1 0) 1 → b ≡ true
set true h = refl
set false h = absurd (omega arith)

both : (p q : Bool) → (p && q) ≡ true → (p ≡ true) × (q ≡ true)
both true q h = (refl, h)
both false q h = absurd (cc)

yes_at_most : (a b : ℤ) → int_le a b ≡ true → a ≤ℤ b
yes_at_most a b h = grind (arith, ints)

at_most_yes : (a b : ℤ) → a ≤ℤ b → int_le a b ≡ true
at_most_yes a b h = grind (arith, ints)

-- the test of a box on one axis
abbrev pub test_on : Lanes8 → Window → ℕ → ℕ → Bool
test_on lanes window k axis =
    int_le (of_box lanes.lo axis k) (on_axis window.hi axis) && int_le (on_axis window.lo axis) (of_box lanes.hi axis k)

pub on_from : (lanes : Lanes8) (window : Window) (k axis : ℕ) → test_on lanes window k axis ≡ true → OverlapsOn lanes window k axis
on_from lanes window k axis h =
    let parts = both (int_le (of_box lanes.lo axis k) (on_axis window.hi axis)) (int_le (on_axis window.lo axis) (of_box lanes.hi axis k)) h in
    record { begins = yes_at_most _ _ parts.0; ends = yes_at_most _ _ parts.1 }

pub on_to : (lanes : Lanes8) (window : Window) (k axis : ℕ) → OverlapsOn lanes window k axis → test_on lanes window k axis ≡ true
on_to lanes window k axis o = ap₂ (λ p q. p && q) (at_most_yes _ _ o.begins) (at_most_yes _ _ o.ends)

each_axis : (lanes : Lanes8) (window : Window) (k : ℕ) → test_on lanes window k 0 ≡ true → test_on lanes window k 1 ≡ true → test_on lanes window k 2 ≡ true → Overlaps lanes window k
each_axis lanes window k a b c zero small = on_from lanes window k 0 a
each_axis lanes window k a b c (suc zero) small = on_from lanes window k 1 b
each_axis lanes window k a b c (suc (suc zero)) small = on_from lanes window k 2 c
each_axis lanes window k a b c (suc (suc (suc n))) small = absurd (omega arith)

-- box k is told by three tests exactly where it overlaps on each axis
pub bit-overlaps : (lanes : Lanes8) (window : Window) (k n : ℕ)
    → n / 2 ^ k % 2 ≡ cond ((test_on lanes window k 0 && test_on lanes window k 1) && test_on lanes window k 2) 1 0
    → HasBit n k ↔ Overlaps lanes window k
bit-overlaps lanes window k n e = (
  λ has.
      let outer = both _ _ (set _ (sym e ∙ has)) in
      let inner = both _ _ outer.0 in
      each_axis lanes window k inner.0 inner.1 outer.1,
  λ over. e ∙ (λ i. cond ((on_to lanes window k 0 (over 0 (omega arith)) i && on_to lanes window k 1 (over 1 (omega arith)) i) && on_to lanes window k 2 (over 2 (omega arith)) i) 1 0),
)

-- the tests of one axis, at box k
at_box : (from to : ℤ) (lo hi : List ℤ) → length lo ≡ 8 → length hi ≡ 8 → (k : ℕ) → k < 8
    → get_or (axis_tests from to lo hi) k false ≡ (int_le (get_or lo k (pos 0)) to && int_le from (get_or hi k (pos 0)))
at_box from to lo hi a b k small =
    let c : k < length lo = omega (arith, a) in
    let d : k < length hi = omega (arith, b) in
    get_or-zip2 (λ l h. int_le l to && int_le from h) lo hi k (pos 0) (pos 0) false c d

-- the lists of the boxes have eight numbers on each axis
pub record AreLong (lanes : Lanes8) : Type 0 where
  pub lo : (axis : ℕ) → axis < 3 → length (get_or lanes.lo axis []) ≡ 8
  pub hi : (axis : ℕ) → axis < 3 → length (get_or lanes.hi axis []) ≡ 8

-- the tests of one axis, of all boxes
abbrev pub tests_on : Lanes8 → Window → ℕ → List Bool
tests_on lanes window axis = axis_tests (on_axis window.lo axis) (on_axis window.hi axis) (get_or lanes.lo axis []) (get_or lanes.hi axis [])

-- a mask is that of one axis
abbrev pub IsMask : Lanes8 → Window → ℕ → List ℤ → Type 0
IsMask lanes window axis mask = mask ≡ mask_of (tests_on lanes window axis)

tests_long : (lanes : Lanes8) (window : Window) → AreLong lanes → (axis : ℕ) → axis < 3 → length (tests_on lanes window axis) ≡ 8
tests_long lanes window long axis small =
    length-zip2 (λ l h. int_le l (on_axis window.hi axis) && int_le (on_axis window.lo axis) h) (get_or lanes.lo axis []) (get_or lanes.hi axis [])
    (long.lo axis small ∙ sym (long.hi axis small))
    ∙ long.lo axis small

masks : (lanes : Lanes8) (window : Window) (x y z : List ℤ) → AreLong lanes → IsMask lanes window 0 x → IsMask lanes window 1 y → IsMask lanes window 2 z
    → AreMasks x y z (tests_on lanes window 0) (tests_on lanes window 1) (tests_on lanes window 2)
masks lanes window x y z long a b c = record {
  x_is = a;
  y_is = b;
  z_is = c;
  x_long = tests_long lanes window long 0 (omega arith);
  y_long = tests_long lanes window long 1 (omega arith);
  z_long = tests_long lanes window long 2 (omega arith);
}

pub all-fits : (lanes : Lanes8) (window : Window) (x y z : List ℤ) → AreLong lanes → IsMask lanes window 0 x → IsMask lanes window 1 y → IsMask lanes window 2 z → Fits w8 (number_of x y z)
all-fits lanes window x y z long a b c = number-fits x y z _ _ _ (masks lanes window x y z long a b c)

pub all-bits : (lanes : Lanes8) (window : Window) (x y z : List ℤ) → AreLong lanes → IsMask lanes window 0 x → IsMask lanes window 1 y → IsMask lanes window 2 z
    → (k : ℕ) → k < 8 → HasBit (number_of x y z) k ↔ Overlaps lanes window k
all-bits lanes window x y z long a b c k small =
    bit-overlaps lanes window k (number_of x y z)
    (number-bit x y z _ _ _ (masks lanes window x y z long a b c) k small
    ∙ (λ i. cond
    ((at_box (on_axis window.lo 0) (on_axis window.hi 0) (get_or lanes.lo 0 []) (get_or lanes.hi 0 []) (long.lo 0 (omega arith)) (long.hi 0 (omega arith)) k small i
    && at_box (on_axis window.lo 1) (on_axis window.hi 1) (get_or lanes.lo 1 []) (get_or lanes.hi 1 []) (long.lo 1 (omega arith)) (long.hi 1 (omega arith)) k small i)
    && at_box (on_axis window.lo 2) (on_axis window.hi 2) (get_or lanes.lo 2 []) (get_or lanes.hi 2 []) (long.lo 2 (omega arith)) (long.hi 2 (omega arith)) k small i) 1 0))
