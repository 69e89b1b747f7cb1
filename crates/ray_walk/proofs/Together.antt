-- A window and the least box of a triangle, told on three axes at once by lanes of vectors.
use Rattle.std.proofs.Common.{◌≡◌, ◌∙◌, ◌↔◌, ◌%◌, ℕ, ℤ, pos, ◌≤ℤ◌, Bool, true, false, cond, not, ◌&&◌, ◌||◌, List, [], ◌∷◌, map, refl, sym, ap, subst, arith, IsTrue, of_z, FitsSigned, to_z-of_z, w32}
use Rattle.std.specs.Prelude.{int_lt}
use Rattle.std.specs.Int.{int_min, int_max}
use Rattle.std.proofs.lemmas.Int.{ints, clamps}
use lib.Dec.{eqb}
use lib.Lanes.{zip2, mask_l, top}
use mir.Syntax.{bit_and, bit_or, mask, lt, signed}
use borrow.Table.Row.{s_int}
use borrow.Rule.Simd.Lanes.{act2}
use Rattle.ray_geom.specs.declared.vec3.Vec3.{Vec3}
use Rattle.ray_geom.specs.LeastBoxes.{box_of_tri}
use Rattle.ray_geom.specs.Scene.{tri_value}
use Rattle.ray_lanes.specs.declared.lanes.Window.{Window}
use Rattle.ray_lanes.specs.Masks.{AreInt32}
use Rattle.ray_lanes.specs.Overlap.{on_axis}
use Rattle.ray_window.specs.Meets.{Meets, MeetsOn}

-- a compare of two lanes, and what joins two, on their bits
abbrev pub lt32 : ℕ → ℕ → ℕ
lt32 a b = act2 (mask (lt signed)) (s_int w32) (s_int w32) (s_int w32) a b

abbrev pub and32 : ℕ → ℕ → ℕ
and32 a b = act2 bit_and (s_int w32) (s_int w32) (s_int w32) a b

abbrev pub or32 : ℕ → ℕ → ℕ
or32 a b = act2 bit_or (s_int w32) (s_int w32) (s_int w32) a b

-- a lane whose bits are all set, or none
abbrev pub bits_of : Bool → ℕ
bits_of test = cond test 4294967295 0

compared : (a b : ℤ) → FitsSigned w32 a → FitsSigned w32 b → lt32 (of_z w32 a) (of_z w32 b) ≡ bits_of (int_lt a b)
compared a b f g = λ i. bits_of (int_lt (to_z-of_z f i) (to_z-of_z g i))

both : (p q : Bool) → and32 (bits_of p) (bits_of q) ≡ bits_of (p && q)
both true true = refl
both true false = refl
both false true = refl
both false false = refl

either : (p q : Bool) → or32 (bits_of p) (bits_of q) ≡ bits_of (p || q)
either true true = refl
either true false = refl
either false true = refl
either false false = refl

topped : (p : Bool) → top 31 (bits_of p) ≡ p
topped true = refl
topped false = refl

-- on one axis, whether three numbers are all below one, or all above another
abbrev pub all_below : ℤ → ℤ → ℤ → ℤ → Bool
all_below l a b c = (int_lt a l && int_lt b l) && int_lt c l

abbrev pub all_above : ℤ → ℤ → ℤ → ℤ → Bool
all_above h a b c = (int_lt h a && int_lt h b) && int_lt h c

abbrev pub misses : ℤ → ℤ → ℤ → ℤ → ℤ → Bool
misses l h a b c = all_below l a b c || all_above h a b c

-- the lane of one axis
abbrev pub lane : ℤ → ℤ → ℤ → ℤ → ℤ → ℕ
lane l h a b c =
    or32 (and32 (and32 (lt32 (of_z w32 a) (of_z w32 l)) (lt32 (of_z w32 b) (of_z w32 l))) (lt32 (of_z w32 c) (of_z w32 l)))
    (and32 (and32 (lt32 (of_z w32 h) (of_z w32 a)) (lt32 (of_z w32 h) (of_z w32 b))) (lt32 (of_z w32 h) (of_z w32 c)))

-- five numbers fit
record Fit5 (l h a b c : ℤ) : Type 0 where
  l_fits : FitsSigned w32 l
  h_fits : FitsSigned w32 h
  a_fits : FitsSigned w32 a
  b_fits : FitsSigned w32 b
  c_fits : FitsSigned w32 c

three : (p q r : Bool) → and32 (and32 (bits_of p) (bits_of q)) (bits_of r) ≡ bits_of ((p && q) && r)
three p q r = ap (λ n. and32 n (bits_of r)) (both p q) ∙ both (p && q) r

lane-is : (l h a b c : ℤ) → Fit5 l h a b c → top 31 (lane l h a b c) ≡ misses l h a b c
lane-is l h a b c f =
    (λ i. top 31 (or32 (and32 (and32 (compared a l f.a_fits f.l_fits i) (compared b l f.b_fits f.l_fits i)) (compared c l f.c_fits f.l_fits i))
    (and32 (and32 (compared h a f.h_fits f.a_fits i) (compared h b f.h_fits f.b_fits i)) (compared h c f.h_fits f.c_fits i))))
    ∙ (λ i. top 31 (or32 (three (int_lt a l) (int_lt b l) (int_lt c l) i) (three (int_lt h a) (int_lt h b) (int_lt h c) i)))
    ∙ ap (λ n. top 31 n) (either (all_below l a b c) (all_above h a b c))
    ∙ topped (misses l h a b c)

-- the number that the lanes give, of which the last is that of zeros
abbrev pub number_of : List ℤ → List ℤ → List ℤ → List ℤ → List ℤ → ℕ
number_of lo hi a b c =
    let of = map (of_z w32) in
    mask_l (map (top 31)
    (zip2 or32 (zip2 and32 (zip2 and32 (zip2 lt32 (of a) (of lo)) (zip2 lt32 (of b) (of lo))) (zip2 lt32 (of c) (of lo)))
    (zip2 and32 (zip2 and32 (zip2 lt32 (of hi) (of a)) (zip2 lt32 (of hi) (of b))) (zip2 lt32 (of hi) (of c))))) % 18446744073709551616

none_set : (x y z : Bool) → eqb (mask_l (x ∷ y ∷ z ∷ false ∷ []) % 18446744073709551616) 0 ≡ not ((x || y) || z)
none_set true true true = refl
none_set true true false = refl
none_set true false true = refl
none_set true false false = refl
none_set false true true = refl
none_set false true false = refl
none_set false false true = refl
none_set false false false = refl

-- ---- what the tests say

not_less : (h a : ℤ) → int_lt h a ≡ false → a ≤ℤ h
not_less h a e = grind (arith, ints)

less : (h a : ℤ) → int_lt h a ≡ true → a ≤ℤ h → ⊥
less h a e m = grind (arith, ints)

-- the least of three is at most h exactly where they aren't all above it
least : (h a b c : ℤ) (p q r : Bool) → int_lt h a ≡ p → int_lt h b ≡ q → int_lt h c ≡ r → ((p && q) && r) ≡ false → int_min (int_min a b) c ≤ℤ h
least h a b c false q r e f g n = omega (arith, ints, clamps, not_less h a e)
least h a b c true false r e f g n = omega (arith, ints, clamps, not_less h b f)
least h a b c true true false e f g n = omega (arith, ints, clamps, not_less h c g)
least h a b c true true true e f g n = absurd cc

no_least : (h a b c : ℤ) (p q r : Bool) → int_lt h a ≡ p → int_lt h b ≡ q → int_lt h c ≡ r → int_min (int_min a b) c ≤ℤ h → ((p && q) && r) ≡ false
no_least h a b c false q r e f g m = refl
no_least h a b c true false r e f g m = refl
no_least h a b c true true false e f g m = refl
no_least h a b c true true true e f g m = absurd (omega (arith, ints, clamps, m, less h a e, less h b f, less h c g))

greatest : (l a b c : ℤ) (p q r : Bool) → int_lt a l ≡ p → int_lt b l ≡ q → int_lt c l ≡ r → ((p && q) && r) ≡ false → l ≤ℤ int_max (int_max a b) c
greatest l a b c false q r e f g n = omega (arith, ints, clamps, not_less a l e)
greatest l a b c true false r e f g n = omega (arith, ints, clamps, not_less b l f)
greatest l a b c true true false e f g n = omega (arith, ints, clamps, not_less c l g)
greatest l a b c true true true e f g n = absurd cc

no_greatest : (l a b c : ℤ) (p q r : Bool) → int_lt a l ≡ p → int_lt b l ≡ q → int_lt c l ≡ r → l ≤ℤ int_max (int_max a b) c → ((p && q) && r) ≡ false
no_greatest l a b c false q r e f g m = refl
no_greatest l a b c true false r e f g m = refl
no_greatest l a b c true true false e f g m = refl
no_greatest l a b c true true true e f g m = absurd (omega (arith, ints, clamps, m, less a l e, less b l f, less c l g))

neither : (p q : Bool) → (p || q) ≡ false → (p ≡ false) × (q ≡ false)
neither true q h = absurd cc
neither false q h = (refl, h)

or_false : (p q : Bool) → p ≡ false → q ≡ false → (p || q) ≡ false
or_false true q e f = absurd cc
or_false false q e f = f

on : (window : Window) (axis : ℕ) (a b c : ℤ) → misses (on_axis window.lo axis) (on_axis window.hi axis) a b c ≡ false
    → MeetsOn window axis (int_min (int_min a b) c) (int_max (int_max a b) c)
on window axis a b c n =
    let l = on_axis window.lo axis in
    let h = on_axis window.hi axis in
    let parts = neither (all_below l a b c) (all_above h a b c) n in
    record { begins = least h a b c (int_lt h a) (int_lt h b) (int_lt h c) refl refl refl parts.1; ends = greatest l a b c (int_lt a l) (int_lt b l) (int_lt c l) refl refl refl parts.0 }

off : (window : Window) (axis : ℕ) (a b c : ℤ) → MeetsOn window axis (int_min (int_min a b) c) (int_max (int_max a b) c)
    → misses (on_axis window.lo axis) (on_axis window.hi axis) a b c ≡ false
off window axis a b c m =
    let l = on_axis window.lo axis in
    let h = on_axis window.hi axis in
    or_false (all_below l a b c) (all_above h a b c)
    (no_greatest l a b c (int_lt a l) (int_lt b l) (int_lt c l) refl refl refl m.ends)
    (no_least h a b c (int_lt h a) (int_lt h b) (int_lt h c) refl refl refl m.begins)

told : (x y z : Bool) → IsTrue (not (not (not ((x || y) || z)))) → ((x ≡ false) × (y ≡ false)) × (z ≡ false)
told true y z h = absurd cc
told false true z h = absurd cc
told false false true h = absurd cc
told false false false h = ((refl, refl), refl)

tell : (x y z : Bool) → x ≡ false → y ≡ false → z ≡ false → IsTrue (not (not (not ((x || y) || z))))
tell true y z e f g = absurd cc
tell false true z e f g = absurd cc
tell false false true e f g = absurd cc
tell false false false e f g = refl

-- ---- vectors

-- three coordinates and a zero
abbrev pub four_of : List ℤ → List ℤ
four_of numbers = on_axis numbers 0 ∷ on_axis numbers 1 ∷ on_axis numbers 2 ∷ pos 0 ∷ []

abbrev pub coordinates_of : Vec3 → List ℤ
coordinates_of v = v.x ∷ v.y ∷ v.z ∷ []

-- the vectors of a window and of three points, whose numbers fit
pub record AreTold (window : Window) (a b c : Vec3) (lo hi p q r : List ℤ) : Type 0 where
  pub lo_is : lo ≡ four_of window.lo
  pub hi_is : hi ≡ four_of window.hi
  pub a_is : p ≡ four_of (coordinates_of a)
  pub b_is : q ≡ four_of (coordinates_of b)
  pub c_is : r ≡ four_of (coordinates_of c)
  pub lo_fit : AreInt32 lo
  pub hi_fit : AreInt32 hi
  pub a_fit : AreInt32 p
  pub b_fit : AreInt32 q
  pub c_fit : AreInt32 r

fit_as : (xs ys : List ℤ) → xs ≡ ys → AreInt32 xs → AreInt32 ys
fit_as xs ys e f = subst (λ p. p) (λ i. AreInt32 (e i)) f

module _ (window : Window) (a b c : Vec3) where
  abbrev missed_x : Bool
  missed_x = misses (on_axis window.lo 0) (on_axis window.hi 0) a.x b.x c.x

  abbrev missed_y : Bool
  missed_y = misses (on_axis window.lo 1) (on_axis window.hi 1) a.y b.y c.y

  abbrev missed_z : Bool
  missed_z = misses (on_axis window.lo 2) (on_axis window.hi 2) a.z b.z c.z

  none-is : (lo hi p q r : List ℤ) → AreTold window a b c lo hi p q r → eqb (number_of lo hi p q r) 0 ≡ not ((missed_x || missed_y) || missed_z)
  none-is lo hi p q r t =
      let l = fit_as lo (four_of window.lo) t.lo_is t.lo_fit in
      let h = fit_as hi (four_of window.hi) t.hi_is t.hi_fit in
      let f = fit_as p (four_of (coordinates_of a)) t.a_is t.a_fit in
      let g = fit_as q (four_of (coordinates_of b)) t.b_is t.b_fit in
      let k = fit_as r (four_of (coordinates_of c)) t.c_is t.c_fit in
      let x = lane-is (on_axis window.lo 0) (on_axis window.hi 0) a.x b.x c.x (record { l_fits = l.0; h_fits = h.0; a_fits = f.0; b_fits = g.0; c_fits = k.0 }) in
      let y = lane-is (on_axis window.lo 1) (on_axis window.hi 1) a.y b.y c.y (record { l_fits = l.1.0; h_fits = h.1.0; a_fits = f.1.0; b_fits = g.1.0; c_fits = k.1.0 }) in
      let z = lane-is (on_axis window.lo 2) (on_axis window.hi 2) a.z b.z c.z (record { l_fits = l.1.1.0; h_fits = h.1.1.0; a_fits = f.1.1.0; b_fits = g.1.1.0; c_fits = k.1.1.0 }) in
      (λ i. eqb (number_of (t.lo_is i) (t.hi_is i) (t.a_is i) (t.b_is i) (t.c_is i)) 0)
      ∙ (λ i. eqb (mask_l (x i ∷ y i ∷ z i ∷ false ∷ []) % 18446744073709551616) 0)
      ∙ none_set missed_x missed_y missed_z

  pub meets_told : (lo hi p q r : List ℤ) → AreTold window a b c lo hi p q r
      → IsTrue (not (not (eqb (number_of lo hi p q r) 0))) ↔ Meets window (box_of_tri (tri_value a b c))
  meets_told lo hi p q r t =
      let none = none-is lo hi p q r t in (
        λ yes.
            let n = told missed_x missed_y missed_z (subst (λ p. p) (λ i. IsTrue (not (not (none i)))) yes) in
            record { x = on window 0 a.x b.x c.x n.0.0; y = on window 1 a.y b.y c.y n.0.1; z = on window 2 a.z b.z c.z n.1 },
        λ met.
            subst (λ p. p) (λ i. IsTrue (not (not (sym none i))))
            (tell missed_x missed_y missed_z (off window 0 a.x b.x c.x met.x) (off window 1 a.y b.y c.y met.y) (off window 2 a.z b.z c.z met.z)),
      )
