-- Tests and orders: answers of a comparison, any total order, the order of ratios and of keys, lists whose keys rise; and what holds of
-- each element of a list.
use Rattle.std.proofs.Common.{◌≡◌, ◌∙◌, refl, ap, suc, Bool, true, false, List, [], ◌∷◌, Option, Some, None, arith}
use Rattle.std.specs.Prelude.{All}
use Rattle.std.specs.Cmp.{IsTotalOrder}
use Rattle.std.specs.Ordering.{is_lt, is_le, is_gt, ordering_reverse, ordering_then}
use Rattle.std.specs.declared.cmp.Ordering.{Ordering}
use Rattle.std.specs.declared.cmp.Ordering.TheVariants.{Less, Equal, Greater}
use Rattle.std.proofs.lemmas.Cmp.{nat_cmp_total, on_total, then_total, tied_itself, upto}
use Rattle.ray_geom.specs.declared.ratio.Ratio.{Ratio}
use Rattle.ray_geom.specs.FracLaws.{frac_cmp-total}
use Rattle.ray_geom.specs.Ratio.{ratio_cmp, ratio_of}
use Rattle.ray_geom.specs.RatioLaws.{ratio_cmp-total}
use Rattle.ray_query.specs.declared.key.Key.{Key}
use Rattle.ray_query.specs.declared.found.Found.{Found}
use Rattle.ray_query.specs.declared.commit.Commit.{Commit}
use Rattle.ray_query.specs.Key.{KeysRise, found_key, is_below, key_cmp, key_lt}
use Rattle.ray_query.specs.Limits.{Holds, distance_of, is_open, is_within}
use Rattle.ray_geom.specs.Frac.{frac_cmp}

-- a test has one answer
pub never : {A : Type 0} (b : Bool) → b ≡ true → b ≡ false → A
never true p q = absurd (cc)
never false p q = absurd (cc)

-- a test that can't be true is false, and one that can't be false is true
pub false-else : (b : Bool) → (b ≡ true → ⊥) → b ≡ false
false-else true h = absurd (h refl)
false-else false h = refl

pub true-else : (b : Bool) → (b ≡ false → ⊥) → b ≡ true
true-else true h = refl
true-else false h = absurd (h refl)

-- ---- answers of a comparison

le-turned : (r : Ordering) → is_lt r ≡ false → is_le (ordering_reverse r) ≡ true
le-turned Less p = absurd (cc)
le-turned Equal p = refl
le-turned Greater p = refl

not_lt-turned : (r : Ordering) → is_le r ≡ true → is_lt (ordering_reverse r) ≡ false
not_lt-turned Less p = refl
not_lt-turned Equal p = refl
not_lt-turned Greater p = absurd (cc)

lt-turned : (r : Ordering) → is_le r ≡ false → is_lt (ordering_reverse r) ≡ true
lt-turned Less p = absurd (cc)
lt-turned Equal p = absurd (cc)
lt-turned Greater p = refl

not_gt : (r : Ordering) → is_le r ≡ true → is_gt r ≡ false
not_gt Less p = refl
not_gt Equal p = refl
not_gt Greater p = absurd (cc)

le-not_gt : (r : Ordering) → is_gt r ≡ false → is_le r ≡ true
le-not_gt Less p = refl
le-not_gt Equal p = refl
le-not_gt Greater p = absurd (cc)

-- ---- any total order

module _ {K : Type 0} {R : K → K → Ordering} (o : IsTotalOrder R) where
  pub le-from_not_lt : (x y : K) → is_lt (R y x) ≡ false → is_le (R x y) ≡ true
  le-from_not_lt x y p = ap is_le (o.antisymm x y) ∙ le-turned (R y x) p

  pub not_lt-from_le : (x y : K) → is_le (R x y) ≡ true → is_lt (R y x) ≡ false
  not_lt-from_le x y p = ap is_lt (o.antisymm y x) ∙ not_lt-turned (R x y) p

  pub lt-from_not_le : (x y : K) → is_le (R x y) ≡ false → is_lt (R y x) ≡ true
  lt-from_not_le x y p = ap is_lt (o.antisymm y x) ∙ lt-turned (R x y) p

  pub le-chain : (x y z : K) → is_le (R x y) ≡ true → is_le (R y z) ≡ true → is_le (R x z) ≡ true
  le-chain x y z p q = le-not_gt (R x z) (upto o x y z (not_gt (R x y) p) (not_gt (R y z) q))

  pub lt-chain : (x y z : K) → is_lt (R x y) ≡ true → is_le (R y z) ≡ true → is_lt (R x z) ≡ true
  lt-chain x y z p q =
      true-else (is_lt (R x z))
      (λ not. never (is_lt (R x y)) p (not_lt-from_le y x (le-chain y z x q (le-from_not_lt z x not))))

-- ---- ratios and limits

pub ratio_le-chain : (a b c : Ratio) → is_le (ratio_cmp a b) ≡ true → is_le (ratio_cmp b c) ≡ true → is_le (ratio_cmp a c) ≡ true
ratio_le-chain = le-chain ratio_cmp-total

-- what is nearer than what is within a limit is within it
pub within-nearer : (limit : Option Ratio) (a b : Ratio) → is_le (ratio_cmp a b) ≡ true → is_within limit b ≡ true → is_within limit a ≡ true
within-nearer None a b p q = refl
within-nearer (Some c) a b p q = ratio_le-chain a b c p q

pub beyond-farther : (limit : Option Ratio) (a b : Ratio) → is_le (ratio_cmp a b) ≡ true → is_within limit a ≡ false → is_within limit b ≡ false
beyond-farther limit a b p q = false-else (is_within limit b) (λ in_. never (is_within limit a) (within-nearer limit a b p in_) q)

-- a box that isn't met within a limit holds nothing within it
pub shut-beyond : (limit entry : Option Ratio) (f : Found) → Holds entry f → is_open limit entry ≡ false → is_within limit (ratio_of f.t) ≡ false
shut-beyond limit None f h shut = absurd (cc)
shut-beyond limit (Some e) f h shut = beyond-farther limit e (ratio_of f.t) h shut

-- ---- keys

-- what is beyond the committed distance isn't below the committed key
then_le : (r s : Ordering) → is_le r ≡ false → is_lt (ordering_then r s) ≡ false
then_le Less s p = absurd (cc)
then_le Equal s p = absurd (cc)
then_le Greater s p = refl

pub beyond-passed : (c : Option Commit) (f : Found) → is_within (distance_of c) (ratio_of f.t) ≡ false → is_below (found_key f) c ≡ false
beyond-passed None f p = absurd (cc)
beyond-passed (Some c) f p = then_le (frac_cmp f.t c.t) _ p

-- keys are in a total order
pub key_cmp-total : IsTotalOrder key_cmp
key_cmp-total =
    then_total (on_total (λ (k : Key). k.t) frac_cmp-total)
    (then_total (on_total (λ (k : Key). k.instance) nat_cmp_total)
    (then_total (on_total (λ (k : Key). k.geometry) nat_cmp_total)
    (on_total (λ (k : Key). k.primitive) nat_cmp_total)))

-- no key is below itself
pub key_lt-itself : (k : Key) → key_lt k k ≡ false
key_lt-itself k = ap is_lt (tied_itself key_cmp-total k)

-- what is turned round is below the other way only
turned : (o : Ordering) → is_lt o ≡ true → is_lt (ordering_reverse o) ≡ false
turned Less p = refl
turned Equal p = refl
turned Greater p = absurd cc

-- of two keys at most one is below the other
pub key_lt-not_both : (k l : Key) → key_lt k l ≡ true → key_lt l k ≡ false
key_lt-not_both k l p = ap is_lt (key_cmp-total.antisymm l k) ∙ turned (key_cmp k l) p

-- R holds of each element of a list, by recursion
abbrev pub Each : {X : Type 0} → (X → Type 0) → List X → Type 0
Each P [] = Unit {0}
Each P (x ∷ xs) = P x × Each P xs

-- what holds of all elements holds of each
pub Each-from_All : {X : Type 0} (P : X → Type 0) (xs : List X) → All P xs → Each P xs
Each-from_All P [] h = tt
Each-from_All P (x ∷ xs) h = (h 0 x (omega arith), Each-from_All P xs (λ k d below. h (suc k) d (omega (arith, below))))

-- the keys after the first are above it, and they rise
pub KeysRise-first : (f : Found) (fs : List Found) → KeysRise (f ∷ fs) → Each (λ g. key_lt (found_key f) (found_key g) ≡ true) fs
KeysRise-first f fs rise =
    Each-from_All (λ g. key_lt (found_key f) (found_key g) ≡ true) fs
    (λ k d below. rise 0 (suc k) d (omega arith) (omega (arith, below)))

pub KeysRise-rest : (f : Found) (fs : List Found) → KeysRise (f ∷ fs) → KeysRise fs
KeysRise-rest f fs rise i j d before below = rise (suc i) (suc j) d (omega (arith, before)) (omega (arith, below))
