-- Limits, keys and turns in order.
use Rattle.std.proofs.Common.{◌≡◌, ◌∙◌, refl, sym, ap, true, false, Option, Some, None}
use Rattle.std.specs.Ordering.{is_lt, is_le, ordering_then}
use Rattle.std.specs.declared.cmp.Ordering.{Ordering}
use Rattle.std.specs.declared.cmp.Ordering.TheVariants.{Less, Equal, Greater}
use Rattle.ray_geom.specs.declared.ratio.Ratio.{Ratio}
use Rattle.ray_geom.specs.Frac.{frac_cmp}
use Rattle.ray_geom.specs.Ratio.{ratio_cmp, ratio_of}
use Rattle.ray_geom.specs.RatioLaws.{ratio_cmp-total}
use Rattle.ray_query.specs.declared.found.Found.{Found}
use Rattle.ray_query.specs.Key.{found_key, key_lt}
use Rattle.ray_nearest.specs.declared.turn.Turn.{Turn}
use Rattle.ray_nearest.specs.declared.turn.Turn.TheVariants.{Node, Candidate}
use Rattle.ray_nearest.specs.Adding.{HasValue}
use Rattle.ray_query.specs.Limits.{is_within}
use Rattle.ray_query.proofs.Orders.{le-from_not_lt}
use Rattle.ray_nearest.specs.TurnLaws.{turn_cmp}
use Rattle.ray_nearest.specs.Turns.{is_before, turn_at}

-- ---- ratios and limits

-- ratios of one value are within the same limits
pub within-value : (limit : Option Ratio) (e a : Ratio) → HasValue (Some a) e → is_within limit e ≡ is_within limit a
within-value None e a p = refl
within-value (Some c) e a p = ap is_le (ratio_cmp-total.congr e a c p)

-- ---- keys

then_lt : (r s : Ordering) → is_lt r ≡ true → is_lt (ordering_then r s) ≡ true
then_lt Less s p = refl
then_lt Equal s p = absurd (cc)
then_lt Greater s p = absurd (cc)

-- what is nearer has the lower key
pub key-nearer : (f g : Found) → is_lt (ratio_cmp (ratio_of f.t) (ratio_of g.t)) ≡ true → key_lt (found_key f) (found_key g) ≡ true
key-nearer f g p = then_lt (frac_cmp f.t g.t) _ p

-- ---- turns

then_equal : (r : Ordering) → is_lt r ≡ is_lt (ordering_then r Equal)
then_equal Less = refl
then_equal Equal = refl
then_equal Greater = refl

then_less : (r : Ordering) → is_le r ≡ is_lt (ordering_then r Less)
then_less Less = refl
then_less Equal = refl
then_less Greater = refl

then_greater : (r : Ordering) → is_lt r ≡ is_lt (ordering_then r Greater)
then_greater Less = refl
then_greater Equal = refl
then_greater Greater = refl

then_not_lt : (r s : Ordering) → is_lt (ordering_then r s) ≡ false → is_lt r ≡ false
then_not_lt Less s p = p
then_not_lt Equal s p = refl
then_not_lt Greater s p = refl

-- what comes first is what is below in the order of the heap
pub before-lt : (x y : Turn) → is_before x y ≡ is_lt (turn_cmp x y)
before-lt (Node e n) (Node d m) = then_equal (ratio_cmp e d)
before-lt (Node e n) (Candidate g) = then_less (ratio_cmp e (ratio_of g.t))
before-lt (Candidate f) (Node d m) = then_greater (ratio_cmp (ratio_of f.t) d)
before-lt (Candidate f) (Candidate g) = refl

-- a turn that isn't before another is no nearer
pub turn-farther : (x y : Turn) → is_before y x ≡ false → is_le (ratio_cmp (turn_at x) (turn_at y)) ≡ true
turn-farther x y p =
    le-from_not_lt ratio_cmp-total (turn_at x) (turn_at y) (then_not_lt (ratio_cmp (turn_at y) (turn_at x)) _ (sym (before-lt y x) ∙ p))
