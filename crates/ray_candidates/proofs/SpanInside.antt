-- The distance at which a box is entered, as the fraction that is told, is inside the box, and isn't after the one at which it is left.
use Rattle.std.proofs.Common.{ℕ, zero, suc, ◌≡◌, ◌+◌, ◌*◌, ◌^◌, ◌≤◌, ◌<◌, Bool, true, false, cond, nat_le, Option, Some, None, option_map, refl, subst, arith}
use Rattle.std.specs.Prelude.{ℤ, pos, negsuc, unsigned_abs, IfSome}
use Rattle.std.specs.Ordering.{is_le}
use Rattle.std.proofs.lemmas.Int.{ints}
use Rattle.ray_geom.specs.declared.ratio.Ratio.{Ratio}
use Rattle.ray_geom.specs.Vector.{IsWithin}
use Rattle.ray_geom.specs.Fraction.{IsFraction, IsSameValue, IsAtMost}
use Rattle.ray_geom.specs.Frac.{numerator, denominator, frac_cmp}
use Rattle.ray_geom.specs.Ratio.{parts_of, later_of, earlier_of}
use Rattle.ray_geom.specs.Boxes.{BoxValue, IsBox}
use Rattle.ray_geom.specs.ObjectRay.{ObjectRayValue, IsObjectRay}
use Rattle.ray_geom.specs.Decided.{where_so}
use Rattle.ray_geom.specs.HitValue.{lowest_terms}
use Rattle.ray_prune.specs.declared.reach.Reach.{Reach}
use Rattle.ray_prune.specs.Decided.{inside_decided}
use Rattle.ray_prune.specs.BoxSpan.{near_end, far_end, IsInside, IsReach}
use Rattle.ray_prune.specs.BoxReach.{SpanValue, natural_part, way_in, way_out, enters_at, leaves_at, entry_on, exit_on, entry_of, exit_of, reach_value, reach_of, span_in_lowest_terms, span_of}
use Rattle.ray_prune.specs.Slabs.{IsAxis}
use Rattle.ray_prune.proofs.Slabs.{EndsFit, ends_fit}
use Rattle.ray_prune.proofs.Entries.{reach_of-some}
use Rattle.ray_prune.proofs.Spans.{at_most_left, at_most_right}
use Rattle.ray_geom.specs.Reduced.{fraction_of}
use Rattle.ray_candidates.proofs.Reduced.{same_lowest}
use Rattle.ray_candidates.proofs.Opened.{le_tells}

-- ---- how large the numbers are

abbrev Fits : Ratio → Type 0
Fits r = IsFraction r.num r.den

fits_cond : (t : Bool) (a b : Ratio) → Fits a → Fits b → Fits (cond t a b)
fits_cond true a b p q = p
fits_cond false a b p q = q

fits_later : (a b : Ratio) → Fits a → Fits b → Fits (later_of a b)
fits_later a b p q = fits_cond (nat_le (a.num * b.den) (b.num * a.den)) b a q p

fits_earlier : (a b : Ratio) → Fits a → Fits b → Fits (earlier_of a b)
fits_earlier a b p q = fits_cond (nat_le (a.num * b.den) (b.num * a.den)) a b p q

fits_parts : (parts : ℕ) → parts ≤ 2 ^ 40 → Fits (parts_of parts)
fits_parts parts h = record { den_positive = omega arith; den_limit = omega arith; num_limit = omega arith }

part_limit : (way : ℤ) → IsWithin (2 ^ 59) way → natural_part way ≤ 3 * 2 ^ 61
part_limit (pos n) h = omega (arith, ints)
part_limit (negsuc n) h = omega arith

fits_enters : (way : ℤ) (size : ℕ) → IsWithin (2 ^ 59) way → size ≤ 3 * 2 ^ 45 → Fits (enters_at way size)
fits_enters way zero h small = record { den_positive = omega arith; den_limit = omega arith; num_limit = omega arith }
fits_enters way (suc k) h small = record { den_positive = omega arith; den_limit = omega arith; num_limit = part_limit way h }

fits_leaves : (most : Ratio) (way : ℤ) (size : ℕ) → Fits most → IsWithin (2 ^ 59) way → size ≤ 3 * 2 ^ 45 → Fits (leaves_at most way size)
fits_leaves most way zero p h small = p
fits_leaves most way (suc k) p h small = record { den_positive = omega arith; den_limit = omega arith; num_limit = part_limit way h }

way_in_within : (near far o m : ℤ) → IsWithin (6 * 2 ^ 55) near → IsWithin (6 * 2 ^ 55) far → IsWithin (3 * 2 ^ 25 * (2 ^ 19 + 2 ^ 20)) o
    → IsWithin (2 ^ 59) (way_in near far o m)
way_in_within near far o (pos m) p q r = omega (arith, ints)
way_in_within near far o (negsuc m) p q r = omega (arith, ints)

way_out_within : (near far o m : ℤ) → IsWithin (6 * 2 ^ 55) near → IsWithin (6 * 2 ^ 55) far → IsWithin (3 * 2 ^ 25 * (2 ^ 19 + 2 ^ 20)) o
    → IsWithin (2 ^ 59) (way_out near far o m)
way_out_within near far o (pos m) p q r = omega (arith, ints)
way_out_within near far o (negsuc m) p q r = omega (arith, ints)

size_of : (m : ℕ) (z : ℤ) → IsWithin m z → unsigned_abs z ≤ m
size_of m z h = omega (arith, ints)

near_within : (det lo hi : ℤ) → EndsFit det lo hi → IsWithin (6 * 2 ^ 55) (near_end det lo hi)
near_within (pos k) lo hi h = h.lo_within
near_within (negsuc k) lo hi h = h.hi_within

far_within : (det lo hi : ℤ) → EndsFit det lo hi → IsWithin (6 * 2 ^ 55) (far_end det lo hi)
far_within (pos k) lo hi h = h.hi_within
far_within (negsuc k) lo hi h = h.lo_within

fits_entry_on : (det lo hi o m : ℤ) → IsAxis det lo hi o m → Fits (entry_on det lo hi o m)
fits_entry_on det lo hi o m h =
    let ends : EndsFit det lo hi = ends_fit det lo hi h.det_short h.lo_short h.hi_short in
    fits_enters (way_in (near_end det lo hi) (far_end det lo hi) o m) (unsigned_abs m)
    (way_in_within (near_end det lo hi) (far_end det lo hi) o m (near_within det lo hi ends) (far_within det lo hi ends) h.o_short)
    (size_of (3 * 2 ^ 45) m h.m_short)

fits_exit_on : (most : Ratio) (det lo hi o m : ℤ) → Fits most → IsAxis det lo hi o m → Fits (exit_on most det lo hi o m)
fits_exit_on most det lo hi o m p h =
    let ends : EndsFit det lo hi = ends_fit det lo hi h.det_short h.lo_short h.hi_short in
    fits_leaves most (way_out (near_end det lo hi) (far_end det lo hi) o m) (unsigned_abs m) p
    (way_out_within (near_end det lo hi) (far_end det lo hi) o m (near_within det lo hi ends) (far_within det lo hi ends) h.o_short)
    (size_of (3 * 2 ^ 45) m h.m_short)

record AreAxes (object : ObjectRayValue) (box : BoxValue) : Type 0 where
  pub x : IsAxis object.det box.lo.x box.hi.x object.origin.x object.dir.x
  pub y : IsAxis object.det box.lo.y box.hi.y object.origin.y object.dir.y
  pub z : IsAxis object.det box.lo.z box.hi.z object.origin.z object.dir.z

are_axes : (object : ObjectRayValue) (box : BoxValue) → IsObjectRay object → IsBox box → AreAxes object box
are_axes object box r b = record {
  x = record {
    det_short = r.det_short;
    lo_short = b.lo_short.x_within;
    hi_short = b.hi_short.x_within;
    o_short = r.origin_short.x_within;
    m_short = r.dir_short.x_within;
  };
  y = record {
    det_short = r.det_short;
    lo_short = b.lo_short.y_within;
    hi_short = b.hi_short.y_within;
    o_short = r.origin_short.y_within;
    m_short = r.dir_short.y_within;
  };
  z = record {
    det_short = r.det_short;
    lo_short = b.lo_short.z_within;
    hi_short = b.hi_short.z_within;
    o_short = r.origin_short.z_within;
    m_short = r.dir_short.z_within;
  };
}

four_later : (t x y z : Ratio) → Fits t → Fits x → Fits y → Fits z → Fits (later_of (later_of (later_of t x) y) z)
four_later t x y z p q r s =
    fits_later (later_of (later_of t x) y) z (fits_later (later_of t x) y (fits_later t x p q) r) s

four_earlier : (t x y z : Ratio) → Fits t → Fits x → Fits y → Fits z → Fits (earlier_of (earlier_of (earlier_of t x) y) z)
four_earlier t x y z p q r s =
    fits_earlier (earlier_of (earlier_of t x) y) z (fits_earlier (earlier_of t x) y (fits_earlier t x p q) r) s

tmin_limit : (tmin tmax : ℕ) → tmin ≤ tmax → tmax ≤ 2 ^ 40 → tmin ≤ 2 ^ 40
tmin_limit tmin tmax p q = omega arith

fits_entry_of : (object : ObjectRayValue) (box : BoxValue) → IsObjectRay object → IsBox box → Fits (entry_of object box)
fits_entry_of object box r b =
    let axes : AreAxes object box = are_axes object box r b in
    four_later (parts_of object.tmin)
    (entry_on object.det box.lo.x box.hi.x object.origin.x object.dir.x)
    (entry_on object.det box.lo.y box.hi.y object.origin.y object.dir.y)
    (entry_on object.det box.lo.z box.hi.z object.origin.z object.dir.z)
    (fits_parts object.tmin (tmin_limit object.tmin object.tmax r.ordered r.tmax_limit))
    (fits_entry_on object.det box.lo.x box.hi.x object.origin.x object.dir.x axes.x)
    (fits_entry_on object.det box.lo.y box.hi.y object.origin.y object.dir.y axes.y)
    (fits_entry_on object.det box.lo.z box.hi.z object.origin.z object.dir.z axes.z)

fits_exit_of : (object : ObjectRayValue) (box : BoxValue) → IsObjectRay object → IsBox box → Fits (exit_of object box)
fits_exit_of object box r b =
    let axes : AreAxes object box = are_axes object box r b in
    let most = parts_of object.tmax in
    let all : Fits most = fits_parts object.tmax r.tmax_limit in
    four_earlier most
    (exit_on most object.det box.lo.x box.hi.x object.origin.x object.dir.x)
    (exit_on most object.det box.lo.y box.hi.y object.origin.y object.dir.y)
    (exit_on most object.det box.lo.z box.hi.z object.origin.z object.dir.z)
    all
    (fits_exit_on most object.det box.lo.x box.hi.x object.origin.x object.dir.x all axes.x)
    (fits_exit_on most object.det box.lo.y box.hi.y object.origin.y object.dir.y all axes.y)
    (fits_exit_on most object.det box.lo.z box.hi.z object.origin.z object.dir.z all axes.z)

-- ---- the distances

-- the reach of a span
pub record IsSpanned (object : ObjectRayValue) (box : BoxValue) (span : SpanValue) : Type 0 where
  pub reach : Reach
  pub is_reach : IsReach object box reach
  pub entry_fits : IsFraction reach.entry.num reach.entry.den
  pub exit_fits : IsFraction reach.exit.num reach.exit.den
  pub is_it : span_in_lowest_terms reach ≡ span

is_value : {P : Type 0} (d : Dec P) (x y : Reach) → where_so d x ≡ Some y → x ≡ y
is_value (yes h) x y same = cc
is_value (no n) x y same = absurd (cc)

spanned_by : (object : ObjectRayValue) (box : BoxValue) (span : SpanValue) → IsObjectRay object → IsBox box
    → (o : Option Reach) → reach_of object box ≡ o → IfSome o (IsReach object box) → option_map span_in_lowest_terms o ≡ Some span → IsSpanned object box span
spanned_by object box span r b None is some same = absurd (cc)
spanned_by object box span r b (Some reach) is some same =
    let value : reach_value (entry_of object box) (exit_of object box) ≡ reach =
    is_value (inside_decided object box (entry_of object box).num (entry_of object box).den)
    (reach_value (entry_of object box) (exit_of object box)) reach is in
    record {
      reach = reach;
      is_reach = some;
      entry_fits = subst (λ (x : Reach). Fits x.entry) value (fits_entry_of object box r b);
      exit_fits = subst (λ (x : Reach). Fits x.exit) value (fits_exit_of object box r b);
      is_it = cc;
    }

pub spanned : (object : ObjectRayValue) (box : BoxValue) (span : SpanValue) → IsObjectRay object → IsBox box → span_of object box ≡ Some span
    → IsSpanned object box span
spanned object box span r b same = spanned_by object box span r b (reach_of object box) refl (reach_of-some object box) same

-- a reach at fractions of the values of its ends
pub record IsMet (object : ObjectRayValue) (box : BoxValue) (n d m e : ℕ) : Type 0 where
  pub inside : IsInside object box n d
  pub in_order : IsAtMost n d m e

met_at : (object : ObjectRayValue) (box : BoxValue) (reach : Reach) → IsReach object box reach → (n d m e : ℕ) → 0 < d → 0 < e
    → IsSameValue n d reach.entry.num reach.entry.den → IsSameValue m e reach.exit.num reach.exit.den → IsMet object box n d m e
met_at object box reach h n d m e d_positive e_positive p q =
    let first = reach.entry in
    let last = reach.exit in
    let ordered : IsAtMost first.num first.den last.num last.den = h.least last.num last.den last.positive h.exit in
    let left : IsAtMost n d last.num last.den = (at_most_left n d first.num first.den last.num last.den d_positive first.positive p).1 ordered in
    let itself : IsAtMost first.num first.den first.num first.den = omega arith in
    let above : IsAtMost first.num first.den n d = (at_most_right n d first.num first.den first.num first.den d_positive first.positive p).1 itself in
    record {
      inside = h.between n d d_positive above left;
      in_order = (at_most_right m e last.num last.den n d e_positive last.positive q).1 left;
    }

met_by : (object : ObjectRayValue) (box : BoxValue) (span : SpanValue) → IsSpanned object box span
    → IsMet object box (numerator (fraction_of span.entry)) (denominator (fraction_of span.entry)) (numerator (fraction_of span.exit)) (denominator (fraction_of span.exit))
met_by object box span h =
    let entry = lowest_terms h.reach.entry.num h.reach.entry.den in
    let exit = lowest_terms h.reach.exit.num h.reach.exit.den in
    subst (λ (s : SpanValue). IsMet object box (numerator (fraction_of s.entry)) (denominator (fraction_of s.entry)) (numerator (fraction_of s.exit)) (denominator (fraction_of s.exit)))
    h.is_it
    (met_at object box h.reach h.is_reach (numerator (fraction_of entry)) (denominator (fraction_of entry)) (numerator (fraction_of exit)) (denominator (fraction_of exit))
    (fraction_of entry).limits.den_positive (fraction_of exit).limits.den_positive
    (same_lowest h.reach.entry.num h.reach.entry.den h.entry_fits)
    (same_lowest h.reach.exit.num h.reach.exit.den h.exit_fits))

pub span_inside : (object : ObjectRayValue) (box : BoxValue) (span : SpanValue) → IsObjectRay object → IsBox box → span_of object box ≡ Some span
    → IsInside object box (numerator (fraction_of span.entry)) (denominator (fraction_of span.entry))
span_inside object box span r b same = (met_by object box span (spanned object box span r b same)).inside

pub span_in_order : (object : ObjectRayValue) (box : BoxValue) (span : SpanValue) → IsObjectRay object → IsBox box → span_of object box ≡ Some span
    → is_le (frac_cmp (fraction_of span.entry) (fraction_of span.exit)) ≡ true
span_in_order object box span r b same =
    le_tells _ _ (met_by object box span (spanned object box span r b same)).in_order
