-- The reach and the span of a ray and a box as values: one function each, as `hit_of` is for triangles.
use Rattle.std.specs.Prelude.{ℕ, zero, suc, ℤ, pos, negsuc, ◌-ℤ◌, unsigned_abs, Option, Some, None, option_map, ◌≡◌}
use Rattle.std.specs.declared.cmp.Ordering.TheVariants.{Equal}
use Rattle.ray_geom.specs.declared.ratio.Ratio.{Ratio}
use Rattle.ray_prune.specs.declared.reach.Reach.{Reach}
use Rattle.ray_prune.specs.declared.span.Span.{Span}
use Rattle.ray_geom.specs.Frac.{numerator, denominator}
use Rattle.ray_geom.specs.Ratio.{ratio_cmp, over_suc, parts_of, later_of, earlier_of}
use Rattle.ray_geom.specs.Boxes.{BoxValue}
use Rattle.ray_geom.specs.ObjectRay.{ObjectRayValue}
use Rattle.ray_prune.specs.BoxSpan.{near_end, far_end}
use Rattle.ray_geom.specs.Decided.{where_so}
use Rattle.ray_prune.specs.Decided.{inside_decided}
use Rattle.ray_geom.specs.HitValue.{lowest_terms}

-- a whole number, or 0 where it is negative
abbrev pub natural_part : ℤ → ℕ
natural_part (pos n) = n
natural_part (negsuc n) = 0

-- on one axis, with the ray at o + t m: how far it has to go, times |m|, until it is between near and far
abbrev pub way_in : ℤ → ℤ → ℤ → ℤ → ℤ
way_in near far o (pos m) = near -ℤ o
way_in near far o (negsuc m) = o -ℤ far

-- and until it leaves
abbrev pub way_out : ℤ → ℤ → ℤ → ℤ → ℤ
way_out near far o (pos m) = far -ℤ o
way_out near far o (negsuc m) = o -ℤ near

-- the distance at which a way is done at a speed, and 0 where there is no speed or the way is behind
abbrev pub enters_at : ℤ → ℕ → Ratio
enters_at way zero = over_suc 0 0
enters_at way (suc k) = over_suc (natural_part way) k

-- the same, with a greatest distance where there is no speed
abbrev pub leaves_at : Ratio → ℤ → ℕ → Ratio
leaves_at most way zero = most
leaves_at most way (suc k) = over_suc (natural_part way) k

-- on one axis, where the ray enters what lies from det * lo to det * hi
abbrev pub entry_on : ℤ → ℤ → ℤ → ℤ → ℤ → Ratio
entry_on det lo hi o m = enters_at (way_in (near_end det lo hi) (far_end det lo hi) o m) (unsigned_abs m)

-- and where it leaves it
abbrev pub exit_on : Ratio → ℤ → ℤ → ℤ → ℤ → ℤ → Ratio
exit_on most det lo hi o m = leaves_at most (way_out (near_end det lo hi) (far_end det lo hi) o m) (unsigned_abs m)

-- the entry, where the box is met: the greatest of tmin and the entries on the three axes (own)
abbrev pub entry_of : ObjectRayValue → BoxValue → Ratio
entry_of object box =
    later_of (later_of (later_of (parts_of object.tmin)
    (entry_on object.det box.lo.x box.hi.x object.origin.x object.dir.x))
    (entry_on object.det box.lo.y box.hi.y object.origin.y object.dir.y))
    (entry_on object.det box.lo.z box.hi.z object.origin.z object.dir.z)

-- the exit, where the box is met: the least of tmax and the exits on the three axes (own)
abbrev pub exit_of : ObjectRayValue → BoxValue → Ratio
exit_of object box =
    let most = parts_of object.tmax in
    earlier_of (earlier_of (earlier_of most
    (exit_on most object.det box.lo.x box.hi.x object.origin.x object.dir.x))
    (exit_on most object.det box.lo.y box.hi.y object.origin.y object.dir.y))
    (exit_on most object.det box.lo.z box.hi.z object.origin.z object.dir.z)

-- the reach with these ends
abbrev pub reach_value : Ratio → Ratio → Reach
reach_value entry exit = record { entry = entry; exit = exit }

-- the reach: from the entry to the exit, where the entry is inside; else the box isn't met (own)
abbrev pub reach_of : ObjectRayValue → BoxValue → Option Reach
reach_of object box =
    where_so (inside_decided object box (entry_of object box).num (entry_of object box).den)
    (reach_value (entry_of object box) (exit_of object box))

-- two answers are both none, or have ends of one value
abbrev pub IsSameReach : Option Reach → Option Reach → Type 0
IsSameReach None None = Unit {0}
IsSameReach None (Some b) = ⊥
IsSameReach (Some a) None = ⊥
IsSameReach (Some a) (Some b) = (ratio_cmp a.entry b.entry ≡ Equal) × (ratio_cmp a.exit b.exit ≡ Equal)

-- what a span tells: entry and exit as numerator and denominator
pub record SpanValue : Type 0 where
  pub entry : ℕ × ℕ
  pub exit : ℕ × ℕ

-- a reach in lowest terms
abbrev pub span_in_lowest_terms : Reach → SpanValue
span_in_lowest_terms reach = record {
  entry = lowest_terms reach.entry.num reach.entry.den;
  exit = lowest_terms reach.exit.num reach.exit.den;
}

-- the span of a ray and a box, where there is one (own)
abbrev pub span_of : ObjectRayValue → BoxValue → Option SpanValue
span_of object box = option_map span_in_lowest_terms (reach_of object box)

-- a span of the program as a value
abbrev pub span_value : Span → SpanValue
span_value span = record {
  entry = (numerator span.entry, denominator span.entry);
  exit = (numerator span.exit, denominator span.exit);
}
