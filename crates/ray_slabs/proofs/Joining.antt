-- Three sides joined are slabs that are made of them.
use Rattle.std.proofs.Common.{ℕ, ◌≡◌, ◌-◌, ◌^◌, refl, sym, subst, ap, ◌∙◌, Bool, true, false, ◌&&◌}
use Rattle.std.specs.Prelude.{ℤ, pos, ◌-ℤ◌}
use Rattle.std.specs.Int.{int_min}
use Rattle.ray_geom.specs.declared.vec3.Vec3.{Vec3}
use Rattle.ray_geom.specs.ObjectRay.{ObjectRayValue, IsObjectRay}
use Rattle.ray_lanes.specs.Overlap.{on_axis}
use Rattle.ray_lanes.specs.declared.lanes.Window.{Window}
use Rattle.ray_window.specs.Lines.{AreLines}
use Rattle.ray_slabs.specs.declared.axis.Axis.{Axis}
use Rattle.ray_slabs.specs.declared.side.Side.{Side}
use Rattle.ray_slabs.specs.declared.range.Range.{Range}
use Rattle.ray_slabs.specs.declared.slabs.Slabs.{Slabs}
use Rattle.ray_slabs.specs.Sides.{IsSide}
use Rattle.ray_slabs.specs.Ranges.{IsMadeOf, AreJoined}

-- a side that is exact only where the first is
with_exact : (det o m : ℤ) (shift base : ℕ) (from to : ℤ) (side : Side) (exact : Bool) → IsSide det o m shift base from to side →
    (exact ≡ true → side.exact ≡ true) → IsSide det o m shift base from to record { axis = side.axis; exact = exact }
with_exact det o m shift base from to side exact is f = record {
  safe = is.safe;
  bounds = is.bounds;
  sure = λ lo hi k e. is.sure lo hi k (f e);
}

weaker : (det o m : ℤ) (shift base base' : ℕ) (from to : ℤ) (side : Side) (axis : Axis) (exact : Bool) → IsSide det o m shift base from to side →
    base' ≡ base → axis ≡ side.axis → (exact ≡ true → side.exact ≡ true) → IsSide det o m shift base' from to record { axis = axis; exact = exact }
weaker det o m shift base base' from to side axis exact is b e f =
    subst (λ p. p) (λ i. IsSide det o m shift (sym b i) from to record { axis = sym e i; exact = exact }) (with_exact det o m shift base from to side exact is f)

pub all_first : (p q r : Bool) → ((p && q) && r) ≡ true → p ≡ true
all_first true q r h = refl
all_first false q r h = absurd (cc)

pub all_second : (p q r : Bool) → ((p && q) && r) ≡ true → q ≡ true
all_second true true r h = refl
all_second true false r h = absurd (cc)
all_second false q r h = absurd (cc)

pub all_third : (p q r : Bool) → ((p && q) && r) ≡ true → r ≡ true
all_third true true r h = h
all_third true false r h = absurd (cc)
all_third false q r h = absurd (cc)

pub sides_made : (det : ℤ) (origin dir : Vec3) (window : Window) (range : Range) (shift base : ℕ) (last : ℤ) (x y z : Side) (slabs : Slabs) →
    IsSide det origin.x dir.x shift base (on_axis window.lo 0) (on_axis window.hi 0) x →
    IsSide det origin.y dir.y shift base (on_axis window.lo 1) (on_axis window.hi 1) y →
    IsSide det origin.z dir.z shift base (on_axis window.lo 2) (on_axis window.hi 2) z →
    AreJoined x y z base last shift slabs → pos base ≡ range.first → last ≡ int_min (range.last -ℤ range.first) (pos (2 ^ 31 - 64)) →
    IsMadeOf det origin dir window range shift slabs
sides_made det origin dir window range shift base last x y z slabs x_is y_is z_is joined first_is last_is = record {
  shift_is = joined.shift_is;
  base_is = ap pos joined.base_is ∙ first_is;
  last_is = joined.last_is ∙ last_is;
  x = weaker det origin.x dir.x shift base slabs.base (on_axis window.lo 0) (on_axis window.hi 0) x slabs.x slabs.exact x_is joined.base_is joined.x_is
      (λ e. all_first x.exact y.exact z.exact (sym joined.exact_is ∙ e));
  y = weaker det origin.y dir.y shift base slabs.base (on_axis window.lo 1) (on_axis window.hi 1) y slabs.y slabs.exact y_is joined.base_is joined.y_is
      (λ e. all_second x.exact y.exact z.exact (sym joined.exact_is ∙ e));
  z = weaker det origin.z dir.z shift base slabs.base (on_axis window.lo 2) (on_axis window.hi 2) z slabs.z slabs.exact z_is joined.base_is joined.z_is
      (λ e. all_third x.exact y.exact z.exact (sym joined.exact_is ∙ e));
}

-- the numbers of a ray, on each axis
pub ray_lines : (object : ObjectRayValue) → IsObjectRay object → AreLines object.det object.origin object.dir
ray_lines object is = record {
  x = record { det_short = is.det_short; det_not_zero = is.det_not_zero; o_short = is.origin_short.x_within; m_short = is.dir_short.x_within };
  y = record { det_short = is.det_short; det_not_zero = is.det_not_zero; o_short = is.origin_short.y_within; m_short = is.dir_short.y_within };
  z = record { det_short = is.det_short; det_not_zero = is.det_not_zero; o_short = is.origin_short.z_within; m_short = is.dir_short.z_within };
}
