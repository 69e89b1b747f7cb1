-- Which keys a ray has in a root's box, of which no clause of a public call speaks.
use Rattle.std.specs.Prelude.{ℕ, ℤ, pos, ◌≡◌, ◌-◌, ◌*◌, ◌^◌, ◌<◌, ◌≤◌, ◌+ℤ◌, ◌-ℤ◌, ◌*ℤ◌, ◌≤ℤ◌, Option, IfSome, ◌&&◌}
use Rattle.std.specs.Int.{int_min}
use Rattle.ray_geom.specs.declared.vec3.Vec3.{Vec3}
use Rattle.ray_geom.specs.declared.ratio.Ratio.{Ratio}
use Rattle.ray_geom.specs.Boxes.{BoxValue}
use Rattle.ray_geom.specs.ObjectRay.{ObjectRayValue}
use Rattle.ray_prune.specs.BoxSpan.{IsInside}
use Rattle.ray_window.specs.Meets.{IsUpTo}
use Rattle.ray_lanes.specs.Overlap.{on_axis}
use Rattle.ray_lanes.specs.declared.lanes.Window.{Window}
use Rattle.ray_slabs.specs.declared.side.Side.{Side}
use Rattle.ray_slabs.specs.declared.planes.Planes.{Planes}
use Rattle.ray_slabs.specs.declared.slabs.Slabs.{Slabs}
use Rattle.ray_slabs.specs.declared.slope.Slope.{Slope}
use Rattle.ray_slabs.specs.declared.slope.Slopes.{Slopes}
use Rattle.ray_slabs.specs.declared.range.Range.{Range}
use Rattle.ray_slabs.specs.Keys.{key_at, IsFrom}
use Rattle.ray_slabs.specs.Axes.{crossed_by, first_by, last_by}
use Rattle.ray_slabs.specs.Slopes.{IsSlope}
use Rattle.ray_slabs.specs.Sides.{IsShort, IsSide}

-- a slope, where there is one, stands for an axis
abbrev pub MayBeSlope : ℤ → ℤ → ℤ → ℕ → Option Slope → Type 0
MayBeSlope det o m shift found = IfSome found (IsSlope det o m shift)

-- the slopes of a ray
pub record AreSlopes (det : ℤ) (origin dir : Vec3) (shift : ℕ) (slopes : Slopes) : Type 0 where
  pub x : MayBeSlope det origin.x dir.x shift slopes.x
  pub y : MayBeSlope det origin.y dir.y shift slopes.y
  pub z : MayBeSlope det origin.z dir.z shift slopes.z

-- their starts are short
pub record AreShort (slopes : Slopes) : Type 0 where
  pub x : IfSome slopes.x IsShort
  pub y : IfSome slopes.y IsShort
  pub z : IfSome slopes.z IsShort

-- a key is between those at which the ray is between two planes, where there is a slope
abbrev pub IsBetweenKeys : Option Slope → ℕ → ℕ → ℕ → Type 0
IsBetweenKeys found lo hi key =
    IfSome found (λ s. IsFrom (crossed_by s.falling s.factor s.start (first_by s.falling lo hi))
    (crossed_by s.falling s.factor s.start (last_by s.falling lo hi) +ℤ pos 3) (pos key))

-- a key is in a range
pub record IsInRange (range : Range) (key : ℕ) : Type 0 where
  pub from : range.first ≤ℤ pos key
  pub to : pos key ≤ℤ range.last

-- a range within bounds that hold of every ray
pub record IsRange (object : ObjectRayValue) (shift : ℕ) (range : Range) : Type 0 where
  pub first_known : pos (key_at shift object.tmin 65536) ≤ℤ range.first
  pub last_known : range.last ≤ℤ pos (key_at shift object.tmax 65536)

-- a range holds the keys of all distances up to the limit at which the ray is inside the root's box
abbrev pub HoldsKeys : ObjectRayValue → BoxValue → Option Ratio → ℕ → Range → Type 0
HoldsKeys object root limit shift range =
    (n d : ℕ) → 0 < d → IsInside object root n d → IsUpTo limit n d → IsInRange range (key_at shift n d)

-- a range holds the keys of all distances up to the limit that the slopes leave between six planes
abbrev pub HoldsByPlanes : ObjectRayValue → Option Ratio → ℕ → Slopes → Range → Planes → Type 0
HoldsByPlanes object limit shift slopes range root =
    (n d : ℕ) → 0 < d → object.tmin * d ≤ 65536 * n → 65536 * n ≤ object.tmax * d → IsUpTo limit n d →
    IsBetweenKeys slopes.x root.lo_x root.hi_x (key_at shift n d) →
    IsBetweenKeys slopes.y root.lo_y root.hi_y (key_at shift n d) →
    IsBetweenKeys slopes.z root.lo_z root.hi_z (key_at shift n d) →
    IsInRange range (key_at shift n d)

-- the distance of the key behind the last
abbrev pub IsUntil : Ratio → ℕ → ℤ → Type 0
IsUntil ratio shift last = (pos ratio.num ≡ (last +ℤ pos 1) *ℤ pos (2 ^ shift)) × (ratio.den ≡ 2 ^ 38)

-- slabs are made of a range of keys, and of what is compared on the three axes, by a window where there is no slope
pub record IsMadeOf (det : ℤ) (origin dir : Vec3) (window : Window) (range : Range) (shift : ℕ) (slabs : Slabs) : Type 0 where
  pub shift_is : slabs.shift ≡ shift
  pub base_is : pos slabs.base ≡ range.first
  pub last_is : slabs.last ≡ int_min (range.last -ℤ range.first) (pos (2 ^ 31 - 64))
  pub x : IsSide det origin.x dir.x shift slabs.base (on_axis window.lo 0) (on_axis window.hi 0) record { axis = slabs.x; exact = slabs.exact }
  pub y : IsSide det origin.y dir.y shift slabs.base (on_axis window.lo 1) (on_axis window.hi 1) record { axis = slabs.y; exact = slabs.exact }
  pub z : IsSide det origin.z dir.z shift slabs.base (on_axis window.lo 2) (on_axis window.hi 2) record { axis = slabs.z; exact = slabs.exact }

-- a range that isn't empty, within 62 bits
pub record IsSpanned (range : Range) : Type 0 where
  pub not_before : pos 0 ≤ℤ range.first
  pub ordered : range.first ≤ℤ range.last
  pub last_short : range.last ≤ℤ pos (2 ^ 62)

-- three sides joined
pub record AreJoined (x y z : Side) (base : ℕ) (last : ℤ) (shift : ℕ) (slabs : Slabs) : Type 0 where
  pub x_is : slabs.x ≡ x.axis
  pub y_is : slabs.y ≡ y.axis
  pub z_is : slabs.z ≡ z.axis
  pub base_is : slabs.base ≡ base
  pub last_is : slabs.last ≡ last
  pub shift_is : slabs.shift ≡ shift
  pub exact_is : slabs.exact ≡ ((x.exact && y.exact) && z.exact)
