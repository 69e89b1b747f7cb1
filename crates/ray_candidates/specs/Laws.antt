-- What the candidates are, said of a list and of what it holds, and the laws that it is so. Each law is the contract of a call of `src/laws`.
use Rattle.std.specs.Prelude.{ℕ, pos, ◌≡◌, ◌≢◌, ◌↔◌, IsTrue, Some, IfSome, true, false, List, All, Contains, slice_get}
use Rattle.ray_geom.specs.Scene.{RayValue, TriValue}
use Rattle.ray_geom.specs.Transform.{det_of, world_tri}
use Rattle.ray_geom.specs.HitValue.{HitValue, hit_of}
use Rattle.ray_prune.specs.Facing.{IsFront}
use Rattle.ray_geom.specs.Frac.{numerator, denominator}
use Rattle.ray_flags.specs.declared.ray_flags.RayFlags.{RayFlags}
use Rattle.ray_geometries.specs.declared.geometry.Geometry.{Geometry}
use Rattle.ray_geometries.specs.Contents.{ContentsValue as BottomContents}
use Rattle.ray_bottom.specs.Meeting.{MeetValue, Hit, Through, meet_of}
use Rattle.ray_top.specs.Instances.{InstanceValue}
use Rattle.ray_top.specs.Contents.{ContentsValue as TopContents}
use Rattle.ray_query.specs.declared.found.Found.{Found}
use Rattle.ray_query.specs.Key.{KeysRise}
use Rattle.ray_geom.specs.Reduced.{fraction_of}
use Rattle.ray_candidates.specs.Candidates.{Placed, Structures, is_seen, placed, sees_front, passes_over, found_of, candidates}

-- a ray finds this: there is an active instance of its number, whose mask is seen; the structure of that instance; a geometry
-- of its number in the structure; and something is met of the primitive of its number, which the ray doesn't pass over, and of
-- which this is what is found
pub record IsFound (top : TopContents) (bottoms : Structures) (ray : RayValue) (flags : RayFlags) (mask : ℕ) (f : Found) : Type 0 where
  pub instance : InstanceValue
  pub active : slice_get top.instances f.instance ≡ Some (Some instance)
  pub seen : is_seen mask instance ≡ true
  pub bottom : BottomContents
  pub stands : bottoms instance.id ≡ Some bottom
  pub geometry : Geometry
  pub at_geometry : slice_get bottom.geometries f.geometry ≡ Some geometry
  pub meet : MeetValue
  pub met : meet_of bottom.geometries (record { geometry = f.geometry; primitive = f.primitive }) ray instance.matrix ≡ Some meet
  pub admitted : passes_over flags (placed flags f.instance instance f.geometry geometry) meet ≡ false
  pub is_it : f ≡ found_of (placed flags f.instance instance f.geometry geometry) f.primitive meet

-- a list is the candidates of a ray: its keys rise, and its members are exactly what the ray finds
pub record AreCandidates (top : TopContents) (bottoms : Structures) (ray : RayValue) (flags : RayFlags) (mask : ℕ) (fs : List Found) : Type 0 where
  pub rising : KeysRise fs
  pub members : (f : Found) → Contains fs f ↔ IsFound top bottoms ray flags mask f

-- the candidates as they are defined are so
abbrev pub CandidatesAreSo : Type 0
CandidatesAreSo =
    (top : TopContents) (bottoms : Structures) (ray : RayValue) (flags : RayFlags) (mask : ℕ)
    → AreCandidates top bottoms ray flags mask (candidates top bottoms ray flags mask)

-- and no other list is
abbrev pub CandidatesAreOne : Type 0
CandidatesAreOne =
    (top : TopContents) (bottoms : Structures) (ray : RayValue) (flags : RayFlags) (mask : ℕ) (fs : List Found)
    → AreCandidates top bottoms ray flags mask fs → fs ≡ candidates top bottoms ray flags mask

-- the same stands under the ids of the active instances
pub record AgreeFor (top : TopContents) (bottoms others : Structures) : Type 0 where
  pub each : All (λ i. IfSome i (λ (j : InstanceValue). bottoms j.id ≡ others j.id)) top.instances

-- then the candidates are the same, and so is what a trace answers: nothing else that stands there matters
abbrev pub CandidatesAgree : Type 0
CandidatesAgree =
    (top : TopContents) (bottoms others : Structures) (ray : RayValue) (flags : RayFlags) (mask : ℕ)
    → AgreeFor top bottoms others → candidates top bottoms ray flags mask ≡ candidates top others ray flags mask

-- a triangle that is hit shows its front, before the instance's flip, exactly where den * det < 0
abbrev pub FacesAreSo : Type 0
FacesAreSo =
    (at : Placed) (ray : RayValue) (tri : TriValue) (hit : HitValue)
    → hit_of ray (world_tri at.instance.matrix tri) ≡ Some hit → det_of at.instance.matrix ≢ pos 0
    → IsTrue (sees_front at hit) ↔ IsFront ray at.instance.matrix tri

-- ---- the numbers of what is met

-- the fraction of two numbers has these numbers
pub record KeepsNumbers (parts : ℕ × ℕ) : Type 0 where
  pub num : numerator (fraction_of parts) ≡ parts.0
  pub den : denominator (fraction_of parts) ≡ parts.1

-- so do the fractions of a hit and of a span
abbrev pub KeepsAllNumbers : MeetValue → Type 0
KeepsAllNumbers (Hit hit) = KeepsNumbers hit.t × KeepsNumbers hit.u × KeepsNumbers hit.v
KeepsAllNumbers (Through span) = KeepsNumbers span.entry × KeepsNumbers span.exit
