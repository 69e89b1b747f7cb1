-- The candidates of a ray: everything that it meets and that is admitted, in rising order of keys; and what a trace
-- answers. All are functions of the contents of a top structure, of the contents of the bottom structures by their ids, and of the
-- ray with its flags and its cull mask. Nothing here knows of trees, or of an order in which things are looked at.
-- (Vulkan, "Ray Traversal" and "Ray Intersection Candidate Determination"; own: the order of the candidates, and
-- that distances are exact.)
use Rattle.std.specs.Prelude.{ℕ, zero, suc, ◌==◌, ◌++◌, Bool, false, not, if◌then◌else◌, Option, Some, None, List, [], ◌∷◌, length, slice_get}
use Rattle.std.specs.Int.RustNames.{bit_and}
use Rattle.ray_geom.specs.Scene.{RayValue}
use Rattle.ray_geom.specs.Transform.{det_of}
use Rattle.ray_geom.specs.HitValue.{HitValue}
use Rattle.ray_prune.specs.BoxReach.{SpanValue}
use Rattle.ray_prune.specs.Facing.{is_front}
use Rattle.ray_flags.specs.declared.kind.Kind.TheVariants.{Triangle, Aabb}
use Rattle.ray_flags.specs.declared.ray_flags.RayFlags.{RayFlags}
use Rattle.ray_flags.specs.Admission.{opacity_of, shows_front, is_culled}
use Rattle.ray_geometries.specs.declared.geometry.Geometry.{Geometry}
use Rattle.ray_geometries.specs.Contents.{ContentsValue as BottomContents, count_of}
use Rattle.ray_bottom.specs.Meeting.{MeetValue, Hit, Through, meet_of}
use Rattle.ray_top.specs.Instances.{InstanceValue, active_at}
use Rattle.ray_top.specs.Contents.{ContentsValue as TopContents}
use Rattle.ray_query.specs.declared.candidate.Candidate.{Candidate}
use Rattle.ray_query.specs.declared.commit.Commit.{Commit}
use Rattle.ray_query.specs.declared.decision.Decision.{Decision}
use Rattle.ray_query.specs.declared.found.Found.{Found}
use Rattle.ray_query.specs.Play.{play, start}
use Rattle.ray_query.specs.KeyOrder.{in_key_order}
use Rattle.ray_geom.specs.Reduced.{fraction_of}

-- the bottom structures: the contents of the one that stands under an id, if one does
abbrev pub Structures : Type 0
Structures = ℕ → Option BottomContents

-- a geometry as an instance places it in the world: the instance with its number, the geometry's number in the instance's
-- structure, and whether its primitives count as opaque
pub record Placed : Type 0 where
  pub number : ℕ
  pub instance : InstanceValue
  pub geometry : ℕ
  pub opaque : Bool

-- ---- one primitive

-- whether the ray sees the front of a triangle that it hits, before the instance's flip: den * det < 0
abbrev pub sees_front : Placed → HitValue → Bool
sees_front at hit = is_front hit.den_negative (det_of at.instance.matrix)

-- what is found of a triangle that is hit. Its front is told after the instance's flip
abbrev pub found_triangle : Placed → ℕ → HitValue → Found
found_triangle at primitive hit = record {
  kind = Triangle;
  opaque = at.opaque;
  instance = at.number;
  geometry = at.geometry;
  primitive = primitive;
  custom = at.instance.custom;
  sbt = at.instance.sbt;
  front = shows_front (sees_front at hit) at.instance.flags;
  t = fraction_of hit.t;
  exit = fraction_of hit.t;
  u = fraction_of hit.u;
  v = fraction_of hit.v;
}

-- what is found of a box that is met: it has no face and no barycentrics
abbrev pub found_box : Placed → ℕ → SpanValue → Found
found_box at primitive span = record {
  kind = Aabb;
  opaque = at.opaque;
  instance = at.number;
  geometry = at.geometry;
  primitive = primitive;
  custom = at.instance.custom;
  sbt = at.instance.sbt;
  front = false;
  t = fraction_of span.entry;
  exit = fraction_of span.exit;
  u = fraction_of (0, 1);
  v = fraction_of (0, 1);
}

-- what is found where this is met
abbrev pub found_of : Placed → ℕ → MeetValue → Found
found_of at primitive (Hit hit) = found_triangle at primitive hit
found_of at primitive (Through span) = found_box at primitive span

-- whether the ray passes over what it meets, for its kind, its opacity or its face. A face is the one after the instance's
-- flip; a box has none
abbrev pub passes_over : RayFlags → Placed → MeetValue → Bool
passes_over flags at (Hit hit) = is_culled Triangle at.opaque (sees_front at hit) at.instance.flags flags
passes_over flags at (Through span) = is_culled Aabb at.opaque false at.instance.flags flags

-- what is found, where something is met and the ray doesn't pass over it
abbrev pub admitted : RayFlags → Placed → ℕ → Option MeetValue → List Found
admitted flags at primitive None = []
admitted flags at primitive (Some meet) = if passes_over flags at meet then [] else found_of at primitive meet ∷ []

-- what is found of the primitive of a number: of a triangle in the world, of a box in the object's space. Of an inactive
-- primitive nothing is met
unfoldable pub found_at : RayValue → RayFlags → List Geometry → Placed → ℕ → List Found
found_at ray flags geometries at primitive =
    admitted flags at primitive (meet_of geometries (record { geometry = at.geometry; primitive = primitive }) ray at.instance.matrix)

-- ---- all primitives

-- the lists of the numbers below a count, one after the other
unfoldable pub joined : {X : Type 0} → (ℕ → List X) → ℕ → List X
joined each zero = []
joined each (suc n) = joined each n ++ each n

-- the geometry of a number as an instance places it. Its primitives are opaque as it is, overridden by the instance's flags,
-- overridden by the ray's
abbrev pub placed : RayFlags → ℕ → InstanceValue → ℕ → Geometry → Placed
placed flags number i g geometry =
    record { number = number; instance = i; geometry = g; opaque = opacity_of geometry.opaque i.flags flags }

-- what is found of the primitives of a geometry
abbrev pub found_in_geometry : RayValue → RayFlags → List Geometry → ℕ → InstanceValue → ℕ → Option Geometry → List Found
found_in_geometry ray flags geometries number i g None = []
found_in_geometry ray flags geometries number i g (Some geometry) =
    joined (found_at ray flags geometries (placed flags number i g geometry)) (count_of geometry)

-- of the geometries of a structure; where none stands under the id, nothing is found
abbrev pub found_in_structure : RayValue → RayFlags → ℕ → InstanceValue → Option BottomContents → List Found
found_in_structure ray flags number i None = []
found_in_structure ray flags number i (Some bottom) =
    joined (λ g. found_in_geometry ray flags bottom.geometries number i g (slice_get bottom.geometries g)) (length bottom.geometries)

-- whether the mask of an instance and the cull mask of the ray, both of 8 bits, have a bit in common
abbrev pub is_seen : ℕ → InstanceValue → Bool
is_seen mask i = not (bit_and i.mask mask == 0)

-- of an instance, where it is active and its mask is seen
abbrev pub found_in_instance : Structures → RayValue → RayFlags → ℕ → ℕ → Option InstanceValue → List Found
found_in_instance bottoms ray flags mask number None = []
found_in_instance bottoms ray flags mask number (Some i) =
    if is_seen mask i then found_in_structure ray flags number i (bottoms i.id) else []

-- the instance of a number, where it is active
abbrev pub active_instance : TopContents → ℕ → Option InstanceValue
active_instance top number = active_at top.instances number

-- of all instances
abbrev pub found_in : TopContents → Structures → RayValue → RayFlags → ℕ → List Found
found_in top bottoms ray flags mask =
    joined (λ n. found_in_instance bottoms ray flags mask n (active_instance top n)) (length top.instances)

-- ---- in order

-- the candidates of a ray
unfoldable pub candidates : TopContents → Structures → RayValue → RayFlags → ℕ → List Found
candidates top bottoms ray flags mask = in_key_order (found_in top bottoms ray flags mask)

-- the answer of a trace by a client of this meaning: what the play of the candidates commits, if anything. The ray
-- has this number in its trace
abbrev pub trace_answer : (Candidate → Decision) → TopContents → Structures → RayValue → ℕ → RayFlags → ℕ → Option Commit
trace_answer meaning top bottoms ray number flags mask =
    (play meaning number flags start (candidates top bottoms ray flags mask)).committed
