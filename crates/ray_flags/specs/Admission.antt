-- Which primitives a ray passes over for their kind, their opacity or their face. (Vulkan, chapter
-- "Ray Traversal": ray opacity and ray culling; VK_KHR_ray_query has the same flags.)
use Rattle.std.specs.Prelude.{◌⊎◌, ◌&&◌, ◌||◌, Bool, IsTrue, false, if◌then◌else◌, not, true}
use Rattle.ray_flags.specs.declared.instance_flags.InstanceFlags.{InstanceFlags}
use Rattle.ray_flags.specs.declared.kind.Kind.{Kind}
use Rattle.ray_flags.specs.declared.kind.Kind.TheVariants.{Aabb, Triangle}
use Rattle.ray_flags.specs.declared.ray_flags.RayFlags.{RayFlags}
use Rattle.ray_flags.specs.Flags.{instance_has, ray_has, CullBackFacing, CullFrontFacing, CullNoOpaque, CullOpaque, ForceNoOpaque, ForceOpaque, NoOpaque, Opaque, SkipAabbs, SkipTriangles, TriangleFacingCullDisable, TriangleFlipFacing}

-- the instance forces its geometry to be opaque, and not to be
abbrev pub ForcesBoth : InstanceFlags → Type 0
ForcesBoth instance =
    IsTrue (instance_has instance ForceOpaque) × IsTrue (instance_has instance ForceNoOpaque)

-- the ray asks that everything counts as opaque, and that nothing does
abbrev pub AsksBoth : RayFlags → Type 0
AsksBoth ray = IsTrue (ray_has ray Opaque) × IsTrue (ray_has ray NoOpaque)

-- the base, unless it is switched on or off
abbrev pub overridden : Bool → Bool → Bool → Bool
overridden base on off = if on then true else if off then false else base

-- whether a primitive is opaque: as its geometry is, overridden by the instance's force bits,
-- overridden by the ray's flags (ray opacity)
abbrev pub opacity_of : Bool → InstanceFlags → RayFlags → Bool
opacity_of opaque instance ray =
    overridden
    (overridden opaque
    (instance_has instance ForceOpaque) (instance_has instance ForceNoOpaque))
    (ray_has ray Opaque) (ray_has ray NoOpaque)

-- the ray skips every primitive of this kind
abbrev pub is_skipped : Kind → RayFlags → Bool
is_skipped Triangle ray = ray_has ray SkipTriangles
is_skipped Aabb ray = ray_has ray SkipAabbs

-- the ray culls every primitive of this opacity, triangles and boxes alike
abbrev pub is_culled_by_opacity : Bool → RayFlags → Bool
is_culled_by_opacity true ray = ray_has ray CullOpaque
is_culled_by_opacity false ray = ray_has ray CullNoOpaque

-- whether a triangle shows its front once the instance has flipped it, or not
abbrev pub shows_front : Bool → InstanceFlags → Bool
shows_front front instance =
    if instance_has instance TriangleFlipFacing then not front else front

-- the ray culls every triangle that shows its front, or its back
abbrev pub culls_face : Bool → RayFlags → Bool
culls_face true ray = ray_has ray CullFrontFacing
culls_face false ray = ray_has ray CullBackFacing

-- the ray culls a triangle for the face that it shows, unless the instance disables that; a box has
-- no face
abbrev pub is_culled_by_face : Kind → Bool → InstanceFlags → RayFlags → Bool
is_culled_by_face Triangle front instance ray =
    not (instance_has instance TriangleFacingCullDisable)
    && culls_face (shows_front front instance) ray
is_culled_by_face Aabb front instance ray = false

-- a primitive is passed over for its kind, its opacity or its face
abbrev pub IsCulled : Kind → Bool → Bool → InstanceFlags → RayFlags → Type 0
IsCulled kind opaque front instance ray =
    IsTrue (is_skipped kind ray)
    ⊎ IsTrue (is_culled_by_opacity opaque ray)
    ⊎ IsTrue (is_culled_by_face kind front instance ray)

-- the same as a test
abbrev pub is_culled : Kind → Bool → Bool → InstanceFlags → RayFlags → Bool
is_culled kind opaque front instance ray =
    is_skipped kind ray
    || (is_culled_by_opacity opaque ray || is_culled_by_face kind front instance ray)
