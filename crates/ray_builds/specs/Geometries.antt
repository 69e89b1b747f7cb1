-- Of what the geometries of an info are, as V8 asks it. (Own.)
use Rattle.std.specs.Prelude.{ℕ, ◌≡◌, List, Option, Some, None, Bool, true, false, ◌==◌, if◌then◌else◌, length, not, slice_get}
use Rattle.std.specs.Option.{option_map_or}
use Rattle.ray_cmd.specs.declared.command.Command.{Command}
use Rattle.ray_cmd.specs.declared.command.Command.TheVariants as commands
use Rattle.ray_cmd.specs.declared.geometry.Geometry.{Geometry}
use Rattle.ray_builds.specs.declared.misbuilt.BottomFlaw.{BottomFlaw}
use Rattle.ray_builds.specs.declared.misbuilt.BottomFlaw.TheVariants as bottoms
use Rattle.ray_builds.specs.declared.misbuilt.GeometryKind.{GeometryKind}
use Rattle.ray_builds.specs.declared.misbuilt.GeometryKind.TheVariants as kinds
use Rattle.ray_builds.specs.declared.misbuilt.TopFlaw.{TopFlaw}
use Rattle.ray_builds.specs.declared.misbuilt.TopFlaw.TheVariants as tops
use Rattle.ray_rules.specs.Shapes.{is_boxes, is_instances, is_triangles}
use Rattle.ray_rules.specs.Structures.{is_top}

-- whether a geometry is of this kind
abbrev pub is_of : GeometryKind → Geometry → Bool
is_of kinds.Triangles geometry = is_triangles geometry
is_of kinds.Boxes geometry = is_boxes geometry
is_of kinds.Instances geometry = is_instances geometry

-- whether the geometry of a number is there and is of this kind
abbrev pub has_at : GeometryKind → ℕ → List Geometry → Bool
has_at kind number geometries = option_map_or (is_of kind) (slice_get geometries number) false

-- whether the first geometry is there and isn't of instances
abbrev pub is_other_first : List Geometry → Bool
is_other_first geometries = option_map_or (λ (g : Geometry). not (is_instances g)) (slice_get geometries 0) false

-- this is wrong with the geometries of a top
abbrev pub IsTopFlaw : List Geometry → TopFlaw → Type 0
IsTopFlaw geometries (tops.Count number) = (length geometries ≡ number) × ((number == 1) ≡ false)
IsTopFlaw geometries (tops.Of kind) =
    (length geometries ≡ 1)
    × ((has_at kind 0 geometries ≡ true) × (has_at kinds.Instances 0 geometries ≡ false))

-- this is wrong with the geometries of a bottom
abbrev pub IsBottomFlaw : List Geometry → BottomFlaw → Type 0
IsBottomFlaw geometries (bottoms.Instances number) = has_at kinds.Instances number geometries ≡ true
IsBottomFlaw geometries (bottoms.Both two) =
    (has_at kinds.Triangles two.triangles geometries ≡ true) × (has_at kinds.Boxes two.boxes geometries ≡ true)

-- how many counts `sizes` of a top has
abbrev pub counts_of_top : Command → Option ℕ
counts_of_top (commands.Sizes kind counts) = if is_top kind then Some (length counts) else None
counts_of_top _ = None
