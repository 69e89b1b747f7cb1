-- What a structure is built from. (Vulkan: VkAccelerationStructureBuildGeometryInfoKHR; own: the JSON.)
use Rattle.std.specs.Prelude.{ℕ, [], ◌∷◌, Bool, Option, Some, codes, is_none, is_some}
use Rattle.serde_json.specs.Data.{Data}
use Rattle.ray_json.specs.Fields.{◌>>=◌, guard, only, at, optional_at, listed_at, list_of, u32_of}
use Rattle.ray_cmd.specs.Words.{build_mode_of, build_flags_of}
use Rattle.ray_cmd.specs.Places.{spot_of}
use Rattle.ray_cmd.specs.Geometries.{geometry_of}
use Rattle.ray_cmd.specs.declared.build_mode.BuildMode.{BuildMode}
use Rattle.ray_cmd.specs.declared.build_mode.BuildMode.TheVariants.{Build, Update}
use Rattle.ray_cmd.specs.declared.info.Info.{Info}

-- a source is there exactly with an update
abbrev pub source_fits : BuildMode → Option ℕ → Bool
source_fits Build src = is_none src
source_fits Update src = is_some src

-- an info
unfoldable pub info_of : Data → Option Info
info_of d = do
  _ ← only (codes "mode" ∷ codes "dst" ∷ codes "src" ∷ codes "flags" ∷ codes "scratch" ∷ codes "geometries" ∷ codes "uses" ∷ []) d
  mode ← at build_mode_of (codes "mode") d
  dst ← at u32_of (codes "dst") d
  src ← optional_at u32_of (codes "src") d
  _ ← guard (source_fits mode src)
  flags ← at build_flags_of (codes "flags") d
  scratch ← at spot_of (codes "scratch") d
  geometries ← at (list_of geometry_of) (codes "geometries") d
  uses ← listed_at u32_of (codes "uses") d
  Some (record { mode = mode; dst = dst; src = src; flags = flags; scratch = scratch; geometries = geometries; uses = uses })
