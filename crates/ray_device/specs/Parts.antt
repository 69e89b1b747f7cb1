-- What a part of a command gives, by the command and the memory as it is. (Own.)
use Rattle.std.specs.Prelude.{ℕ, ◌*◌, map, Option, Some, None, IsSome, slice_get}
use Rattle.ray_cmd.specs.declared.command.Command.{Command}
use Rattle.ray_cmd.specs.declared.command.Command.TheVariants as commands
use Rattle.ray_cmd.specs.declared.info.Info.{Info}
use Rattle.ray_cmd.specs.declared.region.Region.{Region}
use Rattle.ray_rules.specs.Access.{rays_of_piece}
use Rattle.ray_rules.specs.Ranges.{range}
use Rattle.ray_action.specs.Memory.{Memory, StructureAt, ContentsAt, bytes_at}
use Rattle.ray_action.specs.Clients.{Meaning}
use Rattle.ray_action.specs.Outcomes.{Outcome, Gives, Nothing, bytes_outcome, copy_outcome, deserialize_outcome, numbers_of, property_outcome, serialize_outcome}
use Rattle.ray_action.specs.Pieces.{cull_mask, rays_range, stretch_range}
use Rattle.ray_action.specs.Readiness.{IsCopyReady, FitsMode}
use Rattle.ray_action.specs.Seeing.{see_structure}
use Rattle.ray_device.specs.Infos.{info_now, CanBuild}
use Rattle.ray_device.specs.Tops.{used_now}
use Rattle.ray_action.specs.Traceable.{IsTraceable}
use Rattle.ray_device.specs.Tracing.{traced}

-- ---- what it gives

-- of a region, and of an info, where there is one
abbrev pub region_given : Memory → ℕ → Option Region → Outcome
region_given memory src None = Gives Nothing
region_given memory src (Some region) = bytes_outcome (bytes_at memory (range src region.src_offset region.size))

abbrev pub info_given : Memory → ℕ → Option Info → Outcome
info_given memory k None = Gives Nothing
info_given memory k (Some info) = info_now memory k info

-- of part k of a command, by a client
unfoldable pub part_given : Memory → Meaning → Command → ℕ → Outcome
part_given memory meaning (commands.Copy src dst regions) k = region_given memory src (slice_get regions k)
part_given memory meaning (commands.Build infos) k = info_given memory k (slice_get infos k)
part_given memory meaning (commands.CopyStructure mode src dst) k = copy_outcome mode (memory (ContentsAt src)) (memory (StructureAt dst))
part_given memory meaning (commands.Serialize src dst form) k = serialize_outcome form (stretch_range dst) (memory (ContentsAt src))
part_given memory meaning (commands.Deserialize src dst uses) k =
    deserialize_outcome (map (used_now memory) uses) (bytes_at memory (stretch_range src)) (memory (StructureAt dst))
part_given memory meaning (commands.Property what structures dst) k = property_outcome (numbers_of what (map (see_structure memory) structures))
part_given memory meaning (commands.Trace top rays count hits flags mask script) k =
    traced memory top (rays_range rays count k) (64 * k) (rays_of_piece count k) flags (cull_mask mask) meaning
part_given memory meaning _ k = Gives Nothing

-- ---- what it needs

abbrev pub CanReadRegion : Memory → ℕ → Option Region → Type 0
CanReadRegion memory src None = Unit {0}
CanReadRegion memory src (Some region) = IsSome (bytes_at memory (range src region.src_offset region.size))

abbrev pub CanBuildInfo : Memory → Option Info → Type 0
CanBuildInfo memory None = Unit {0}
CanBuildInfo memory (Some info) = CanBuild memory info

abbrev pub CanFetch : Memory → Command → ℕ → Type 0
CanFetch memory (commands.Copy src dst regions) k = CanReadRegion memory src (slice_get regions k)
CanFetch memory (commands.Build infos) k = CanBuildInfo memory (slice_get infos k)
CanFetch memory (commands.CopyStructure mode src dst) k =
    IsCopyReady (memory (ContentsAt src)) (memory (StructureAt dst)) × FitsMode mode (memory (ContentsAt src))
CanFetch memory (commands.Serialize src dst form) k = IsSome (memory (ContentsAt src))
CanFetch memory (commands.Deserialize src dst uses) k =
    IsSome (bytes_at memory (stretch_range src)) × IsSome (memory (StructureAt dst))
CanFetch memory (commands.Property what structures dst) k = IsSome (numbers_of what (map (see_structure memory) structures))
CanFetch memory (commands.Trace top rays count hits flags mask script) k =
    IsTraceable memory top (rays_range rays count k) flags
CanFetch memory _ k = Unit {0}
