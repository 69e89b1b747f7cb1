-- Rules on the parts of one command, which have no order among them. (VK_KHR_acceleration_structure:
-- the valid usage of builds; vkCmdCopyBuffer; own: the same of traces.)
use Rattle.std.specs.Prelude.{ℕ, ◌+◌, ◌++◌, ◌*◌, List, map, [], ◌∷◌, Option, Some, None, Bool, false, ◌||◌, ◌==◌, if◌then◌else◌}
use Rattle.std.specs.List.{list_any}
use Rattle.std.specs.Option.{option_map_or, option_map}
use Rattle.ray_cmd.specs.declared.command.Command.{Command}
use Rattle.ray_cmd.specs.declared.command.Command.TheVariants as commands
use Rattle.ray_cmd.specs.declared.info.Info.{Info}
use Rattle.ray_cmd.specs.declared.place.Place.{Place}
use Rattle.ray_cmd.specs.declared.place.Place.TheVariants.{Part}
use Rattle.ray_cmd.specs.declared.region.Region.{Region}
use Rattle.ray_ranges.specs.declared.range.Range.{Range}
use Rattle.ray_ranges.specs.First.{first_meeting}
use Rattle.ray_rules.specs.Places.{whole}
use Rattle.ray_rules.specs.Ranges.{range, meets, scratch_range}

-- whether the source of an update, where there is one, is the structure of an id
abbrev pub is_source : Option ℕ → ℕ → Bool
is_source src id = option_map_or (λ s. s == id) src false

-- whether an info reads the structure of an id: as the source of its update, or as one that its
-- instances may refer to
abbrev pub reads_structure : Info → ℕ → Bool
reads_structure info id = is_source info.src id || list_any (λ u. u == id) info.uses

-- whether two infos conflict: they have one destination, one reads the other's, or their scratch
-- memory overlaps
abbrev pub conflict : Info → Info → Bool
conflict info other =
    info.dst == other.dst
    || (reads_structure info other.dst
    || (reads_structure other info.dst || meets (scratch_range info) (scratch_range other)))

-- the number of the first info that conflicts with an earlier one. Those before are given, and the
-- first that is left has number k
abbrev pub first_conflict : List Info → ℕ → List Info → Option ℕ
first_conflict before k [] = None
first_conflict before k (info ∷ infos) =
    if list_any (conflict info) before then Some k else first_conflict (before ++ info ∷ []) (k + 1) infos

-- the bytes that a region reads of its source, and those that it writes of its destination
abbrev pub source_of : Region → Range
source_of region = record { from = region.src_offset; end = region.src_offset + region.size }

abbrev pub target_of : Region → Range
target_of region = record { from = region.dst_offset; end = region.dst_offset + region.size }

-- the sources of regions, where they stand in the buffer that is written
abbrev pub sources_in : ℕ → ℕ → List Region → List Range
sources_in src dst regions = if src == dst then map source_of regions else []

-- the number of the first region whose destination overlaps that of an earlier one, or the source
-- of any one
abbrev pub first_region_conflict : ℕ → ℕ → List Region → Option ℕ
first_region_conflict src dst regions = first_meeting (map target_of regions) (sources_in src dst regions)

-- V16: pieces of one command conflict
unfoldable pub v16 : Command → Option Place
v16 (commands.Build infos) = option_map Part (first_conflict [] 0 infos)
v16 (commands.Copy src dst regions) = option_map Part (first_region_conflict src dst regions)
v16 (commands.Trace top rays count hits flags mask script) =
    whole (meets (range rays.buffer rays.offset (40 * count)) (range hits.buffer hits.offset (80 * count)))
v16 _ = None
