-- Whether two parts of a command conflict, as V16 has it. (Own.)
use Rattle.std.specs.Prelude.{ℕ, ◌*◌, Option, None, Bool, false, ◌&&◌, ◌==◌, nat_lt, slice_get}
use Rattle.std.specs.List.{list_any}
use Rattle.std.specs.Option.{option_map_or}
use Rattle.ray_cmd.specs.declared.command.Command.{Command}
use Rattle.ray_cmd.specs.declared.command.Command.TheVariants as commands
use Rattle.ray_cmd.specs.declared.info.Info.{Info}
use Rattle.ray_cmd.specs.declared.region.Region.{Region}
use Rattle.ray_causes.specs.Geometries.{info_at}
use Rattle.ray_conflicts.specs.declared.conflict.Two.{Two}
use Rattle.ray_conflicts.specs.declared.conflict.Way.{Way}
use Rattle.ray_conflicts.specs.declared.conflict.Way.TheVariants as ways
use Rattle.ray_rules.specs.Conflicts.{is_source, reads_structure}
use Rattle.ray_rules.specs.Ranges.{meets, range, scratch_range}

-- ---- infos

-- whether an info conflicts in a way with another
abbrev pub conflicts_by : Way → Info → Info → Bool
conflicts_by ways.Same info other = info.dst == other.dst
conflicts_by ways.Source info other = is_source info.src other.dst
conflicts_by ways.Use info other = list_any (λ u. u == other.dst) info.uses
conflicts_by ways.Read info other = reads_structure other info.dst
conflicts_by ways.Scratch info other = meets (scratch_range info) (scratch_range other)

-- the same where the other one is there
abbrev pub conflicts_if : Way → Option Info → Info → Bool
conflicts_if way other info = option_map_or (conflicts_by way info) other false

-- whether an info of a command conflicts in a way with an earlier one
abbrev pub infos_conflict : Command → Two → Way → Bool
infos_conflict c two way =
    nat_lt two.other two.part
    && option_map_or (conflicts_if way (info_at c two.other)) (info_at c two.part) false

-- ---- regions

-- region number k of a copy
abbrev pub region_at : Command → ℕ → Option Region
region_at (commands.Copy src dst regions) k = slice_get regions k
region_at _ k = None

-- whether the bytes that two regions write of a buffer meet
abbrev pub targets_meet : Region → Region → Bool
targets_meet region other = meets (range 0 region.dst_offset region.size) (range 0 other.dst_offset other.size)

abbrev pub targets_if : Option Region → Region → Bool
targets_if other region = option_map_or (targets_meet region) other false

-- whether the bytes that a region writes meet those that an earlier one writes
abbrev pub targets_conflict : Command → Two → Bool
targets_conflict c two =
    nat_lt two.other two.part && option_map_or (targets_if (region_at c two.other)) (region_at c two.part) false

-- whether a copy is within one buffer
abbrev pub is_within : Command → Bool
is_within (commands.Copy src dst regions) = src == dst
is_within _ = false

-- whether the bytes that a region writes of a buffer meet those that another reads of it
abbrev pub source_meets : Region → Region → Bool
source_meets region other = meets (range 0 region.dst_offset region.size) (range 0 other.src_offset other.size)

abbrev pub source_if : Option Region → Region → Bool
source_if other region = option_map_or (source_meets region) other false

-- the same of regions of a copy within one buffer
abbrev pub source_conflicts : Command → Two → Bool
source_conflicts c two =
    is_within c && option_map_or (source_if (region_at c two.other)) (region_at c two.part) false

-- ---- rays and hits

-- whether the rays and the hits of a trace share bytes
abbrev pub hits_conflict : Command → Bool
hits_conflict (commands.Trace top rays count hits flags mask script) =
    meets (range rays.buffer rays.offset (40 * count)) (range hits.buffer hits.offset (80 * count))
hits_conflict _ = false
