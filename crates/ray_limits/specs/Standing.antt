-- Where a structure would stand that a command makes, and what stands there, as V6 compares them; how
-- much a buffer takes, as V2 does. (Own.)
use Rattle.std.specs.Prelude.{ℕ, Option, Some, None, Bool, false}
use Rattle.std.specs.Option.{option_map_or}
use Rattle.ray_cmd.specs.declared.command.Command.{Command}
use Rattle.ray_cmd.specs.declared.command.Command.TheVariants as commands
use Rattle.ray_rules.specs.declared.byte_range.ByteRange.{ByteRange}
use Rattle.ray_rules.specs.declared.live_structure.LiveStructure.{LiveStructure}
use Rattle.ray_rules.specs.Ids.{look}
use Rattle.ray_rules.specs.Ranges.{meets, range}
use Rattle.ray_rules.specs.Status.{Status}
use Rattle.ray_rules.specs.Structures.{structure_range}

-- the bytes of the structure that a command makes
abbrev pub range_made : Command → Option ByteRange
range_made (commands.Structure id kind buffer offset size) = Some (range buffer offset size)
range_made _ = None

-- whether bytes meet those of the structure of an id
abbrev pub meets_at : Status → ByteRange → ℕ → Bool
meets_at z r id = option_map_or (λ (s : LiveStructure). meets r (structure_range s)) (look z.structures id) false

-- the size of the buffer that a command makes
abbrev pub size_made : Command → Option ℕ
size_made (commands.Buffer id size usage content) = Some size
size_made _ = None
