use Rattle.std.proofs.Common.{take, []}
use Rattle.std.specs.List.{flat_map}
use Rattle.ray_cmd.specs.declared.region.Region.{Region}
use Rattle.ray_rules.specs.Access.{region_accesses}
use Rattle.ray_access.specs.Lists.{Adds}
use Rattle.ray_access.proofs.commands.copy.Given as goal

-- what the regions before read and write
abbrev pub invariant-loop-region : goal.invariant-loop-region
invariant-loop-region l =
    Adds l.status (flat_map (λ (x : Region). (region_accesses l.src l.dst x).reads) (take l.region-index l.regions)) [] l.reads.items
    × Adds l.status (flat_map (λ (x : Region). (region_accesses l.src l.dst x).writes) (take l.region-index l.regions)) [] l.writes.items
