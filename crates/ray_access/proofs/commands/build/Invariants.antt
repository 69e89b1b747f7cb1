use Rattle.std.proofs.Common.{take, []}
use Rattle.std.specs.List.{flat_map}
use Rattle.ray_cmd.specs.declared.info.Info.{Info}
use Rattle.ray_rules.specs.Access.{info_accesses}
use Rattle.ray_access.specs.Lists.{Adds}
use Rattle.ray_access.proofs.commands.build.Given as goal

-- what the infos before read and write
abbrev pub invariant-loop-info : goal.invariant-loop-info
invariant-loop-info l =
    Adds l.status (flat_map (λ (x : Info). (info_accesses l.fn.status.buffers x).reads) (take l.info-index l.infos)) [] l.reads.items
    × Adds l.status (flat_map (λ (x : Info). (info_accesses l.fn.status.buffers x).writes) (take l.info-index l.infos)) [] l.writes.items
