use Rattle.std.proofs.Common.{take}
use Rattle.std.specs.List.{flat_map}
use Rattle.ray_rules.specs.Access.{input_reads}
use Rattle.ray_access.specs.Lists.{Adds}
use Rattle.ray_access.proofs.infos.add_geometries.Given as goal

abbrev pub invariant-loop-geometry : goal.invariant-loop-geometry
invariant-loop-geometry l =
    Adds l.status (flat_map (input_reads l.status.buffers) (take l.geometry-index l.geometries)) l.initial.list.items
    l.list.items
