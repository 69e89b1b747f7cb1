use Rattle.std.proofs.Common.{take}
use Rattle.ray_rules.specs.Access.{structure_reads}
use Rattle.ray_access.specs.Lists.{Adds}
use Rattle.ray_access.proofs.lists.add_structures.Given as goal

abbrev pub invariant-loop-id : goal.invariant-loop-id
invariant-loop-id l = Adds l.status (structure_reads (take l.id-index l.ids)) l.initial.list.items l.list.items
