use Rattle.std.proofs.Common.{◌≡◌, take}
use Rattle.ray_stated.specs.Carried.{nodes_from}
use Rattle.ray_stated.proofs.reader.plain_nodes.Given as goal

abbrev pub invariant-loop-i : goal.invariant-loop-i
invariant-loop-i l = l.nodes.items ≡ nodes_from 0 (take l.i l.stored)
