use Rattle.std.proofs.Common.{◌+◌, length}
use Rattle.ray_exec.proofs.drawing.+fn-fork-join+arg3+fork.Given as goal

-- the seats that are left, twice, since the call of the rest is a step of its own
abbrev pub decreases-join+arg3 : goal.decreases-join+arg3
decreases-join+arg3 g l = length l.seats.items + length l.seats.items + 1

abbrev pub decreases-fork : goal.decreases-fork
decreases-fork g l = length l.seats.items + length l.seats.items
