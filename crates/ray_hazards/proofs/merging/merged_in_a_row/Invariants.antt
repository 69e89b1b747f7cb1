use Rattle.std.proofs.Common.{◌++◌, take}
use Rattle.std.specs.Option.{option_to_list}
use Rattle.ray_hazards.specs.Reaching.{ReachSame}
use Rattle.ray_hazards.proofs.merging.merged_in_a_row.Given as goal

-- what is done and the last one reach the same as the touches so far
abbrev pub invariant-loop-touch : goal.invariant-loop-touch
invariant-loop-touch l =
    ReachSame l.cells (take l.touch-index l.touches) (l.merged.items ++ option_to_list l.last)
