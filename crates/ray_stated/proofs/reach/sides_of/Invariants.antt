use Rattle.std.proofs.Common.{◌≡◌, take}
use Rattle.std.specs.List.{fold}
use Rattle.ray_stated.specs.Reaches.{no_sides, widened}
use Rattle.ray_stated.proofs.reach.sides_of.Given as goal

abbrev pub invariant-loop-entry : goal.invariant-loop-entry
invariant-loop-entry l = l.sides ≡ fold widened no_sides (take l.entry-index l.entries)
