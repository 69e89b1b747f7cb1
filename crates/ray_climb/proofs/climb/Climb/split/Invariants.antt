use Rattle.std.proofs.Common.{◌-◌, length}
use Rattle.ray_climb.proofs.climb.Climb.split.Given as goal

-- the cut is told how many leaves the old seat keeps
abbrev pub ghosts-cut : goal.ghosts-cut
ghosts-cut a = record { keep = length a.seat.now.todo - a._take }
