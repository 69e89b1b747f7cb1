-- How many of a list pass a test is at most how many there are.
use Rattle.std.proofs.lemmas.List.Sums.{count_by-le-length}

pub ruleset counting = (count_by-le-length)
