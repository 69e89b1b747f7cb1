use Rattle.std.proofs.Common.{ℕ}
use Rattle.ray_chains.proofs.Waves.{waves-are-longest}
use Rattle.ray_chains.proofs.laws.waves_are_longest.Goals as goal

pub returns : goal.returns
returns c = waves-are-longest ℕ
