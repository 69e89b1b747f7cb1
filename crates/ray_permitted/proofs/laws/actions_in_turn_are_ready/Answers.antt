use Rattle.ray_permitted.proofs.InTurn.{in_turn_reads, in_turn_ready}
use Rattle.ray_permitted.proofs.laws.actions_in_turn_are_ready.Goals as goal

pub returns : goal.returns
returns c = record { ready = in_turn_ready; reads = in_turn_reads }
