use Rattle.ray_rules.proofs.Touching.{pieces}
use Rattle.ray_rules.proofs.laws.pieces_are_of_commands.Goals as goal

pub returns : goal.returns
returns c = pieces
