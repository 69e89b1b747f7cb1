-- What pieces give, as ray_action's outputs. (Own.)
use Rattle.ray_action.specs.Memory as memory
use Rattle.ray_action.specs.Outcomes as outcomes
use Rattle.ray_bottom.specs.Trees as bottoms
use Rattle.ray_top.specs.Trees as tops
use Rattle.ray_device.specs.declared.output.Output.{Output}
use Rattle.ray_device.specs.declared.output.Output.TheVariants as outputs
use Rattle.ray_device.specs.declared.piece.Piece.{Piece}

-- the output of ray_action that an output of the program is
abbrev pub given : Output → outcomes.Output
given outputs.Nothing = outcomes.Nothing
given (outputs.Bytes bytes) = outcomes.Bytes bytes.items
given (outputs.Bottom bottom) = outcomes.Holds (memory.Bottom (bottoms.without_tree bottom))
given (outputs.Top top) = outcomes.Holds (memory.Top (tops.without_tree top))

-- a piece with its output
pub record Fetched : Type 0 where
  pub piece : Piece
  pub output : outcomes.Output
