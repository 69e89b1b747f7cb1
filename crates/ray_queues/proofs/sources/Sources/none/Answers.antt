use Rattle.ray_chains.specs.declared.stage.Stage.TheVariants.{Transfer, Build, StructureCopy, Compute}
use Rattle.ray_rules.specs.Order.{always}
use Rattle.ray_queues.specs.Sources.{steps_from}
use Rattle.ray_queues.proofs.sources.Sources.none.Goals as goal

pub returns : goal.returns
returns c = λ q from at. record {
  transfer = c.none.ensures.first always (steps_from q from Transfer) at;
  build = c.none-2.ensures.first always (steps_from q from Build) at;
  structure_copy = c.none-3.ensures.first always (steps_from q from StructureCopy) at;
  compute = c.none-4.ensures.first always (steps_from q from Compute) at;
}
