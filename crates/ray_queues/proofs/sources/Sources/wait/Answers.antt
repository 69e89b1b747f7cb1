use Rattle.std.proofs.Common.{None, refl}
use Rattle.ray_chains.specs.declared.stage.Stage.TheVariants.{Transfer, Build, StructureCopy, Compute}
use Rattle.ray_chains.specs.QueueLaws.{source_of}
use Rattle.ray_rules.specs.Order.{always}
use Rattle.ray_queues.specs.Events.{event_at}
use Rattle.ray_queues.proofs.sources.Sources.wait.Goals as goal

pub returns : goal.returns
returns c = λ q from at is z. record {
  transfer = c.on_device.ensures.wait always (event_at q) (source_of from Transfer None) at is refl z.transfer;
  build = c.on_device-2.ensures.wait always (event_at q) (source_of from Build None) at is refl z.build;
  structure_copy = c.on_device-3.ensures.wait always (event_at q) (source_of from StructureCopy None) at is refl z.structure_copy;
  compute = c.on_device-4.ensures.wait always (event_at q) (source_of from Compute None) at is refl z.compute;
}
