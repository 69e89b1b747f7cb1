use Rattle.std.proofs.Common.{None, refl, sym}
use Rattle.ray_chains.specs.declared.stage.Stage.TheVariants.{Transfer, Build, StructureCopy, Compute}
use Rattle.ray_chains.specs.QueueLaws.{source_of}
use Rattle.ray_rules.specs.Order.{always}
use Rattle.ray_queues.specs.Events.{event_at}
use Rattle.ray_queues.proofs.sources.Sources.begin.Goals as goal

pub returns : goal.returns
returns c = λ q from at n waits is met z. record {
  transfer =
      c.on_device.ensures.begin always (event_at q) (source_of from Transfer None) at n waits is refl (sym met.transfer) z.transfer;
  build =
      c.on_device-2.ensures.begin always (event_at q) (source_of from Build None) at n waits is refl (sym met.build) z.build;
  structure_copy =
      c.on_device-3.ensures.begin always (event_at q) (source_of from StructureCopy None) at n waits is refl (sym met.structure_copy) z.structure_copy;
  compute =
      c.on_device-4.ensures.begin always (event_at q) (source_of from Compute None) at n waits is refl (sym met.compute) z.compute;
}
