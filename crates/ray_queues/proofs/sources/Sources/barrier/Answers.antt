use Rattle.std.proofs.Common.{None, refl}
use Rattle.ray_chains.specs.declared.stage.Stage.TheVariants.{Transfer, Build, StructureCopy, Compute}
use Rattle.ray_chains.specs.QueueLaws.{source_of}
use Rattle.ray_rules.specs.Order.{always}
use Rattle.ray_queues.specs.Events.{event_at}
use Rattle.ray_queues.proofs.Moving.{taken}
use Rattle.ray_queues.proofs.sources.Sources.barrier.Goals as goal

pub returns : goal.returns
returns c = λ q from at is own z. record {
  transfer =
      c.barrier.ensures.next always (event_at q) (source_of from Transfer None) at is.buffers is.is refl
      (taken _ c.args.own _ _ c.direct-transfers.ensures own) z.transfer;
  build =
      c.barrier-2.ensures.next always (event_at q) (source_of from Build None) at is.buffers is.is refl
      (taken _ c.args.own _ _ c.direct-builds.ensures own) z.build;
  structure_copy =
      c.barrier-3.ensures.next always (event_at q) (source_of from StructureCopy None) at is.buffers is.is refl
      (taken _ c.args.own _ _ c.direct-copies.ensures own) z.structure_copy;
  compute =
      c.barrier-4.ensures.next always (event_at q) (source_of from Compute None) at is.buffers is.is refl
      (taken _ c.args.own _ _ c.direct-traces.ensures own) z.compute;
}
