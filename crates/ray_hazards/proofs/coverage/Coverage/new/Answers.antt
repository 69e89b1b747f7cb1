use Rattle.std.proofs.Common.{Some}
use Rattle.ray_chains.specs.declared.access_type.AccessType.TheVariants.{TransferWrite, StructureWrite, ShaderWrite}
use Rattle.ray_chains.specs.declared.stage.Stage.TheVariants.{Transfer, Build, StructureCopy, Compute}
use Rattle.ray_chains.specs.QueueLaws.{source_of}
use Rattle.ray_hazards.proofs.coverage.Coverage.new.Goals as goal

pub returns : goal.returns
returns c = λ a queue. record {
  chains = c.none.ensures.first a.events queue;
  transfers = c.new.ensures a (source_of queue Transfer (Some TransferWrite)) queue;
  builds = c.new-2.ensures a (source_of queue Build (Some StructureWrite)) queue;
  properties = c.new-3.ensures a (source_of queue Build (Some TransferWrite)) queue;
  copies = c.new-4.ensures a (source_of queue StructureCopy (Some StructureWrite)) queue;
  serialized = c.new-5.ensures a (source_of queue StructureCopy (Some TransferWrite)) queue;
  traces = c.new-6.ensures a (source_of queue Compute (Some ShaderWrite)) queue;
}
