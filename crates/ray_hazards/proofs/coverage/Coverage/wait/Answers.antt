use Rattle.std.proofs.Common.{Some}
use Rattle.ray_chains.specs.declared.access_type.AccessType.TheVariants.{TransferWrite, StructureWrite, ShaderWrite}
use Rattle.ray_chains.specs.declared.stage.Stage.TheVariants.{Transfer, Build, StructureCopy, Compute}
use Rattle.ray_chains.specs.QueueLaws.{source_of}
use Rattle.ray_hazards.proofs.coverage.Coverage.wait.Goals as goal

pub returns : goal.returns
returns c = λ a queue are event is. record {
  chains = c.wait-self.ensures.next a.events queue event is.chains;
  transfers = c.wait.ensures a (source_of queue Transfer (Some TransferWrite)) queue are event is.transfers;
  builds = c.wait-2.ensures a (source_of queue Build (Some StructureWrite)) queue are event is.builds;
  properties = c.wait-3.ensures a (source_of queue Build (Some TransferWrite)) queue are event is.properties;
  copies = c.wait-4.ensures a (source_of queue StructureCopy (Some StructureWrite)) queue are event is.copies;
  serialized = c.wait-5.ensures a (source_of queue StructureCopy (Some TransferWrite)) queue are event is.serialized;
  traces = c.wait-6.ensures a (source_of queue Compute (Some ShaderWrite)) queue are event is.traces;
}
