use Rattle.std.proofs.Common.{Some}
use Rattle.ray_chains.specs.declared.access_type.AccessType.TheVariants.{TransferWrite, StructureWrite, ShaderWrite}
use Rattle.ray_chains.specs.declared.stage.Stage.TheVariants.{Transfer, Build, StructureCopy, Compute}
use Rattle.ray_chains.specs.QueueLaws.{source_of}
use Rattle.ray_hazards.proofs.coverage.Coverage.limits.Goals as goal

pub returns : goal.returns
returns c = λ a queue n are is. record {
  transfers = c.limit.ensures a (source_of queue Transfer (Some TransferWrite)) queue n are is.transfers is.chains;
  builds = c.limit-2.ensures a (source_of queue Build (Some StructureWrite)) queue n are is.builds is.chains;
  properties = c.limit-3.ensures a (source_of queue Build (Some TransferWrite)) queue n are is.properties is.chains;
  copies = c.limit-4.ensures a (source_of queue StructureCopy (Some StructureWrite)) queue n are is.copies is.chains;
  serialized = c.limit-5.ensures a (source_of queue StructureCopy (Some TransferWrite)) queue n are is.serialized is.chains;
  traces = c.limit-6.ensures a (source_of queue Compute (Some ShaderWrite)) queue n are is.traces is.chains;
}
