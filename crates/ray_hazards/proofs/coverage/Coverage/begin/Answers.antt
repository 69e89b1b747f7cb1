use Rattle.std.proofs.Common.{Some, None}
use Rattle.ray_chains.specs.declared.access_type.AccessType.TheVariants.{TransferWrite, StructureWrite, ShaderWrite}
use Rattle.ray_chains.specs.declared.stage.Stage.TheVariants.{Transfer, Build, StructureCopy, Compute}
use Rattle.ray_chains.specs.QueueLaws.{source_of}
use Rattle.ray_hazards.proofs.coverage.Coverage.begin.Goals as goal

pub returns : goal.returns
returns c = λ a queue waits are event met is. record {
  chains = c.begin-self.ensures.next a.events queue waits Transfer None event (met Transfer None) is.chains;
  transfers = c.begin.ensures a (source_of queue Transfer (Some TransferWrite)) queue c.args.n waits are event (met Transfer (Some TransferWrite)) is.transfers;
  builds = c.begin-2.ensures a (source_of queue Build (Some StructureWrite)) queue c.args.n waits are event (met Build (Some StructureWrite)) is.builds;
  properties = c.begin-3.ensures a (source_of queue Build (Some TransferWrite)) queue c.args.n waits are event (met Build (Some TransferWrite)) is.properties;
  copies = c.begin-4.ensures a (source_of queue StructureCopy (Some StructureWrite)) queue c.args.n waits are event (met StructureCopy (Some StructureWrite)) is.copies;
  serialized = c.begin-5.ensures a (source_of queue StructureCopy (Some TransferWrite)) queue c.args.n waits are event (met StructureCopy (Some TransferWrite)) is.serialized;
  traces = c.begin-6.ensures a (source_of queue Compute (Some ShaderWrite)) queue c.args.n waits are event (met Compute (Some ShaderWrite)) is.traces;
}
