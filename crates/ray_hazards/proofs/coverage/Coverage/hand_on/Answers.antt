use Rattle.std.proofs.Common.{◌∙◌, None, Some, refl}
use Rattle.ray_chains.specs.declared.access_type.AccessType.TheVariants.{TransferWrite, StructureWrite, ShaderWrite}
use Rattle.ray_chains.specs.declared.stage.Stage.TheVariants.{Transfer, Build, StructureCopy, Compute}
use Rattle.ray_chains.specs.QueueLaws.{source_of}
use Rattle.ray_hazards.proofs.Carrying.{takes-own}
use Rattle.ray_hazards.proofs.coverage.Coverage.hand_on.Goals as goal

pub returns : goal.returns
returns c = λ a queue are event is. record {
  chains = c.barrier-self.ensures.next a.events queue None event refl is.chains;
  transfers =
      c.hand_on.ensures a (source_of queue Transfer (Some TransferWrite)) queue are event
      (c.takes_directly-transfer.ensures ∙ takes-own queue c.args.barrier.now Transfer TransferWrite) is.transfers;
  builds =
      c.hand_on-2.ensures a (source_of queue Build (Some StructureWrite)) queue are event
      (c.takes_directly-build.ensures ∙ takes-own queue c.args.barrier.now Build StructureWrite) is.builds;
  properties =
      c.hand_on-3.ensures a (source_of queue Build (Some TransferWrite)) queue are event
      (c.takes_directly-property.ensures ∙ takes-own queue c.args.barrier.now Build TransferWrite) is.properties;
  copies =
      c.hand_on-4.ensures a (source_of queue StructureCopy (Some StructureWrite)) queue are event
      (c.takes_directly-copy.ensures ∙ takes-own queue c.args.barrier.now StructureCopy StructureWrite) is.copies;
  serialized =
      c.hand_on-5.ensures a (source_of queue StructureCopy (Some TransferWrite)) queue are event
      (c.takes_directly-bytes.ensures ∙ takes-own queue c.args.barrier.now StructureCopy TransferWrite) is.serialized;
  traces =
      c.hand_on-6.ensures a (source_of queue Compute (Some ShaderWrite)) queue are event
      (c.takes_directly-trace.ensures ∙ takes-own queue c.args.barrier.now Compute ShaderWrite) is.traces;
}
