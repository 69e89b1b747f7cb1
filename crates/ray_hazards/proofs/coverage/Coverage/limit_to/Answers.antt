use Rattle.std.proofs.Common.{◌∙◌, Some, ap}
use Rattle.std.proofs.lemmas.Result.{on_ok_weaker}
use Rattle.ray_chains.specs.Queues.{acts_on_all}
use Rattle.ray_chains.proofs.Keeping.{chains-stay}
use Rattle.ray_chains.specs.declared.access_type.AccessType.TheVariants.{TransferWrite, StructureWrite, ShaderWrite}
use Rattle.ray_chains.specs.declared.stage.Stage.TheVariants.{Transfer, Build, StructureCopy, Compute}
use Rattle.ray_chains.specs.QueueLaws.{source_of}
use Rattle.ray_hazards.proofs.Carrying.{takes-own}
use Rattle.ray_hazards.proofs.coverage.Coverage.limit_to.Goals as goal

pub returns : goal.returns
returns c =
    on_ok_weaker c.limit_to-6.result (λ last a queue ids are event named is. record {
      chains = chains-stay a.events queue c.args.n c.args.self.now.chains (λ h. ap acts_on_all event) is.chains;
      transfers =
          c.in_ok-limit_to.ensures a (source_of queue Transfer (Some TransferWrite)) queue ids are event
          (c.takes_directly-transfer.ensures ∙ takes-own queue c.args.barrier.now Transfer TransferWrite) named is.chains is.transfers;
      builds =
          c.in_ok-limit_to-2.ensures a (source_of queue Build (Some StructureWrite)) queue ids are event
          (c.takes_directly-build.ensures ∙ takes-own queue c.args.barrier.now Build StructureWrite) named is.chains is.builds;
      properties =
          c.in_ok-limit_to-3.ensures a (source_of queue Build (Some TransferWrite)) queue ids are event
          (c.takes_directly-property.ensures ∙ takes-own queue c.args.barrier.now Build TransferWrite) named is.chains is.properties;
      copies =
          c.in_ok-limit_to-4.ensures a (source_of queue StructureCopy (Some StructureWrite)) queue ids are event
          (c.takes_directly-copy.ensures ∙ takes-own queue c.args.barrier.now StructureCopy StructureWrite) named is.chains is.copies;
      serialized =
          c.in_ok-limit_to-5.ensures a (source_of queue StructureCopy (Some TransferWrite)) queue ids are event
          (c.takes_directly-bytes.ensures ∙ takes-own queue c.args.barrier.now StructureCopy TransferWrite) named is.chains is.serialized;
      traces =
          last a (source_of queue Compute (Some ShaderWrite)) queue ids are event
          (c.takes_directly-trace.ensures ∙ takes-own queue c.args.barrier.now Compute ShaderWrite) named is.chains is.traces;
    })
    c.limit_to-6.ensures
