use Rattle.ray_rules.specs.declared.access_type.AccessType.TheVariants.{TransferWrite, StructureWrite, ShaderWrite}
use Rattle.ray_rules.specs.declared.stage.Stage.TheVariants.{Transfer, Build, StructureCopy, Compute}
use Rattle.ray_sync.specs.OneQueue.{one_queue}
use Rattle.ray_sync.proofs.Linked.{covered-from}
use Rattle.ray_sync.proofs.OneQueue.{one-queue-acts}
use Rattle.ray_sync.proofs.hazards.limits_to.Goals as goal

pub returns : goal.returns
returns c = λ rec n is.
    let at = c.args.accessed in
    let stage = c.chain_stage-stage.ensures in
    let access = c.chain_access-access.ensures in
    let reached = c.limits.ensures (one_queue rec) 0 n (one-queue-acts rec) is in
    record {
      transfers = λ i by.
          covered-from rec Transfer TransferWrite at.thing n at.stage at.access _ _ _ stage access reached.transfers i;
      builds = λ i by.
          covered-from rec Build StructureWrite at.thing n at.stage at.access _ _ _ stage access reached.builds i;
      properties = λ i by.
          covered-from rec Build TransferWrite at.thing n at.stage at.access _ _ _ stage access reached.properties i;
      copies = λ i by.
          covered-from rec StructureCopy StructureWrite at.thing n at.stage at.access _ _ _ stage access reached.copies i;
      serialized = λ i by.
          covered-from rec StructureCopy TransferWrite at.thing n at.stage at.access _ _ _ stage access reached.serialized i;
      traces = λ i by.
          covered-from rec Compute ShaderWrite at.thing n at.stage at.access _ _ _ stage access reached.traces i;
    }
