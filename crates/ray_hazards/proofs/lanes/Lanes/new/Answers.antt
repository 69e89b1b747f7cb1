use Rattle.std.proofs.Common.{sym, ◌∙◌}
use Rattle.ray_rules.specs.declared.access_type.AccessType.TheVariants.{TransferWrite, StructureWrite, ShaderWrite}
use Rattle.ray_rules.specs.declared.stage.Stage.TheVariants.{Transfer, Build, StructureCopy, Compute}
use Rattle.ray_hazards.proofs.Laning.{no_reads, no_writes}
use Rattle.ray_hazards.proofs.lanes.Lanes.new.Goals as goal

pub returns : goal.returns
returns c = λ counted starts n e nothing. record {
  transfers =
      no_writes counted starts Transfer TransferWrite n _ nothing (c.new-transfers.ensures.cells ∙ sym e) c.new-transfers.ensures.marks;
  builds =
      no_writes counted starts Build StructureWrite n _ nothing (c.new-builds.ensures.cells ∙ sym e) c.new-builds.ensures.marks;
  properties =
      no_writes counted starts Build TransferWrite n _ nothing (c.new-properties.ensures.cells ∙ sym e) c.new-properties.ensures.marks;
  copies =
      no_writes counted starts StructureCopy StructureWrite n _ nothing (c.new-copies.ensures.cells ∙ sym e) c.new-copies.ensures.marks;
  serialized =
      no_writes counted starts StructureCopy TransferWrite n _ nothing (c.new-serialized.ensures.cells ∙ sym e) c.new-serialized.ensures.marks;
  traces =
      no_writes counted starts Compute ShaderWrite n _ nothing (c.new-traces.ensures.cells ∙ sym e) c.new-traces.ensures.marks;
  transfer_reads =
      no_reads counted starts Transfer n _ nothing (c.new-transfer_reads.ensures.cells ∙ sym e) c.new-transfer_reads.ensures.marks;
  build_reads =
      no_reads counted starts Build n _ nothing (c.new-build_reads.ensures.cells ∙ sym e) c.new-build_reads.ensures.marks;
  copy_reads =
      no_reads counted starts StructureCopy n _ nothing (c.new-copy_reads.ensures.cells ∙ sym e) c.new-copy_reads.ensures.marks;
  trace_reads =
      no_reads counted starts Compute n _ nothing (c.new-trace_reads.ensures.cells ∙ sym e) c.new-trace_reads.ensures.marks;
}
