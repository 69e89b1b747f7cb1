use Rattle.std.proofs.Common.{◌≡◌, ◌∙◌, ◌+◌, suc, refl, sym, ap, subst, arith}
use Rattle.ray_marks.specs.Rising.{mark_of}
use Rattle.ray_rules.specs.declared.access_type.AccessType.TheVariants.{StructureWrite, TransferWrite, ShaderWrite}
use Rattle.ray_rules.specs.declared.stage.Stage.TheVariants.{Build, Compute, StructureCopy, Transfer}
use Rattle.ray_hazards.specs.Lasts.{has_it, is_by, marked_if, reads_at}
use Rattle.ray_hazards.specs.Reaching.{ReachSame}
use Rattle.ray_hazards.proofs.Laning.{reads-more, reads-same, stages-differ, writes-more, writes-same}
use Rattle.ray_hazards.proofs.lanes.Lanes.mark_copy.Goals as goal

pub returns : goal.returns
returns c = λ counted by reads writes are.
    let starts = c.args.cells.now in
    let n = c.args.n in
    let more : n + 1 ≡ suc n = omega arith in
    record {
      transfers = writes-same counted starts Transfer TransferWrite n _ (λ e. stages-differ StructureCopy Transfer refl refl by e) are.transfers;
      builds = writes-same counted starts Build StructureWrite n _ (λ e. stages-differ StructureCopy Build refl refl by e) are.builds;
      properties = writes-same counted starts Build TransferWrite n _ (λ e. stages-differ StructureCopy Build refl refl by e) are.properties;
      copies =
          writes-more counted starts StructureCopy StructureWrite n c.as_slice-writes.result.now c.args.self.now.copies c.mark_writes.new.marks by
          (c.as_slice-writes.ensures.value ∙ writes) c.in_ok-mark_writes.ensures.cells
          (λ k. c.in_ok-mark_writes.ensures.marks k
          ∙ ap (λ v. marked_if (is_by starts StructureWrite) c.as_slice-writes.result.now v (mark_of c.args.self.now.copies k) k) more)
          are.copies;
      serialized =
          writes-more counted starts StructureCopy TransferWrite n c.as_slice-writes.result.now c.args.self.now.serialized c.mark_writes-2.new.marks by
          (c.as_slice-writes.ensures.value ∙ writes) c.in_ok-mark_writes-2.ensures.cells
          (λ k. c.in_ok-mark_writes-2.ensures.marks k
          ∙ ap (λ v. marked_if (is_by starts TransferWrite) c.as_slice-writes.result.now v (mark_of c.args.self.now.serialized k) k) more)
          are.serialized;
      traces = writes-same counted starts Compute ShaderWrite n _ (λ e. stages-differ StructureCopy Compute refl refl by e) are.traces;
      transfer_reads = reads-same counted starts Transfer n _ (λ e. stages-differ StructureCopy Transfer refl refl by e) are.transfer_reads;
      build_reads = reads-same counted starts Build n _ (λ e. stages-differ StructureCopy Build refl refl by e) are.build_reads;
      copy_reads =
          reads-more counted starts StructureCopy n c.as_slice-reads.result.now c.args.self.now.copy_reads c.mark_reads.new.marks by
          (subst (ReachSame starts (reads_at counted.commands n)) (sym c.as_slice-reads.ensures.value) reads) c.in_ok-mark_reads.ensures.cells
          (λ k. c.in_ok-mark_reads.ensures.marks k
          ∙ ap (λ v. marked_if (has_it starts) c.as_slice-reads.result.now v (mark_of c.args.self.now.copy_reads k) k) more)
          are.copy_reads;
      trace_reads = reads-same counted starts Compute n _ (λ e. stages-differ StructureCopy Compute refl refl by e) are.trace_reads;
    }
