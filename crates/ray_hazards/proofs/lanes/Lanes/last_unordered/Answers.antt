use Rattle.std.proofs.Common.{max, subst, sym, ◌∙◌}
use Rattle.ray_rules.specs.declared.stage.Stage.TheVariants.{Transfer, Build, StructureCopy, Compute}
use Rattle.ray_hazards.specs.Lanes.{AnyUnordered}
use Rattle.ray_hazards.specs.Lasts.{IsLast}
use Rattle.ray_hazards.proofs.Lasts.{last-either}
use Rattle.ray_hazards.proofs.Laning.{reads-last}
use Rattle.ray_hazards.proofs.lanes.Lanes.last_unordered.Goals as goal

pub returns : goal.returns
returns c = λ counted starts n to are ordered.
    let a = c.greatest_above-transfers.result in
    let b = c.greatest_above-builds.result in
    let d = c.greatest_above-copies.result in
    let e = c.greatest_above-traces.result in
    let p = c.args.start in
    let q = c.args.end in
    let whole = c.greater-3.ensures ∙ (λ i. max (c.greater.ensures i) (c.greater-2.ensures i)) in
    subst (IsLast (AnyUnordered counted starts n to p q) n) (sym whole)
    (last-either _ _ n (max a b) (max d e)
    (last-either _ _ n a b
    (reads-last counted starts Transfer n c.args.self.now.transfer_reads to p q _ _ are.transfer_reads c.greatest_above-transfers.ensures ordered.transfers)
    (reads-last counted starts Build n c.args.self.now.build_reads to p q _ _ are.build_reads c.greatest_above-builds.ensures ordered.builds))
    (last-either _ _ n d e
    (reads-last counted starts StructureCopy n c.args.self.now.copy_reads to p q _ _ are.copy_reads c.greatest_above-copies.ensures ordered.copies)
    (reads-last counted starts Compute n c.args.self.now.trace_reads to p q _ _ are.trace_reads c.greatest_above-traces.ensures ordered.traces)))
