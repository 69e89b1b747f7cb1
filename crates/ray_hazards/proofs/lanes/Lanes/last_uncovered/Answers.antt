use Rattle.std.proofs.Common.{max, subst, sym, ◌∙◌}
use Rattle.ray_rules.specs.declared.access_type.AccessType.TheVariants.{TransferWrite, StructureWrite, ShaderWrite}
use Rattle.ray_rules.specs.declared.stage.Stage.TheVariants.{Transfer, Build, StructureCopy, Compute}
use Rattle.ray_hazards.specs.Lanes.{AnyUncovered}
use Rattle.ray_hazards.specs.Lasts.{IsLast}
use Rattle.ray_hazards.proofs.Laning.{writes-last}
use Rattle.ray_hazards.proofs.Lasts.{last-either}
use Rattle.ray_hazards.proofs.lanes.Lanes.last_uncovered.Goals as goal

pub returns : goal.returns
returns c = λ counted starts n accessed are covered.
    let at = accessed in
    let p = c.args.start in
    let q = c.args.end in
    let a = c.greatest_above-transfers.result in
    let b = c.greatest_above-builds.result in
    let d = c.greatest_above-properties.result in
    let e = c.greatest_above-copies.result in
    let f = c.greatest_above-serialized.result in
    let g = c.greatest_above-traces.result in
    let whole =
    c.greater-5.ensures
    ∙ (λ i. max ((c.greater-3.ensures ∙ (λ j. max (c.greater.ensures j) (c.greater-2.ensures j))) i) (c.greater-4.ensures i))
    in
    subst (IsLast (AnyUncovered counted starts at.thing n at.stage at.access p q) n) (sym whole)
    (last-either _ _ n (max (max a b) (max d e)) (max f g)
    (last-either _ _ n (max a b) (max d e)
    (last-either _ _ n a b
    (writes-last counted starts Transfer TransferWrite n _ at p q _ _ are.transfers c.greatest_above-transfers.ensures covered.transfers)
    (writes-last counted starts Build StructureWrite n _ at p q _ _ are.builds c.greatest_above-builds.ensures covered.builds))
    (last-either _ _ n d e
    (writes-last counted starts Build TransferWrite n _ at p q _ _ are.properties c.greatest_above-properties.ensures covered.properties)
    (writes-last counted starts StructureCopy StructureWrite n _ at p q _ _ are.copies c.greatest_above-copies.ensures covered.copies)))
    (last-either _ _ n f g
    (writes-last counted starts StructureCopy TransferWrite n _ at p q _ _ are.serialized c.greatest_above-serialized.ensures covered.serialized)
    (writes-last counted starts Compute ShaderWrite n _ at p q _ _ are.traces c.greatest_above-traces.ensures covered.traces)))
