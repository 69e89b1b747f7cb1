-- What lanes tell of the last command, and how they go on.
use Rattle.std.proofs.Common.{◌≡◌, ◌+◌, ℕ, suc, Bool, true, false, List, Option, Some, None, refl, sym, ◌∙◌, ap, subst, inl, inr, arith, length}
use Rattle.std.specs.List.{list_any}
use Rattle.ray_access.specs.declared.touched.Touched.{Touched}
use Rattle.ray_marks.specs.Rising.{IsGreatest, mark_of}
use Rattle.ray_rules.specs.declared.access_type.AccessType.{AccessType}
use Rattle.ray_rules.specs.declared.access_type.AccessType.TheVariants.{ShaderWrite, StructureWrite, TransferWrite}
use Rattle.ray_rules.specs.declared.stage.Stage.{Stage}
use Rattle.ray_rules.specs.declared.stage.Stage.TheVariants.{Build, Compute, Host, StructureCopy, Transfer}
use Rattle.ray_hazards.specs.declared.lanes.Lanes.{Lanes}
use Rattle.ray_hazards.specs.declared.limits.Accessed.{Accessed}
use Rattle.ray_hazards.specs.Counting.{Counted, stage_in}
use Rattle.ray_hazards.specs.Lanes.{AnyUncovered, AnyUnordered, AreBelow, AreEnough, AreLanes, AreReads, AreWrites, IsCoveredBelow, IsOrderedBelow, LanesBelow, NoneCounts}
use Rattle.ray_hazards.specs.Lasts.{IsLast, ReadCell, UncoveredIn, UnorderedIn, WroteCell, marked_if, has_it, is_by, reads_at, writes_at}
use Rattle.ray_hazards.specs.Reaching.{ReachSame}
use Rattle.ray_hazards.proofs.Reaching.{reach-cells}
use Rattle.ray_hazards.proofs.Lasts.{last-cells, last-like, last-nothing, last-step}

-- the last command of a lane that isn't covered
pub writes-last :
    (counted : Counted) (starts : List ℕ) (stage : Stage) (way : AccessType) (n : ℕ) (marks : List ℕ)
    (accessed : Accessed) (p q g limit : ℕ) → AreWrites counted starts stage way n marks → IsGreatest marks limit p q g
    → IsCoveredBelow counted n accessed stage way limit
    → IsLast (UncoveredIn counted starts stage way accessed.thing n accessed.stage accessed.access p q) n g
writes-last counted starts stage way n marks accessed p q g limit are great tells =
    last-like _ _ n g (λ i l e. record { cell = e.0; uncovered = e.1 }) (λ i l u. (u.cell, u.uncovered))
    (last-cells (WroteCell counted starts stage way) (λ i. counted.order.covered i stage way accessed.thing n accessed.stage accessed.access) marks n limit p q g (λ c i wrote. tells i wrote.by) great are.last)

-- and of what was read and isn't ordered
pub reads-last :
    (counted : Counted) (starts : List ℕ) (stage : Stage) (n : ℕ) (marks : List ℕ) (to : Stage)
    (p q g limit : ℕ) → AreReads counted starts stage n marks → IsGreatest marks limit p q g
    → IsOrderedBelow counted n to stage limit
    → IsLast (UnorderedIn counted starts stage n to p q) n g
reads-last counted starts stage n marks to p q g limit are great tells =
    last-like _ _ n g (λ i l e. record { cell = e.0; unordered = e.1 }) (λ i l u. (u.cell, u.unordered))
    (last-cells (ReadCell counted starts stage) (λ i. counted.order.ordered i stage n to) marks n limit p q g (λ c i read. tells i read.by) great are.last)

-- none is no stage
pub none-some : {o : Option Stage} {stage : Stage} → o ≡ None → o ≡ Some stage → ⊥
none-some {stage = stage} e f =
    let apart : None ≡ Some stage = sym e ∙ f in
    absurd cc

-- no command that counts has read
pub no_reads :
    (counted : Counted) (starts : List ℕ) (stage : Stage) (n : ℕ) (marks : List ℕ) → NoneCounts counted n
    → length marks ≡ length starts → ((c : ℕ) → mark_of marks c ≡ 0) → AreReads counted starts stage n marks
no_reads counted starts stage n marks nothing cells none = record {
  cells = cells;
  last = λ c.
      subst (IsLast (ReadCell counted starts stage c) n) (sym (none c))
      (last-nothing (ReadCell counted starts stage c) n (λ i l p. none-some (nothing i l) p.by));
}

-- nor written
pub no_writes :
    (counted : Counted) (starts : List ℕ) (stage : Stage) (access : AccessType) (n : ℕ) (marks : List ℕ)
    → NoneCounts counted n → length marks ≡ length starts → ((c : ℕ) → mark_of marks c ≡ 0)
    → AreWrites counted starts stage access n marks
no_writes counted starts stage access n marks nothing cells none = record {
  cells = cells;
  last = λ c.
      subst (IsLast (WroteCell counted starts stage access c) n) (sym (none c))
      (last-nothing (WroteCell counted starts stage access c) n (λ i l p. none-some (nothing i l) p.by));
}

-- what one more command of the stage wrote
pub writes-more :
    (counted : Counted) (starts : List ℕ) (stage : Stage) (access : AccessType) (n : ℕ) (ts : List Touched)
    (old new : List ℕ) → stage_in counted n ≡ Some stage → ts ≡ writes_at counted.commands n → length new ≡ length old
    → ((c : ℕ) → mark_of new c ≡ marked_if (is_by starts access) ts (suc n) (mark_of old c) c)
    → AreWrites counted starts stage access n old → AreWrites counted starts stage access (suc n) new
writes-more counted starts stage access n ts old new by same cells marks are = record {
  cells = cells ∙ are.cells;
  last = λ c.
      last-step (WroteCell counted starts stage access c) n (mark_of old c) (mark_of new c)
      (list_any (is_by starts access c) ts) (λ w. ap (list_any (is_by starts access c)) same ∙ w.touch)
      (λ t. record { by = by; touch = ap (list_any (is_by starts access c)) (sym same) ∙ t }) (marks c) (are.last c);
}

-- what one of another stage wrote
pub writes-same :
    (counted : Counted) (starts : List ℕ) (stage : Stage) (access : AccessType) (n : ℕ) (marks : List ℕ)
    → (stage_in counted n ≡ Some stage → ⊥) → AreWrites counted starts stage access n marks
    → AreWrites counted starts stage access (suc n) marks
writes-same counted starts stage access n marks other are = record {
  cells = are.cells;
  last = λ c.
      last-step (WroteCell counted starts stage access c) n (mark_of marks c) (mark_of marks c) false
      (λ w. absurd (other w.by)) (λ t. absurd cc) refl (are.last c);
}

-- and what it read
pub reads-more :
    (counted : Counted) (starts : List ℕ) (stage : Stage) (n : ℕ) (ts : List Touched) (old new : List ℕ)
    → stage_in counted n ≡ Some stage → ReachSame starts (reads_at counted.commands n) ts → length new ≡ length old
    → ((c : ℕ) → mark_of new c ≡ marked_if (has_it starts) ts (suc n) (mark_of old c) c)
    → AreReads counted starts stage n old → AreReads counted starts stage (suc n) new
reads-more counted starts stage n ts old new by same cells marks are = record {
  cells = cells ∙ are.cells;
  last = λ c.
      last-step (ReadCell counted starts stage c) n (mark_of old c) (mark_of new c) (list_any (has_it starts c) ts)
      (λ w. sym (reach-cells starts (reads_at counted.commands n) ts c same) ∙ w.touch)
      (λ t. record { by = by; touch = reach-cells starts (reads_at counted.commands n) ts c same ∙ t }) (marks c) (are.last c);
}

pub reads-same :
    (counted : Counted) (starts : List ℕ) (stage : Stage) (n : ℕ) (marks : List ℕ)
    → (stage_in counted n ≡ Some stage → ⊥) → AreReads counted starts stage n marks → AreReads counted starts stage (suc n) marks
reads-same counted starts stage n marks other are = record {
  cells = are.cells;
  last = λ c.
      last-step (ReadCell counted starts stage c) n (mark_of marks c) (mark_of marks c) false
      (λ w. absurd (other w.by)) (λ t. absurd cc) refl (are.last c);
}

-- a command has one stage: stages that a test tells apart are two
abbrev pub is-stage : Stage → Stage → Bool
is-stage Transfer Transfer = true
is-stage Build Build = true
is-stage StructureCopy StructureCopy = true
is-stage Compute Compute = true
is-stage _ _ = false

pub stages-differ :
    {o : Option Stage} (a b : Stage) → is-stage a b ≡ false → is-stage b b ≡ true → o ≡ Some a → o ≡ Some b → ⊥
stages-differ a b apart same p q =
    let e : Some a ≡ Some b = sym p ∙ q in
    let f : a ≡ b = cc in
    let g : is-stage a b ≡ true = ap (λ s. is-stage s b) f ∙ same in
    absurd cc

-- the cells of a range, told otherwise
pub moved :
    (counted : Counted) (starts : List ℕ) (thing : Option ℕ) (n : ℕ) (to : Stage) (x : AccessType) (p q a b r : ℕ)
    → IsLast (AnyUncovered counted starts thing n to x p q) n r → p ≡ a → q ≡ b
    → IsLast (AnyUncovered counted starts thing n to x a b) n r
moved counted starts thing n to x p q a b r last e f =
    subst (λ k. IsLast (AnyUncovered counted starts thing n to x a k) n r) f
    (subst (λ k. IsLast (AnyUncovered counted starts thing n to x k q) n r) e last)

pub moved-reads :
    (counted : Counted) (starts : List ℕ) (n : ℕ) (to : Stage) (p q a b r : ℕ)
    → IsLast (AnyUnordered counted starts n to p q) n r → p ≡ a → q ≡ b → IsLast (AnyUnordered counted starts n to a b) n r
moved-reads counted starts n to p q a b r last e f =
    subst (λ k. IsLast (AnyUnordered counted starts n to a k) n r) f
    (subst (λ k. IsLast (AnyUnordered counted starts n to k q) n r) e last)

-- lanes are of as many cells as there are starts, and no mark is above a number
writes-below :
    (counted : Counted) (starts : List ℕ) (stage : Stage) (access : AccessType) (n : ℕ) (marks : List ℕ)
    → AreWrites counted starts stage access n marks → AreBelow (length starts) (n + 1) marks
writes-below counted starts stage access n marks are = record {
  many = are.cells;
  below = λ c.
      elim (are.last c).there [
        | inl z ↦ omega arith
        | inr (i, l, p, e) ↦ omega arith
      ];
}

reads-below :
    (counted : Counted) (starts : List ℕ) (stage : Stage) (n : ℕ) (marks : List ℕ)
    → AreReads counted starts stage n marks → AreBelow (length starts) (n + 1) marks
reads-below counted starts stage n marks are = record {
  many = are.cells;
  below = λ c.
      elim (are.last c).there [
        | inl z ↦ omega arith
        | inr (i, l, p, e) ↦ omega arith
      ];
}

pub lanes-below :
    (counted : Counted) (starts : List ℕ) (n : ℕ) (lanes : Lanes) → AreLanes counted starts n lanes
    → LanesBelow (length starts) (n + 1) lanes
lanes-below counted starts n lanes are = record {
  transfers = writes-below counted starts Transfer TransferWrite n _ are.transfers;
  builds = writes-below counted starts Build StructureWrite n _ are.builds;
  properties = writes-below counted starts Build TransferWrite n _ are.properties;
  copies = writes-below counted starts StructureCopy StructureWrite n _ are.copies;
  serialized = writes-below counted starts StructureCopy TransferWrite n _ are.serialized;
  traces = writes-below counted starts Compute ShaderWrite n _ are.traces;
  transfer_reads = reads-below counted starts Transfer n _ are.transfer_reads;
  build_reads = reads-below counted starts Build n _ are.build_reads;
  copy_reads = reads-below counted starts StructureCopy n _ are.copy_reads;
  trace_reads = reads-below counted starts Compute n _ are.trace_reads;
}

pub lanes-enough :
    (counted : Counted) (starts : List ℕ) (n : ℕ) (lanes : Lanes) → AreLanes counted starts n lanes
    → AreEnough (length starts) lanes
lanes-enough counted starts n lanes are = record {
  transfers = let e = are.transfers.cells in omega arith;
  builds = let e = are.builds.cells in omega arith;
  properties = let e = are.properties.cells in omega arith;
  copies = let e = are.copies.cells in omega arith;
  serialized = let e = are.serialized.cells in omega arith;
  traces = let e = are.traces.cells in omega arith;
  transfer_reads = let e = are.transfer_reads.cells in omega arith;
  build_reads = let e = are.build_reads.cells in omega arith;
  copy_reads = let e = are.copy_reads.cells in omega arith;
  trace_reads = let e = are.trace_reads.cells in omega arith;
}

-- past a command of the host they stay
pub lanes-host :
    (counted : Counted) (starts : List ℕ) (n : ℕ) (lanes : Lanes) → stage_in counted n ≡ Some Host
    → AreLanes counted starts n lanes → AreLanes counted starts (suc n) lanes
lanes-host counted starts n lanes host are = record {
  transfers = writes-same counted starts Transfer TransferWrite n _ (stages-differ Host Transfer refl refl host) are.transfers;
  builds = writes-same counted starts Build StructureWrite n _ (stages-differ Host Build refl refl host) are.builds;
  properties = writes-same counted starts Build TransferWrite n _ (stages-differ Host Build refl refl host) are.properties;
  copies = writes-same counted starts StructureCopy StructureWrite n _ (stages-differ Host StructureCopy refl refl host) are.copies;
  serialized = writes-same counted starts StructureCopy TransferWrite n _ (stages-differ Host StructureCopy refl refl host) are.serialized;
  traces = writes-same counted starts Compute ShaderWrite n _ (stages-differ Host Compute refl refl host) are.traces;
  transfer_reads = reads-same counted starts Transfer n _ (stages-differ Host Transfer refl refl host) are.transfer_reads;
  build_reads = reads-same counted starts Build n _ (stages-differ Host Build refl refl host) are.build_reads;
  copy_reads = reads-same counted starts StructureCopy n _ (stages-differ Host StructureCopy refl refl host) are.copy_reads;
  trace_reads = reads-same counted starts Compute n _ (stages-differ Host Compute refl refl host) are.trace_reads;
}

-- past a command that doesn't count they stay
pub lanes-same :
    (counted : Counted) (starts : List ℕ) (n : ℕ) (lanes : Lanes) → stage_in counted n ≡ None
    → AreLanes counted starts n lanes → AreLanes counted starts (suc n) lanes
lanes-same counted starts n lanes none are = record {
  transfers = writes-same counted starts Transfer TransferWrite n _ (none-some none) are.transfers;
  builds = writes-same counted starts Build StructureWrite n _ (none-some none) are.builds;
  properties = writes-same counted starts Build TransferWrite n _ (none-some none) are.properties;
  copies = writes-same counted starts StructureCopy StructureWrite n _ (none-some none) are.copies;
  serialized = writes-same counted starts StructureCopy TransferWrite n _ (none-some none) are.serialized;
  traces = writes-same counted starts Compute ShaderWrite n _ (none-some none) are.traces;
  transfer_reads = reads-same counted starts Transfer n _ (none-some none) are.transfer_reads;
  build_reads = reads-same counted starts Build n _ (none-some none) are.build_reads;
  copy_reads = reads-same counted starts StructureCopy n _ (none-some none) are.copy_reads;
  trace_reads = reads-same counted starts Compute n _ (none-some none) are.trace_reads;
}
