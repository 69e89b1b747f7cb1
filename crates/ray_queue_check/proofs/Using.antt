-- Lanes of each queue, from a command to the next.
use Rattle.std.proofs.Common.{◌≡◌, ◌+◌, ℕ, suc, Bool, true, false, nat_lt, List, [], Option, Some, None, length, refl, sym, subst, inl, inr, arith, max}
use Rattle.std.specs.Prelude.{◌==◌, ◌⊎◌, if◌then◌else◌}
use Rattle.std.proofs.lemmas.Bool.{cases_Bool, ltb-true}
use Rattle.std.proofs.lemmas.Bool.Decides.{nat_tests}
use Rattle.ray_hazards.specs.declared.lanes.Lanes.{Lanes}
use Rattle.ray_hazards.specs.Counting.{Counted, stage_in}
use Rattle.ray_hazards.specs.Lanes.{AnyUncovered, AnyUnordered, AreLanes, LanesBelow, NoneCounts}
use Rattle.ray_hazards.specs.Lasts.{IsLast}
use Rattle.ray_hazards.proofs.Laning.{lanes-below, lanes-enough, lanes-same, none-some}
use Rattle.ray_hazards.proofs.Lasts.{last-either, last-nothing}
use Rattle.ray_rules.specs.declared.access_type.AccessType.{AccessType}
use Rattle.ray_rules.specs.declared.stage.Stage.{Stage}
use Rattle.ray_rules.specs.Hazards.{stage_at}
use Rattle.ray_rules.specs.Order.{barriers}
use Rattle.ray_submits.specs.Submits.{QueueCommands, queue_of}
use Rattle.ray_queue_check.specs.declared.lanes.QueueLanes.{QueueLanes}
use Rattle.ray_queue_check.specs.Lanes.{AllLow, AllRoomy, AreLow, AreRoomy, AreUsed, IsUsed, OfSome, from_queue}

-- past a command that doesn't count nothing changes
pub used-same :
    (q : QueueCommands) (from : ℕ) (starts : List ℕ) (n : ℕ) (lanes : Option Lanes)
    → stage_in (from_queue q from) n ≡ None → IsUsed q from starts n lanes → IsUsed q from starts (suc n) lanes
used-same q from starts n None none is = λ i l.
    elim (cases_Bool (nat_lt i n)) [
      | inl t ↦ is i (ltb-true i n t)
      | inr f ↦ let same : n ≡ i = grind (arith, nat_tests) in subst (λ k. stage_in (from_queue q from) k ≡ None) same none
    ]
used-same q from starts n (Some lanes) none is = lanes-same (from_queue q from) starts n lanes none is

-- a command of another queue doesn't, nor one without a stage
none-if : (b : Bool) (o : Option Stage) → b ≡ false → (if b then o else None) ≡ None
none-if true o e = absurd cc
none-if false o e = refl

pub other-counts-not :
    (q : QueueCommands) (from n : ℕ) → (queue_of q n == from) ≡ false → stage_in (from_queue q from) n ≡ None
other-counts-not q from n e = none-if (queue_of q n == from) (stage_at q.commands n) e

none-stage : (b : Bool) (o : Option Stage) → o ≡ None → (if b then o else None) ≡ None
none-stage true o e = e
none-stage false o e = refl

pub host-counts-not :
    (q : QueueCommands) (from n : ℕ) → stage_at q.commands n ≡ None → stage_in (from_queue q from) n ≡ None
host-counts-not q from n e = none-stage (queue_of q n == from) (stage_at q.commands n) e

-- a command of the queue counts
counts-so : (b : Bool) (o : Option Stage) → b ≡ true → (if b then o else None) ≡ o
counts-so true o e = refl
counts-so false o e = absurd cc

pub own-counts :
    (q : QueueCommands) (from n : ℕ) → (queue_of q n == from) ≡ true → stage_in (from_queue q from) n ≡ stage_at q.commands n
own-counts q from n e = counts-so (queue_of q n == from) (stage_at q.commands n) e

-- of what nothing counts nothing is found
pub none-uncovered :
    (counted : Counted) (starts : List ℕ) (thing : Option ℕ) (n : ℕ) (to : Stage) (x : AccessType) (first end : ℕ)
    → NoneCounts counted n → IsLast (AnyUncovered counted starts thing n to x first end) n 0
none-uncovered counted starts thing n to x first end none =
    last-nothing (AnyUncovered counted starts thing n to x first end) n (λ i l any.
    elim any [
      | inl a ↦
          elim a [
            | inl p ↦
                elim p [
                  | inl u ↦ none-some (none i l) u.cell.3.by
                  | inr u ↦ none-some (none i l) u.cell.3.by
                ]
            | inr p ↦
                elim p [
                  | inl u ↦ none-some (none i l) u.cell.3.by
                  | inr u ↦ none-some (none i l) u.cell.3.by
                ]
          ]
      | inr b ↦
          elim b [
            | inl u ↦ none-some (none i l) u.cell.3.by
            | inr u ↦ none-some (none i l) u.cell.3.by
          ]
    ])

pub none-unordered :
    (counted : Counted) (starts : List ℕ) (n : ℕ) (to : Stage) (first end : ℕ)
    → NoneCounts counted n → IsLast (AnyUnordered counted starts n to first end) n 0
none-unordered counted starts n to first end none =
    last-nothing (AnyUnordered counted starts n to first end) n (λ i l any.
    elim any [
      | inl p ↦
          elim p [
            | inl u ↦ none-some (none i l) u.cell.3.by
            | inr u ↦ none-some (none i l) u.cell.3.by
          ]
      | inr p ↦
          elim p [
            | inl u ↦ none-some (none i l) u.cell.3.by
            | inr u ↦ none-some (none i l) u.cell.3.by
          ]
    ])

-- the last of some queue is the greatest
pub last-some :
    (P : ℕ → ℕ → Type 0) (n a b c d r : ℕ) → r ≡ max (max a b) (max c d) → IsLast (P 0) n a → IsLast (P 1) n b
    → IsLast (P 2) n c → IsLast (P 3) n d → IsLast (OfSome P) n r
last-some P n a b c d r e first second third fourth =
    subst (IsLast (OfSome P) n) (sym e)
    (last-either (λ i. P 0 i ⊎ P 1 i) (λ i. P 2 i ⊎ P 3 i) n (max a b) (max c d)
    (last-either (P 0) (P 1) n a b first second) (last-either (P 2) (P 3) n c d third fourth))

-- lanes that are used are of as many cells as there are starts, and no mark is above a number
used-roomy :
    (q : QueueCommands) (from : ℕ) (starts : List ℕ) (n : ℕ) (lanes : Option Lanes) → IsUsed q from starts n lanes
    → AreRoomy (length starts) lanes
used-roomy q from starts n None is = tt
used-roomy q from starts n (Some lanes) is = lanes-enough (from_queue q from) starts n lanes is

pub all-roomy :
    (q : QueueCommands) (starts : List ℕ) (n : ℕ) (z : QueueLanes) → AreUsed q starts n z → AllRoomy (length starts) z
all-roomy q starts n z are = record {
  zero = used-roomy q 0 starts n z.zero are.zero;
  one = used-roomy q 1 starts n z.one are.one;
  two = used-roomy q 2 starts n z.two are.two;
  three = used-roomy q 3 starts n z.three are.three;
}

used-low :
    (q : QueueCommands) (from : ℕ) (starts : List ℕ) (n : ℕ) (lanes : Option Lanes) → IsUsed q from starts n lanes
    → AreLow (length starts) (n + 1) lanes
used-low q from starts n None is = tt
used-low q from starts n (Some lanes) is = lanes-below (from_queue q from) starts n lanes is

pub all-low :
    (q : QueueCommands) (starts : List ℕ) (n : ℕ) (z : QueueLanes) → AreUsed q starts n z → AllLow (length starts) (n + 1) z
all-low q starts n z are = record {
  zero = used-low q 0 starts n z.zero are.zero;
  one = used-low q 1 starts n z.one are.one;
  two = used-low q 2 starts n z.two are.two;
  three = used-low q 3 starts n z.three are.three;
}

-- new lanes are low, whatever they are of
abbrev pub nothing : Counted
nothing = record { commands = []; counts = λ i. false; order = barriers [] }

pub new-low :
    (starts : List ℕ) (n : ℕ) (lanes : Lanes)
    → ((counted : Counted) → NoneCounts counted n → AreLanes counted starts n lanes) → LanesBelow (length starts) (n + 1) lanes
new-low starts n lanes are = lanes-below nothing starts n lanes (are nothing (λ i l. refl))
