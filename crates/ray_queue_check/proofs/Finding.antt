-- What lanes of each queue tell is what the rules on hazards speak of.
use Rattle.std.proofs.Common.{◌≡◌, ◌<◌, ◌&&◌, ℕ, Bool, true, false, not, List, Option, Some, None, slice_get, refl, subst, inl, inr, arith}
use Rattle.std.specs.Prelude.{◌==◌, ◌⊎◌, if◌then◌else◌, option_map}
use Rattle.std.specs.List.{list_any}
use Rattle.std.specs.Option.{option_map_or}
use Rattle.std.proofs.lemmas.Bool.Decides.{nat_tests}
use Rattle.ray_access.specs.declared.touched.Touched.{Touched}
use Rattle.ray_access.specs.Axis.{SharingIsMeeting, touched}
use Rattle.ray_access.specs.Lists.{AreTouched}
use Rattle.ray_cmd.specs.declared.command.Command.{Command}
use Rattle.ray_cmd.specs.declared.place.Place.TheVariants.{Earlier}
use Rattle.ray_hazards.specs.declared.doing.Doing.{Doing}
use Rattle.ray_hazards.specs.declared.tops.Tops.{Tops}
use Rattle.ray_hazards.specs.Checks.{IsDoing}
use Rattle.ray_hazards.specs.Lasts.{AnyOf, ArePlaced, HaveStarts, IsLast, last_number}
use Rattle.ray_hazards.specs.Reaching.{AreReached, AreTops}
use Rattle.ray_hazards.proofs.Checking.{odds-last, odds-reached}
use Rattle.ray_hazards.proofs.Local.{IsLocal, local-either, local-uncovered}
use Rattle.ray_hazards.proofs.Odds.{IsPlaced, uncovered-from, uncovered-to, unordered-from, unordered-to}
use Rattle.ray_queues.specs.QueueOrder.{queue_order}
use Rattle.ray_queues.proofs.Named.{queue-below}
use Rattle.ray_rules.specs.declared.access_type.AccessType.{AccessType}
use Rattle.ray_rules.specs.declared.stage.Stage.{Stage}
use Rattle.ray_rules.specs.declared.touch.Touch.{Touch}
use Rattle.ray_rules.specs.Hazards.{accesses_at, greatest_with, is_uncovered, read_unordered, stage_at, status_at, touches_share, wrote_uncovered}
use Rattle.ray_rules.specs.Status.{Status}
use Rattle.ray_submits.specs.Submits.{HaveQueues, QueueCommands, queue_of}
use Rattle.ray_queue_check.specs.Lanes.{MeetsRead, MeetsWritten, SomeUncovered, SomeUnordered, from_queue}

-- a command that counts, and one of the queue
own-if :
    (test : Stage → Bool) (b : Bool) (o : Option Stage) → option_map_or test (if b then o else None) false ≡ true
    → option_map_or test o false ≡ true
own-if test true o e = e
own-if test false o e = absurd cc

if-own :
    (test : Stage → Bool) (b : Bool) (o : Option Stage) → b ≡ true → option_map_or test o false ≡ true
    → option_map_or test (if b then o else None) false ≡ true
if-own test true o t e = e
if-own test false o t e = absurd cc

-- a queue is one of four
queue-cases : (k : ℕ) → k < 4 → (((k == 0) ≡ true) ⊎ ((k == 1) ≡ true)) ⊎ (((k == 2) ≡ true) ⊎ ((k == 3) ≡ true))
queue-cases k low = first (k == 0) refl
  where
    third : (b : Bool) → (k == 2) ≡ b → (k == 0) ≡ false → (k == 1) ≡ false → ((k == 2) ≡ true) ⊎ ((k == 3) ≡ true)
    third true e f g = inl e
    third false e f g = inr (grind (arith, nat_tests))

    second : (b : Bool) → (k == 1) ≡ b → (k == 0) ≡ false
        → (((k == 0) ≡ true) ⊎ ((k == 1) ≡ true)) ⊎ (((k == 2) ≡ true) ⊎ ((k == 3) ≡ true))
    second true e f = inl (inr e)
    second false e f = inr (third (k == 2) refl f e)

    first : (b : Bool) → (k == 0) ≡ b → (((k == 0) ≡ true) ⊎ ((k == 1) ≡ true)) ⊎ (((k == 2) ≡ true) ⊎ ((k == 3) ≡ true))
    first true e = inl (inl e)
    first false e = second (k == 1) refl e

-- tests of a command by its stage
abbrev pub wrote_at : QueueCommands → ℕ → Stage → Touch → ℕ → Stage → Bool
wrote_at q n to t i stage = list_any (is_uncovered (queue_order q) q.commands i stage n to t) (accesses_at q.commands i).writes

abbrev pub read_at : QueueCommands → ℕ → Stage → Touch → ℕ → Stage → Bool
read_at q n to t i stage =
    not ((queue_order q).ordered i stage n to) && list_any (λ r. touches_share q.commands i n r t) (accesses_at q.commands i).reads

-- ---- writes

written-to :
    (law : SharingIsMeeting) (q : QueueCommands) (starts : List ℕ) (n i : ℕ) (to : Stage) (t : Touch)
    → IsPlaced (status_at q.commands n) starts t → ArePlaced q.commands starts i (accesses_at q.commands i).writes
    → MeetsWritten q starts n to (touched (status_at q.commands n) t) i
    → wrote_uncovered (queue_order q) q.commands n to t i ≡ true
written-to law q starts n i to t one others any =
    elim any [
      | inl a ↦
          elim a [
            | inl u ↦ own 0 (uncovered-to law (from_queue q 0) starts n i to t one others u)
            | inr u ↦ own 1 (uncovered-to law (from_queue q 1) starts n i to t one others u)
          ]
      | inr b ↦
          elim b [
            | inl u ↦ own 2 (uncovered-to law (from_queue q 2) starts n i to t one others u)
            | inr u ↦ own 3 (uncovered-to law (from_queue q 3) starts n i to t one others u)
          ]
    ]
  where
    own : (from : ℕ)
        → option_map_or (wrote_at q n to t i) (if queue_of q i == from then stage_at q.commands i else None) false ≡ true
        → option_map_or (wrote_at q n to t i) (stage_at q.commands i) false ≡ true
    own from e = own-if (wrote_at q n to t i) (queue_of q i == from) (stage_at q.commands i) e

written-from :
    (law : SharingIsMeeting) (q : QueueCommands) (starts : List ℕ) (n i : ℕ) (to : Stage) (t : Touch) → HaveQueues q.submits
    → IsPlaced (status_at q.commands n) starts t → ArePlaced q.commands starts i (accesses_at q.commands i).writes
    → wrote_uncovered (queue_order q) q.commands n to t i ≡ true
    → MeetsWritten q starts n to (touched (status_at q.commands n) t) i
written-from law q starts n i to t have one others odd =
    elim (queue-cases (queue_of q i) (queue-below q have i)) [
      | inl a ↦
          elim a [
            | inl e ↦ inl (inl (uncovered-from law (from_queue q 0) starts n i to t one others (own 0 e)))
            | inr e ↦ inl (inr (uncovered-from law (from_queue q 1) starts n i to t one others (own 1 e)))
          ]
      | inr b ↦
          elim b [
            | inl e ↦ inr (inl (uncovered-from law (from_queue q 2) starts n i to t one others (own 2 e)))
            | inr e ↦ inr (inr (uncovered-from law (from_queue q 3) starts n i to t one others (own 3 e)))
          ]
    ]
  where
    own : (from : ℕ) → (queue_of q i == from) ≡ true
        → option_map_or (wrote_at q n to t i) (if queue_of q i == from then stage_at q.commands i else None) false ≡ true
    own from e = if-own (wrote_at q n to t i) (queue_of q i == from) (stage_at q.commands i) e odd

-- of some queue it is so because of a cell
local-written :
    (q : QueueCommands) (starts : List ℕ) (n : ℕ) (to : Stage) (i : ℕ)
    → IsLocal starts (λ t. MeetsWritten q starts n to t i)
local-written q starts n to i =
    local-either starts _ _
    (local-either starts _ _ (local-uncovered (from_queue q 0) starts n to i) (local-uncovered (from_queue q 1) starts n to i))
    (local-either starts _ _ (local-uncovered (from_queue q 2) starts n to i) (local-uncovered (from_queue q 3) starts n to i))

pub written-last :
    (law : SharingIsMeeting) (q : QueueCommands) (starts : List ℕ) (n : ℕ) (to : Stage) (ts : List Touch)
    (touches : List Touched) (r : ℕ) → HaveQueues q.submits → AreReached (status_at q.commands n) starts ts touches
    → ArePlaced q.commands starts n ts → HaveStarts q.commands starts n
    → IsLast (λ i. AnyOf (λ t. MeetsWritten q starts n to t i) touches) n r
    → option_map Earlier (last_number r) ≡ greatest_with (wrote_uncovered (queue_order q) q.commands n to) ts n
written-last law q starts n to ts touches r queues are placed have last =
    odds-reached q.commands starts n ts touches (MeetsWritten q starts n to) (wrote_uncovered (queue_order q) q.commands n to) r
    are placed (local-written q starts n to) (λ t i l one p. written-to law q starts n i to t one (have.writes i l) p)
    (λ t i l one e. written-from law q starts n i to t queues one (have.writes i l) e) last

-- ---- reads

read-to :
    (law : SharingIsMeeting) (q : QueueCommands) (starts : List ℕ) (n i : ℕ) (to : Stage) (t : Touch)
    → IsPlaced (status_at q.commands n) starts t → ArePlaced q.commands starts i (accesses_at q.commands i).reads
    → MeetsRead q starts n to (touched (status_at q.commands n) t) i
    → read_unordered (queue_order q) q.commands n to t i ≡ true
read-to law q starts n i to t one others any =
    elim any [
      | inl a ↦
          elim a [
            | inl u ↦ own 0 (unordered-to law (from_queue q 0) starts n i to t one others u)
            | inr u ↦ own 1 (unordered-to law (from_queue q 1) starts n i to t one others u)
          ]
      | inr b ↦
          elim b [
            | inl u ↦ own 2 (unordered-to law (from_queue q 2) starts n i to t one others u)
            | inr u ↦ own 3 (unordered-to law (from_queue q 3) starts n i to t one others u)
          ]
    ]
  where
    own : (from : ℕ)
        → option_map_or (read_at q n to t i) (if queue_of q i == from then stage_at q.commands i else None) false ≡ true
        → option_map_or (read_at q n to t i) (stage_at q.commands i) false ≡ true
    own from e = own-if (read_at q n to t i) (queue_of q i == from) (stage_at q.commands i) e

read-from :
    (law : SharingIsMeeting) (q : QueueCommands) (starts : List ℕ) (n i : ℕ) (to : Stage) (t : Touch) → HaveQueues q.submits
    → IsPlaced (status_at q.commands n) starts t → ArePlaced q.commands starts i (accesses_at q.commands i).reads
    → read_unordered (queue_order q) q.commands n to t i ≡ true
    → MeetsRead q starts n to (touched (status_at q.commands n) t) i
read-from law q starts n i to t have one others odd =
    elim (queue-cases (queue_of q i) (queue-below q have i)) [
      | inl a ↦
          elim a [
            | inl e ↦ inl (inl (unordered-from law (from_queue q 0) starts n i to t one others (own 0 e)))
            | inr e ↦ inl (inr (unordered-from law (from_queue q 1) starts n i to t one others (own 1 e)))
          ]
      | inr b ↦
          elim b [
            | inl e ↦ inr (inl (unordered-from law (from_queue q 2) starts n i to t one others (own 2 e)))
            | inr e ↦ inr (inr (unordered-from law (from_queue q 3) starts n i to t one others (own 3 e)))
          ]
    ]
  where
    own : (from : ℕ) → (queue_of q i == from) ≡ true
        → option_map_or (read_at q n to t i) (if queue_of q i == from then stage_at q.commands i else None) false ≡ true
    own from e = if-own (read_at q n to t i) (queue_of q i == from) (stage_at q.commands i) e odd

pub read-last :
    (law : SharingIsMeeting) (q : QueueCommands) (starts : List ℕ) (n : ℕ) (to : Stage) (ts : List Touch)
    (touches : List Touched) (r : ℕ) → HaveQueues q.submits → AreTouched (status_at q.commands n) ts touches
    → ArePlaced q.commands starts n ts → HaveStarts q.commands starts n
    → IsLast (λ i. AnyOf (λ t. MeetsRead q starts n to t i) touches) n r
    → option_map Earlier (last_number r) ≡ greatest_with (read_unordered (queue_order q) q.commands n to) ts n
read-last law q starts n to ts touches r queues are placed have last =
    odds-last q.commands starts n ts touches (MeetsRead q starts n to) (read_unordered (queue_order q) q.commands n to) r are
    placed (λ t i l one p. read-to law q starts n i to t one (have.reads i l) p)
    (λ t i l one e. read-from law q starts n i to t queues one (have.reads i l) e) last

-- ---- ranges of cells, told otherwise

pub moved-written :
    (q : QueueCommands) (starts : List ℕ) (thing : Option ℕ) (n : ℕ) (to : Stage) (x : AccessType) (first end a b r : ℕ)
    → IsLast (SomeUncovered q starts thing n to x first end) n r → first ≡ a → end ≡ b
    → IsLast (SomeUncovered q starts thing n to x a b) n r
moved-written q starts thing n to x first end a b r last e f =
    subst (λ k. IsLast (SomeUncovered q starts thing n to x a k) n r) f
    (subst (λ k. IsLast (SomeUncovered q starts thing n to x k end) n r) e last)

pub moved-read :
    (q : QueueCommands) (starts : List ℕ) (n : ℕ) (to : Stage) (first end a b r : ℕ)
    → IsLast (SomeUnordered q starts n to first end) n r → first ≡ a → end ≡ b
    → IsLast (SomeUnordered q starts n to a b) n r
moved-read q starts n to first end a b r last e f =
    subst (λ k. IsLast (SomeUnordered q starts n to a k) n r) f
    (subst (λ k. IsLast (SomeUnordered q starts n to k end) n r) e last)

-- what a command does, told of the same commands
pub doing-here :
    (cs ds : List Command) (starts : List ℕ) (n : ℕ) (doing : Doing) (c : Command) (z : Status) (tops : Tops) → ds ≡ cs
    → ((m : ℕ) → slice_get ds m ≡ Some c → z ≡ status_at ds m → AreTops ds starts z tops → IsDoing ds starts m doing)
    → slice_get cs n ≡ Some c → z ≡ status_at cs n → AreTops cs starts z tops → IsDoing cs starts n doing
doing-here cs ds starts n doing c z tops e is there at are =
    subst (λ xs. (m : ℕ) → slice_get xs m ≡ Some c → z ≡ status_at xs m → AreTops xs starts z tops → IsDoing xs starts m doing) e
    is n there at are

-- and what is kept of tops
pub tops-here :
    (cs ds : List Command) (starts : List ℕ) (z : Status) (old new : Tops) → ds ≡ cs
    → (AreTops ds starts z old → AreTops ds starts z new) → AreTops cs starts z old → AreTops cs starts z new
tops-here cs ds starts z old new e kept are =
    subst (λ xs. AreTops xs starts z old → AreTops xs starts z new) e kept are
