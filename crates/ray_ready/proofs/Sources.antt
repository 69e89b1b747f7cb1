-- For an action to be ready it is enough that those gave an output of which it reads. Beside the run in which
-- what breaks a data rule stores nothing there is one in which it stores what it might have given: there each
-- action is ready, and the two hold the same wherever such an action reads.
use Rattle.std.proofs.Common.{◌≡◌, ◌<◌, ◌≤◌, ℕ, zero, suc, Bool, true, false, List, [], ◌∷◌, Some, refl, sym, ◌∙◌, ap, subst, arith}
use Rattle.std.specs.Prelude.{if◌then◌else◌, slice_get, unwrap_or}
use Rattle.ray_rules.specs.Status.{at_first}
use Rattle.ray_action.specs.Memory.{Location, Memory, nothing_live}
use Rattle.ray_action.specs.Areas.{AgreeOn, cover}
use Rattle.ray_action.specs.Action.{Rest, areas_read}
use Rattle.ray_action.specs.Clients.{Clients}
use Rattle.ray_action.specs.Outcomes.{Output, Outcome, Gives, Breaks, Undefined}
use Rattle.ray_action.specs.Pieces.{Numbered, actions, numbered}
use Rattle.ray_action.specs.Readiness.{IsReady}
use Rattle.ray_action.specs.Running.{action_at, memory_before, number_at, unit_after, unit_at, unit_outcome}
use Rattle.ray_action.specs.Storing.{left, put, writes}
use Rattle.ray_action.proofs.Local.{outcomes_local}
use Rattle.ray_ready.specs.Laws.{AreSources, IsGiven, SourcesAreEnough}
use Rattle.ray_ready.proofs.Local.{ready_local}
use Rattle.ray_ready.proofs.Giving.{given_or, stand_in, whole_may, whole_output}
use Rattle.ray_ready.proofs.Leading.{AreReadyBelow}
use Rattle.ray_ready.proofs.Recording.{all_ready, at_beginning, first_left, head_is, head_of, itself, left_at, tail_of, the_first}

-- the memory after an action that stores what it gives, or what it might have given
abbrev whole_after : Clients → Numbered → Memory → Memory
whole_after clients u m = put u.action (Gives (whole_output (clients u.command) u.action m)) m

abbrev whole_before : Clients → List Numbered → ℕ → Memory
whole_before clients units zero = nothing_live
whole_before clients units (suc p) = whole_after clients (unit_at units p) (whole_before clients units p)

-- ---- there each action is ready

whole_next : (clients : Clients) (n : ℕ) (left : List Numbered) (m : Memory) (v : Numbered) → unwrap_or (head_of left) (numbered 0 Rest) ≡ v
    → AreReadyBelow n left m → AreReadyBelow n (tail_of left) (whole_after clients v m)
whole_next clients n [] m v same ready = tt
whole_next clients n (u ∷ us) m v same ready =
    subst (λ w. AreReadyBelow n us (whole_after clients w m)) same
    (ready.1 (whole_output (clients u.command) u.action m) (λ less. whole_may (clients u.command) u.action m (ready.0 less)))

whole_ready : (clients : Clients) (n : ℕ) (us : List Numbered) (p : ℕ) → AreReadyBelow n us nothing_live → AreReadyBelow n (left_at us p) (whole_before clients us p)
whole_ready clients n us zero ready = ready
whole_ready clients n us (suc p) ready =
    whole_next clients n (left_at us p) (whole_before clients us p) (unit_at us p) (first_left us p) (whole_ready clients n us p ready)

-- ---- the two runs hold the same

same_if : {X : Type 0} (b : Bool) (p q u v : X) → (b ≡ true → p ≡ q) → u ≡ v → (if b then p else u) ≡ (if b then q else v)
same_if true p q u v h same = h refl
same_if false p q u v h same = same

given_same : (x : Outcome) (other : Output) → IsGiven x → Gives (given_or x other) ≡ x
given_same (Gives o) other is = refl
given_same (Breaks fault) other is = absurd is
given_same Undefined other is = absurd is

-- after an action that sees the same in both and gives an output, or doesn't write there
same_after : (clients : Clients) (u : Numbered) (w m : Memory) (l : Location) → w l ≡ m l
    → (writes u.action l ≡ true → (unit_outcome clients u w ≡ unit_outcome clients u m) × IsGiven (unit_outcome clients u m))
    → whole_after clients u w l ≡ unit_after clients u m l
same_after clients u w m l same sees =
    let a = u.action in
    let whole_of : Output = whole_output (clients u.command) a w in
    same_if (writes a l) (left a (Gives whole_of) l (w l)) (left a (unit_outcome clients u m) l (m l)) (w l) (m l)
    (λ there.
    let s = sees there in
    let whole : Gives whole_of ≡ unit_outcome clients u w = given_same (unit_outcome clients u w) (stand_in a w) (subst IsGiven (sym s.0) s.1) in
    λ i. left a ((whole ∙ s.0) i) l (same i))
    same

-- what action r reads, before each action up to it, where this is so of those among the sources before it
same_to : (clients : Clients) (units : List Numbered) (among : ℕ → Bool) (p r : ℕ) (l : Location) → AreSources clients units among p → r ≤ p → among r ≡ true
    → cover (areas_read (action_at units r)) l ≡ true
    → ((q : ℕ) → q < r → among q ≡ true → AgreeOn (areas_read (action_at units q)) (whole_before clients units q) (memory_before clients units q))
    → (k : ℕ) → k ≤ r → whole_before clients units k l ≡ memory_before clients units k l
same_to clients units among p r l sources within is reads agree zero below = refl
same_to clients units among p r l sources within is reads agree (suc k) below =
    same_after clients (unit_at units k) (whole_before clients units k) (memory_before clients units k) l
    (same_to clients units among p r l sources within is reads agree k (omega (arith, below)))
    (λ there.
    let member : among k ≡ true = sources.closed k r l (omega (arith, below)) within is there reads in (
      outcomes_local (clients (number_at units k)) (action_at units k) (whole_before clients units k) (memory_before clients units k) (agree k (omega (arith, below)) member),
      sources.gave k (omega (arith, below, within)) member,
    ))

-- so it is of all those below a number
same_below : (clients : Clients) (units : List Numbered) (among : ℕ → Bool) (p : ℕ) → AreSources clients units among p → (n r : ℕ) → r < n → r ≤ p → among r ≡ true
    → AgreeOn (areas_read (action_at units r)) (whole_before clients units r) (memory_before clients units r)
same_below clients units among p sources zero r less within is = absurd (omega (arith, less))
same_below clients units among p sources (suc n) r less within is = λ l reads.
    same_to clients units among p r l sources within is reads
    (λ q before member. same_below clients units among p sources n q (omega (arith, less, before)) (omega (arith, within, before)) member) r (omega arith)

unit_is : (units : List Numbered) (p : ℕ) (unit : Numbered) → slice_get units p ≡ Some unit → action_at units p ≡ unit.action
unit_is units p unit is = ap (λ found. (unwrap_or found (numbered 0 Rest)).action) is

pub sources_enough : SourcesAreEnough
sources_enough clients rec n p unit among accepted is less member sources =
    let us : List Numbered = actions rec in
    let ready : AreReadyBelow n us nothing_live = all_ready rec n 0 at_first rec nothing_live accepted (itself rec) refl (at_beginning rec) in
    let there : IsReady unit.action (whole_before clients us p) =
    the_first n (left_at us p) (whole_before clients us p) unit (sym (head_is us p) ∙ is) less (whole_ready clients n us p ready) in
    let same : AgreeOn (areas_read unit.action) (whole_before clients us p) (memory_before clients us p) =
    subst (λ a. AgreeOn (areas_read a) (whole_before clients us p) (memory_before clients us p)) (unit_is us p unit is)
    (same_below clients us among p sources (suc p) p (omega arith) (omega arith) member) in
    ready_local unit.action (whole_before clients us p) (memory_before clients us p) same there
