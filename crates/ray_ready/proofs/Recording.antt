-- The induction over a recording: each action is ready in its turn.
use Rattle.std.proofs.Common.{◌≡◌, ◌+◌, ◌++◌, ◌<◌, ◌≤◌, ℕ, zero, suc, List, [], ◌∷◌, Option, Some, None, ◌⊎◌, inl, inr, refl, sym, ◌∙◌, ap, subst, arith, add-one, map, length, take}
use Rattle.std.specs.Prelude.{slice_get, unwrap_or}
use Rattle.ray_cmd.specs.declared.command.Command.{Command}
use Rattle.ray_cmd.specs.declared.structure_kind.StructureKind.{StructureKind}
use Rattle.ray_rules.specs.declared.built.Built.{Built}
use Rattle.ray_rules.specs.Hazards.{after_if, status_at}
use Rattle.ray_rules.specs.Status.{Status, at_first}
use Rattle.ray_rules.specs.Status as status
use Rattle.ray_action.specs.Memory.{Memory, nothing_live}
use Rattle.ray_action.specs.Action.{Action, Rest}
use Rattle.ray_action.specs.Clients.{Clients, Meaning}
use Rattle.ray_action.specs.Outcomes.{Output, Outcome, Gives, Breaks, Undefined, outcome_of}
use Rattle.ray_action.specs.Pieces.{Numbered, actions, actions_from, actions_of, numbered}
use Rattle.ray_action.specs.Readiness.{IsReady}
use Rattle.ray_action.specs.Running.{Run, Text, Refused, Unknown, memory_before, run_from, then_run, unit_after, unit_at, unit_outcome, with_text}
use Rattle.ray_action.specs.Storing.{after, put}
use Rattle.ray_action.specs.Text.{text_of}
use Rattle.ray_ready.specs.Accepted.{IsAccepted, MayRun}
use Rattle.ray_ready.specs.Laws.{ActionsAreReady, GaveBefore, IsDefined, IsGiven, RunsAreKnown, first_actions}
use Rattle.ray_ready.proofs.Ties.{IsBuilt, Ties}
use Rattle.ray_ready.proofs.Giving.{gives_may}
use Rattle.ray_ready.proofs.Leading.{AreReadyBelow, ready_through}
use Rattle.ray_ready.proofs.Commands.{command_leads}
use Rattle.ray_ready.proofs.Defined.{defined}

-- ---- commands that are left

-- these are the commands of a recording from number i on
abbrev pub Follow : List Command → ℕ → List Command → Type 0
Follow rec i cs = (n k : ℕ) (c : Command) → n ≡ i + k → slice_get cs k ≡ Some c → slice_get rec n ≡ Some c

abbrev AreFrom : ℕ → List Numbered → Type 0
AreFrom n [] = Unit {0}
AreFrom n (u ∷ us) = (n ≤ u.command) × AreFrom n us

abbrev AreBelow : ℕ → List Numbered → Type 0
AreBelow n [] = Unit {0}
AreBelow n (u ∷ us) = (u.command < n) × AreBelow n us

numbered_from : (n i : ℕ) (acts : List Action) (us : List Numbered) → n ≤ i → AreFrom n us → AreFrom n (map (numbered i) acts ++ us)
numbered_from n i [] us late rest = rest
numbered_from n i (a ∷ acts) us late rest = (late, numbered_from n i acts us late rest)

actions_late : (rec : List Command) (n i : ℕ) (z : Status) (cs : List Command) → n ≤ i → AreFrom n (actions_from rec i z cs)
unfolding actions_from
actions_late rec n i z [] late = tt
actions_late rec n i z (c ∷ cs) late =
    numbered_from n i (actions_of rec z c) (actions_from rec (i + 1) (status.after i c z) cs) late
    (actions_late rec n (i + 1) (status.after i c z) cs (omega (arith, late)))

late_ready : (n : ℕ) (us : List Numbered) (m : Memory) → AreFrom n us → AreReadyBelow n us m
late_ready n [] m late = tt
late_ready n (u ∷ us) m late =
    (λ less. let more : n ≤ u.command = late.0 in absurd (omega (arith, less, more)), λ o may. late_ready n us (put u.action (Gives o) m) late.1)

numbered_below : (n i : ℕ) (acts : List Action) (us : List Numbered) → i < n → AreBelow n us → AreBelow n (map (numbered i) acts ++ us)
numbered_below n i [] us less rest = rest
numbered_below n i (a ∷ acts) us less rest = (less, numbered_below n i acts us less rest)

actions_below : (rec : List Command) (n i : ℕ) (z : Status) (cs : List Command) → i + length cs ≤ n → AreBelow n (actions_from rec i z cs)
unfolding actions_from
actions_below rec n i z [] few = tt
actions_below rec n i z (c ∷ cs) few =
    numbered_below n i (actions_of rec z c) (actions_from rec (i + 1) (status.after i c z) cs) (omega (arith, few))
    (actions_below rec n (i + 1) (status.after i c z) cs (omega (arith, few)))

-- ---- the induction

pub next_status : (rec : List Command) (i : ℕ) (z : Status) (c : Command) → slice_get rec i ≡ Some c → z ≡ status_at rec i → status.after i c z ≡ status_at rec (i + 1)
next_status rec i z c is same =
    ap (status.after i c) same ∙ (sym (ap (λ found. after_if i found (status_at rec i)) is) ∙ sym (ap (status_at rec) (add-one i)))

before_or_not : (i n : ℕ) → (i < n) ⊎ (n ≤ i)
before_or_not i n = decide_lt i n
  where
    decide_lt : (i n : ℕ) → (i < n) ⊎ (n ≤ i)
    decide_lt i zero = inr (omega arith)
    decide_lt zero (suc n) = inl (omega arith)
    decide_lt (suc i) (suc n) = elim (decide_lt i n) [ inl less ↦ inl (omega (arith, less)) | inr more ↦ inr (omega (arith, more)) ]

pub all_ready : (rec : List Command) (n i : ℕ) (z : Status) (cs : List Command) (m : Memory) → IsAccepted rec n → Follow rec i cs → z ≡ status_at rec i → Ties rec i 0 z m
    → AreReadyBelow n (actions_from rec i z cs) m
unfolding actions_from
all_ready rec n i z [] m accepted follow same ties = tt
all_ready rec n i z (c ∷ cs) m accepted follow same ties =
    let w : Status = status.after i c z in
    let rest : List Numbered = actions_from rec (i + 1) w cs in
    elim (before_or_not i n) [
      | inl less ↦
          let is : slice_get rec i ≡ Some c = follow i 0 c (omega arith) refl in
          let may : MayRun rec z c = subst (λ s. MayRun rec s c) (sym same) (accepted.each i c less is) in
          ready_through n i (actions_of rec z c) rest m (Ties rec (i + 1) 0 w) less (command_leads rec i z c m is may ties)
          (λ x t.
          all_ready rec n (i + 1) w cs x accepted (λ q k d at there. follow q (suc k) d (omega (arith, at)) there)
          (next_status rec i z c is same) t)
      | inr late ↦
          late_ready n (map (numbered i) (actions_of rec z c) ++ rest) m
          (numbered_from n i (actions_of rec z c) rest late (actions_late rec n (i + 1) w cs (omega (arith, late))))
    ]

none_built : (kind : StructureKind) (b : Built) → IsBuilt None kind b → ⊥
none_built kind b built = let none : None ≡ Some built.structure = built.is_it in absurd cc

pub at_beginning : (rec : List Command) → Ties rec 0 0 at_first nothing_live
at_beginning rec = record {
  buffers = record { rise = tt; size = λ id. refl; there = λ id at kept below. absurd (omega (arith, below)) };
  forms = record { rise = tt; form = λ id. refl };
  contents = record {
    order = λ id kind b built. absurd (none_built kind b built);
    held = λ id kind b built. absurd (none_built kind b built);
    bounds = λ id b t u x built is in_use fresh. absurd (none_built _ b built);
  };
}

-- ---- by number

abbrev pub head_of : List Numbered → Option Numbered
head_of [] = None
head_of (u ∷ us) = Some u

abbrev pub tail_of : List Numbered → List Numbered
tail_of [] = []
tail_of (u ∷ us) = us

-- the actions from number p on
abbrev pub left_at : List Numbered → ℕ → List Numbered
left_at us zero = us
left_at us (suc p) = tail_of (left_at us p)

left_later : (u : Numbered) (us : List Numbered) (p : ℕ) → left_at (u ∷ us) (suc p) ≡ left_at us p
left_later u us zero = refl
left_later u us (suc p) = ap tail_of (left_later u us p)

left_none : (p : ℕ) → left_at [] p ≡ []
left_none zero = refl
left_none (suc p) = ap tail_of (left_none p)

pub head_is : (us : List Numbered) (p : ℕ) → slice_get us p ≡ head_of (left_at us p)
head_is [] p = sym (ap head_of (left_none p))
head_is (u ∷ us) zero = refl
head_is (u ∷ us) (suc p) = head_is us p ∙ sym (ap head_of (left_later u us p))

given_is : (x : Outcome) → IsGiven x → (o : Output) × (x ≡ Gives o)
given_is (Gives o) is = (o, refl)
given_is (Breaks fault) is = absurd is
given_is Undefined is = absurd is

stored_next : (meaning : Meaning) (n : ℕ) (us : List Numbered) (a : Action) (m : Memory) (o : Output) → outcome_of meaning a m ≡ Gives o → AreReadyBelow n us (put a (Gives o) m)
    → AreReadyBelow n us (after meaning a m)
stored_next meaning n us a m o e is = subst (AreReadyBelow n us) (sym (ap (λ x. put a x m) e)) is

ready_next : (clients : Clients) (n : ℕ) (left : List Numbered) (m : Memory) (v : Numbered) → unwrap_or (head_of left) (numbered 0 Rest) ≡ v → IsGiven (unit_outcome clients v m)
    → AreReadyBelow n left m → AreReadyBelow n (tail_of left) (unit_after clients v m)
ready_next clients n [] m v same given ready = tt
ready_next clients n (u ∷ us) m v same given ready =
    let is = given_is (unit_outcome clients u m) (subst (λ w. IsGiven (unit_outcome clients w m)) (sym same) given) in
    subst (λ w. AreReadyBelow n us (unit_after clients w m)) same
    (stored_next (clients u.command) n us u.action m is.0 is.1 (ready.1 is.0 (λ less. gives_may (clients u.command) u.action m is.0 is.1)))

-- the one at a number is the first of those that are left
pub first_left : (us : List Numbered) (p : ℕ) → unwrap_or (head_of (left_at us p)) (numbered 0 Rest) ≡ unit_at us p
first_left us p = sym (ap (λ found. unwrap_or found (numbered 0 Rest)) (head_is us p))

ready_from : (clients : Clients) (n : ℕ) (us : List Numbered) (p : ℕ) → AreReadyBelow n us nothing_live → GaveBefore clients us p
    → AreReadyBelow n (left_at us p) (memory_before clients us p)
ready_from clients n us zero ready gave = ready
ready_from clients n us (suc p) ready gave =
    ready_next clients n (left_at us p) (memory_before clients us p) (unit_at us p) (first_left us p) (gave p (omega arith))
    (ready_from clients n us p ready (λ q less. gave q (omega (arith, less))))

pub the_first : (n : ℕ) (left : List Numbered) (m : Memory) (unit : Numbered) → head_of left ≡ Some unit → unit.command < n → AreReadyBelow n left m → IsReady unit.action m
the_first n [] m unit is less ready = absurd cc
the_first n (u ∷ us) m unit is less ready =
    let same : u ≡ unit = cc in
    subst (λ (v : Numbered). IsReady v.action m) same (ready.0 (subst (λ (v : Numbered). v.command < n) (sym same) less))

pub itself : (rec : List Command) → Follow rec 0 rec
itself rec n k c same is = subst (λ q. slice_get rec q ≡ Some c) (sym (same ∙ omega arith)) is

pub are_ready : ActionsAreReady
are_ready clients rec n p unit accepted is less gave =
    let us : List Numbered = actions rec in
    let ready : AreReadyBelow n us nothing_live = all_ready rec n 0 at_first rec nothing_live accepted (itself rec) refl (at_beginning rec) in
    the_first n (left_at us p) (memory_before clients us p) unit (sym (head_is us p) ∙ is) less (ready_from clients n us p ready gave)

-- ---- the run

no_unknown_text : (text : List ℕ) (later : Run) → with_text text later ≡ Unknown → later ≡ Unknown
no_unknown_text text (Text t) e = absurd cc
no_unknown_text text (Refused r) e = absurd cc
no_unknown_text text Unknown e = refl

then_known : (unit : Numbered) (x : Outcome) (later : Run) → IsDefined x → ((o : Output) → x ≡ Gives o → later ≡ Unknown → ⊥) → then_run unit x later ≡ Unknown → ⊥
then_known unit (Gives o) later is known e = known o refl (no_unknown_text (text_of unit.action o) later e)
then_known unit (Breaks fault) later is known e = absurd cc
then_known unit Undefined later is known e = absurd is

run_known : (clients : Clients) (n : ℕ) (us : List Numbered) (m : Memory) → AreReadyBelow n us m → AreBelow n us → run_from clients m us ≡ Unknown → ⊥
run_known clients n [] m ready below e = absurd cc
run_known clients n (u ∷ us) m ready below e =
    let meaning = clients u.command in
    then_known u (unit_outcome clients u m) (run_from clients (unit_after clients u m) us) (defined meaning u.action m (ready.0 below.0))
    (λ o is. run_known clients n us (unit_after clients u m) (stored_next meaning n us u.action m o is (ready.1 o (λ less. gives_may meaning u.action m o is))) below.1) e

taken : (n : ℕ) (rec : List Command) (k : ℕ) (c : Command) → slice_get (take n rec) k ≡ Some c → slice_get rec k ≡ Some c
taken zero rec k c is = absurd cc
taken (suc n) [] k c is = absurd cc
taken (suc n) (d ∷ rec) zero c is = is
taken (suc n) (d ∷ rec) (suc k) c is = taken n rec k c is

at_most : (n : ℕ) (rec : List Command) → length (take n rec) ≤ n
at_most zero rec = omega arith
at_most (suc n) [] = omega arith
at_most (suc n) (d ∷ rec) = let rest : length (take n rec) ≤ n = at_most n rec in omega (arith, rest)

pub runs_known : RunsAreKnown
runs_known clients rec n accepted e =
    let few : length (take n rec) ≤ n = at_most n rec in
    run_known clients n (first_actions rec n) nothing_live
    (all_ready rec n 0 at_first (take n rec) nothing_live accepted
    (λ q k c same is. subst (λ p. slice_get rec p ≡ Some c) (sym (same ∙ omega arith)) (taken n rec k c is)) refl (at_beginning rec))
    (actions_below rec n 0 at_first (take n rec) (omega (arith, few))) e
