-- What holds of the readiness of actions. (Own.)
use Rattle.std.specs.Prelude.{ℕ, ◌≡◌, ◌<◌, ◌≤◌, List, Some, Bool, true, slice_get, take, length}
use Rattle.ray_cmd.specs.declared.command.Command.{Command}
use Rattle.ray_rules.specs.Hazards.{status_at}
use Rattle.ray_rules.specs.Order.{Ordering}
use Rattle.ray_rules.specs.Refusals.{AreKept, static_table}
use Rattle.ray_rules.specs.Status.{at_first}
use Rattle.ray_rules.specs.Verdict.{rule_refusal}
use Rattle.ray_action.specs.Memory.{Location, Memory, nothing_live}
use Rattle.ray_action.specs.Areas.{AgreeOn, cover}
use Rattle.ray_action.specs.Action.{Action, areas_read}
use Rattle.ray_action.specs.Clients.{Clients, HasScript, Meaning}
use Rattle.ray_action.specs.Outcomes.{Outcome, Gives, Breaks, Undefined, outcome_of}
use Rattle.ray_action.specs.Pieces.{Numbered, actions, actions_from, command_at}
use Rattle.ray_action.specs.Readiness.{IsReady}
use Rattle.ray_action.specs.Running.{Unknown, run_from, action_at, outcome_at, memory_before}
use Rattle.ray_action.specs.Storing.{writes}
use Rattle.ray_ready.specs.Accepted.{IsAccepted, KeepStaticRules, refused_from}

-- ---- what has a meaning

-- an outcome is an output, or a data rule that is broken
abbrev pub IsDefined : Outcome → Type 0
IsDefined (Gives output) = Unit {0}
IsDefined (Breaks fault) = Unit {0}
IsDefined Undefined = ⊥

-- an outcome is an output
abbrev pub IsGiven : Outcome → Type 0
IsGiven (Gives output) = Unit {0}
IsGiven (Breaks fault) = ⊥
IsGiven Undefined = ⊥

-- an action that is ready has a meaning, whoever decides
abbrev pub ReadyIsDefined : Type 0
ReadyIsDefined =
    (meaning : Meaning) (action : Action) (memory : Memory) → IsReady action memory → IsDefined (outcome_of meaning action memory)

-- readiness is told by what the action reads
abbrev pub ReadinessIsLocal : Type 0
ReadinessIsLocal =
    (action : Action) (memory other : Memory)
    → AgreeOn (areas_read action) memory other → IsReady action memory → IsReady action other

-- ---- in its turn

-- each action before number p gave an output
abbrev pub GaveBefore : Clients → List Numbered → ℕ → Type 0
GaveBefore clients units p = (q : ℕ) → q < p → IsGiven (outcome_at clients units q (memory_before clients units q))

-- each action of a command that may be run, before which no data rule is broken, is ready in its turn
abbrev pub ActionsAreReady : Type 0
ActionsAreReady =
    (clients : Clients) (rec : List Command) (n p : ℕ) (unit : Numbered)
    → IsAccepted rec n → slice_get (actions rec) p ≡ Some unit → unit.command < n → GaveBefore clients (actions rec) p
    → IsReady unit.action (memory_before clients (actions rec) p)

-- some actions up to number p: with each of them those before it that write what it reads are among them,
-- and each of them before p gave an output
pub record AreSources (clients : Clients) (units : List Numbered) (among : ℕ → Bool) (p : ℕ) : Type 0 where
  pub closed :
      (q r : ℕ) (l : Location) → q < r → r ≤ p → among r ≡ true
      → writes (action_at units q) l ≡ true → cover (areas_read (action_at units r)) l ≡ true → among q ≡ true
  pub gave : (q : ℕ) → q < p → among q ≡ true → IsGiven (outcome_at clients units q (memory_before clients units q))

-- for an action to be ready in its turn it is enough that those gave an output of which it reads, and those
-- of which these read, and so on: any other may break a data rule
abbrev pub SourcesAreEnough : Type 0
SourcesAreEnough =
    (clients : Clients) (rec : List Command) (n p : ℕ) (unit : Numbered) (among : ℕ → Bool)
    → IsAccepted rec n → slice_get (actions rec) p ≡ Some unit → unit.command < n
    → among p ≡ true → AreSources clients (actions rec) among p
    → IsReady unit.action (memory_before clients (actions rec) p)

-- the actions of the first n commands of a recording, in recording order
abbrev pub first_actions : List Command → ℕ → List Numbered
first_actions rec n = actions_from rec 0 at_first (take n rec)

-- the run of commands that may be run has a meaning
abbrev pub RunsAreKnown : Type 0
RunsAreKnown =
    (clients : Clients) (rec : List Command) (n : ℕ)
    → IsAccepted rec n → run_from clients nothing_live (first_actions rec n) ≡ Unknown → ⊥

-- ---- what is refused, and what isn't

-- each command before the one that is refused by the rules on the recording alone, in whatever order of
-- its commands, keeps the static rules
abbrev pub UnrefusedKeepRules : Type 0
UnrefusedKeepRules =
    (order : Ordering) (rec : List Command) (i : ℕ) (c : Command)
    → i < refused_from (length rec) (rule_refusal order rec) → slice_get rec i ≡ Some c
    → AreKept (static_table rec (status_at rec i) c)

-- the script of each command that may be run is one
abbrev pub AcceptedHaveScripts : Type 0
AcceptedHaveScripts = (rec : List Command) (n i : ℕ) → IsAccepted rec n → i < n → HasScript (command_at rec i)

-- of a recording, the commands below number n may be run where they keep the static rules
abbrev pub KeptAreAccepted : List Command → Type 0
KeptAreAccepted rec = (n : ℕ) → KeepStaticRules rec n → IsAccepted rec n
