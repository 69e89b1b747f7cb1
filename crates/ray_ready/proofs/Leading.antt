-- Actions one after the other: each is ready, and what comes after all of them.
use Rattle.std.proofs.Common.{◌<◌, ◌++◌, ℕ, List, [], ◌∷◌, map}
use Rattle.ray_cmd.specs.declared.command.Command.{Command}
use Rattle.ray_rules.specs.Status.{Status}
use Rattle.ray_action.specs.Memory.{Memory}
use Rattle.ray_action.specs.Action.{Action}
use Rattle.ray_action.specs.Outcomes.{Output, Gives}
use Rattle.ray_action.specs.Pieces.{Numbered, numbered}
use Rattle.ray_action.specs.Readiness.{IsReady}
use Rattle.ray_action.specs.Storing.{put}
use Rattle.ray_ready.proofs.Ties.{Ties}
use Rattle.ray_ready.proofs.Allowed.{IsAllowed}
use Rattle.ray_ready.proofs.Ready.{allowed_ready}
use Rattle.ray_ready.proofs.Giving.{MayGive}
use Rattle.ray_ready.proofs.Storing.{WritesBytes, ties_written}

-- actions are ready one after the other, whatever each gives that it may give, and then this is so of the
-- memory
abbrev pub Leads : List Action → Memory → (Memory → Type 0) → Type 0
Leads [] m Q = Q m
Leads (a ∷ rest) m Q = IsReady a m × ((o : Output) → MayGive a m o → Leads rest (put a (Gives o) m) Q)

pub leads_to : (rest : List Action) (m : Memory) (Q R : Memory → Type 0) → ((z : Memory) → Q z → R z) → Leads rest m Q → Leads rest m R
leads_to [] m Q R next is = next m is
leads_to (a ∷ rest) m Q R next is = (is.0, λ o may. leads_to rest (put a (Gives o) m) Q R next (is.1 o may))

pub one_leads : (a : Action) (m : Memory) (Q : Memory → Type 0) → IsReady a m → ((o : Output) → MayGive a m o → Q (put a (Gives o) m))
    → Leads (a ∷ []) m Q
one_leads a m Q ready next = (ready, next)

-- actions that write bytes alone
abbrev pub AreOfBytes : List Command → Status → List Action → Type 0
AreOfBytes rec z [] = Unit {0}
AreOfBytes rec z (a ∷ rest) = (IsAllowed rec z a × WritesBytes a) × AreOfBytes rec z rest

pub bytes_lead : (rec : List Command) (i k : ℕ) (z : Status) (rest : List Action) (m : Memory) → AreOfBytes rec z rest → Ties rec i k z m → Leads rest m (Ties rec i k z)
bytes_lead rec i k z [] m are ties = ties
bytes_lead rec i k z (a ∷ rest) m are ties = (
  allowed_ready rec i k z m a ties are.0.0,
  λ o may. bytes_lead rec i k z rest (put a (Gives o) m) are.1 (ties_written rec i k z m a o are.0.1 ties),
)

-- ---- over the actions of a recording

-- each action of a command below number n is ready in its turn, whatever those before it give that they
-- may give
abbrev pub AreReadyBelow : ℕ → List Numbered → Memory → Type 0
AreReadyBelow n [] m = Unit {0}
AreReadyBelow n (u ∷ us) m =
    (u.command < n → IsReady u.action m)
    × ((o : Output) → (u.command < n → MayGive u.action m o) → AreReadyBelow n us (put u.action (Gives o) m))

pub ready_through : (n i : ℕ) (rest : List Action) (us : List Numbered) (m : Memory) (Q : Memory → Type 0) → i < n → Leads rest m Q
    → ((z : Memory) → Q z → AreReadyBelow n us z) → AreReadyBelow n (map (numbered i) rest ++ us) m
ready_through n i [] us m Q less is next = next m is
ready_through n i (a ∷ rest) us m Q less is next =
    (λ below. is.0, λ o may. ready_through n i rest us (put a (Gives o) m) Q less (is.1 o (may less)) next)
