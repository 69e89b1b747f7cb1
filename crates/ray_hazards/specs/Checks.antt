-- What is known where a command stands, while hazards are looked for. (Own.)
use Rattle.std.specs.Prelude.{◌≡◌, ◌++◌, ℕ, true, List, All, map}
use Rattle.std.specs.BTreeMap.{is_at}
use Rattle.std.specs.List.{list_any}
use Rattle.std.specs.Ordering.{nat_cmp}
use Rattle.ray_access.specs.declared.touched.Touched.{Touched}
use Rattle.ray_access.specs.declared.touches.Touches.{Touches}
use Rattle.ray_access.specs.Axis.{touched}
use Rattle.ray_access.specs.Lists.{AreTouched, structures_traced}
use Rattle.ray_cmd.specs.declared.command.Command.{Command}
use Rattle.ray_rules.specs.Hazards.{accesses_at, stage_at, status_at}
use Rattle.ray_rules.specs.Status.{Status}
use Rattle.ray_hazards.specs.declared.doing.Doing.{Doing}
use Rattle.ray_hazards.specs.Cells.{is_start}
use Rattle.ray_hazards.specs.Lasts.{ArePlaced, host_reads_at}
use Rattle.ray_hazards.specs.Reaching.{AreReached}

-- what command number n does: of its reads a list that reaches the same
pub record IsDoing (rec : List Command) (starts : List ℕ) (n : ℕ) (doing : Doing) : Type 0 where
  pub at : doing.stage ≡ stage_at rec n
  pub reads : AreReached (status_at rec n) starts (accesses_at rec n).reads doing.touches.reads.items
  pub writes : AreTouched (status_at rec n) (accesses_at rec n).writes doing.touches.writes.items
  pub host : AreTouched (status_at rec n) (host_reads_at rec n) doing.host.items

-- reads of structures, and then what else is touched
pub record AreWithStructures (structures : List Touched) (others touches : Touches) : Type 0 where
  pub reads : touches.reads.items ≡ structures ++ others.reads.items
  pub writes : touches.writes.items ≡ others.writes.items

-- touches begin at starts
abbrev pub AreStarted : List ℕ → List Touched → Type 0
AreStarted starts touches = All (λ (t : Touched). is_start starts t.range.from ≡ true) touches

-- a set of numbers has those of another, and where these touches begin
pub record HasStarts (touches : List Touched) (old new : List ℕ) : Type 0 where
  pub kept : (p : ℕ) → is_start old p ≡ true → is_start new p ≡ true
  pub added : AreStarted new touches

-- the touches of these tops begin at starts
abbrev pub AreStartedTops : List Command → Status → List ℕ → List ℕ → Type 0
AreStartedTops rec z starts known =
    (top : ℕ) → list_any (is_at (nat_cmp top)) known ≡ true
    → AreStarted starts (map (touched z) (structures_traced rec z top))

-- a set of numbers has those of another
abbrev pub HasAll : List ℕ → List ℕ → Type 0
HasAll old new = (p : ℕ) → is_start old p ≡ true → is_start new p ≡ true

-- all that command number n touches begins at starts
pub record IsPlacedAt (rec : List Command) (starts : List ℕ) (n : ℕ) : Type 0 where
  pub reads : ArePlaced rec starts n (accesses_at rec n).reads
  pub writes : ArePlaced rec starts n (accesses_at rec n).writes
  pub host_reads : ArePlaced rec starts n (host_reads_at rec n)
