-- What a run needs of an order of commands. The order that barriers and waits give on one queue is one
-- that will do. (Vulkan, "Synchronization and Cache Control": execution dependencies; own: the form.)
use Rattle.std.specs.Prelude.{ℕ, ◌≡◌, ◌<◌, ◌||◌, List, Option, Bool, true}
use Rattle.std.specs.List.{list_any}
use Rattle.ray_cmd.specs.declared.command.Command.{Command}
use Rattle.ray_rules.specs.declared.access_type.AccessType.{AccessType}
use Rattle.ray_rules.specs.declared.kind.Kind.TheVariants.{Device, HostCommand}
use Rattle.ray_rules.specs.declared.stage.Stage.{Stage}
use Rattle.ray_rules.specs.declared.touch.Touch.{Touch}
use Rattle.ray_rules.specs.Hazards.{accesses_at, touches_share}
use Rattle.ray_rules.specs.Order.{Ordering, is_device, kind_at, last_wait}

-- whether some of the touches by command number i and some by command number j share something
abbrev pub some_share : List Command → ℕ → ℕ → List Touch → List Touch → Bool
some_share rec i j ones others =
    list_any (λ other. list_any (λ one. touches_share rec i j one other) ones) others

-- whether the accesses of two commands share something that one of the commands writes
abbrev pub accesses_conflict : List Command → ℕ → ℕ → Bool
accesses_conflict rec i j =
    some_share rec i j (accesses_at rec i).writes (accesses_at rec j).reads
    || (some_share rec i j (accesses_at rec i).writes (accesses_at rec j).writes
    || some_share rec i j (accesses_at rec i).reads (accesses_at rec j).writes)

-- what makes the rules on hazards tell of an order, at the stages of the device: what is covered to a
-- command is ordered before it, and so is all that stands before a `wait` before the command
pub record CarriesOrder (rec : List Command) (order : Ordering) : Type 0 where
  pub covered :
      (i : ℕ) (stage : Stage) (access : AccessType) (thing : Option ℕ) (j : ℕ) (to : Stage) (x : AccessType)
      → is_device to ≡ true → order.covered i stage access thing j to x ≡ true
      → order.ordered i stage j to ≡ true
  pub waits :
      (i j : ℕ) (stage to : Stage) → is_device to ≡ true → i < last_wait rec j
      → order.ordered i stage j to ≡ true

-- an order of the first n commands puts none before itself or an earlier one
abbrev pub GoesForward : ℕ → (ℕ → ℕ → Bool) → Type 0
GoesForward n before = (i j : ℕ) → i < n → j < n → before i j ≡ true → i < j

-- an order separates the first n commands of a recording. It goes forward; it puts a command of the host
-- before all later commands, a device command before what the host does behind a later `wait` and what the
-- device does behind that, and a device command before a later one whose accesses conflict with its own
pub record Separates (rec : List Command) (n : ℕ) (before : ℕ → ℕ → Bool) : Type 0 where
  pub forward : GoesForward n before
  pub host : (i j : ℕ) → i < j → j < n → kind_at rec i ≡ HostCommand → before i j ≡ true
  pub host_waits :
      (i j : ℕ) (stage : Stage) → i < last_wait rec j → j < n → kind_at rec i ≡ Device stage
      → kind_at rec j ≡ HostCommand → before i j ≡ true
  pub device_waits :
      (i h j : ℕ) (stage to : Stage) → i < last_wait rec h → h < j → j < n → kind_at rec i ≡ Device stage
      → kind_at rec h ≡ HostCommand → kind_at rec j ≡ Device to → before i j ≡ true
  pub conflicts :
      (i j : ℕ) (stage to : Stage) → i < j → j < n → kind_at rec i ≡ Device stage
      → kind_at rec j ≡ Device to → accesses_conflict rec i j ≡ true → before i j ≡ true

-- wave numbers of the first n commands separate them. They rise from a command of the host to each later
-- command, from a device command to what the host does behind a later `wait`, and from a device command to a
-- later one whose accesses conflict with its own
pub record NumbersSeparate (rec : List Command) (n : ℕ) (number : ℕ → ℕ) : Type 0 where
  pub host : (i j : ℕ) → i < j → j < n → kind_at rec i ≡ HostCommand → number i < number j
  pub host_waits :
      (i j : ℕ) (stage : Stage) → i < last_wait rec j → j < n → kind_at rec i ≡ Device stage
      → kind_at rec j ≡ HostCommand → number i < number j
  pub conflicts :
      (i j : ℕ) (stage to : Stage) → i < j → j < n → kind_at rec i ≡ Device stage
      → kind_at rec j ≡ Device to → accesses_conflict rec i j ≡ true → number i < number j
