-- All refusals of a recording, where each command is taken as it is. A command that names what isn't live, has sizes too small or
-- makes a structure over another has no status behind it, so it is passed by as one that does nothing. (Own: advice, since a
-- command that breaks a rule leaves no defined state.)
--
-- By hand, where command 2 names a buffer that isn't live, command 4 has a bad flag and command 6 breaks V25 with command 4:
-- the static refusals are those of 2 and of 4; two commands go on before one doesn't, so no hazard is looked for above command 1.
use Rattle.std.specs.Prelude.{ℕ, zero, suc, Bool, true, ◌==◌, ◌&&◌, List, [], ◌++◌, Option, length, slice_get, if◌then◌else◌}
use Rattle.std.specs.List.{cons_option}
use Rattle.std.specs.Option.{option_and_then, option_map_or}
use Rattle.ray_cmd.specs.declared.command.Command.{Command}
use Rattle.ray_cmd.specs.declared.refusal.Refusal.{Refusal}
use Rattle.ray_rules.specs.Refusals.{refusal_at_end, static_refusal_of}
use Rattle.ray_rules.specs.Status.{Status, after, at_first}
use Rattle.ray_valid.specs.Going.{goes_on}

-- the status behind command number i, where one stands before it: that of the command, if it goes on
abbrev pub passed : ℕ → Command → Status → Status
passed i c z = if goes_on z c then after i c z else z

-- the same of a command that is there
abbrev pub passed_at : List Command → ℕ → Status → Status
passed_at rec i z = option_map_or (λ c. passed i c z) (slice_get rec i) z

-- the status before command number n
abbrev pub status_before : List Command → ℕ → Status
status_before rec zero = at_first
status_before rec (suc n) = passed_at rec n (status_before rec n)

-- the refusal of command number i by its least static rule
abbrev pub static_at : List Command → ℕ → Option Refusal
static_at rec i = option_and_then (λ c. static_refusal_of rec i (status_before rec i) c) (slice_get rec i)

-- those of the commands below number n, in rising order
abbrev pub statics_below : List Command → ℕ → List Refusal
statics_below rec zero = []
statics_below rec (suc n) = statics_below rec n ++ cons_option (static_at rec n) []

-- those of all commands and of the end
abbrev pub statics_of : List Command → List Refusal
statics_of rec =
    statics_below rec (length rec) ++ cons_option (refusal_at_end (length rec) (status_before rec (length rec))) []

-- whether command number i goes on
abbrev pub goes_on_at : List Command → ℕ → Bool
goes_on_at rec i = option_map_or (goes_on (status_before rec i)) (slice_get rec i) true

-- with command number i more, which goes on or doesn't, as many go on before one doesn't
abbrev pub next_going : ℕ → ℕ → Bool → ℕ
next_going going i goes = if (going == i) && goes then suc i else going

-- how many of the first n commands go on before one doesn't
abbrev pub going_below : List Command → ℕ → ℕ
going_below rec zero = 0
going_below rec (suc n) = next_going (going_below rec n) n (goes_on_at rec n)
