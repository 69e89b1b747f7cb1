-- Which table belongs to which command: the k-th to the k-th trace. (Own.)
use Rattle.std.specs.Prelude.{ℕ, ◌==◌, not, Bool, List, Option, Some, None, length, map, slice_get, take}
use Rattle.std.specs.List.{filter_map, range_with_len}
use Rattle.ray_query.specs.declared.candidate.Candidate.{Candidate}
use Rattle.ray_query.specs.declared.decision.Decision.{Decision}
use Rattle.ray_cmd.specs.declared.command.Command.{Command}
use Rattle.ray_cmd.specs.declared.command.Command.TheVariants as commands
use Rattle.ray_pipe.specs.HitGroup.{Table, no_groups, group_decision}

-- whether a trace has a script of its own; another command is no trace
abbrev pub trace_of : Command → Option Bool
trace_of (commands.Trace top rays count hits flags mask script) = Some (not (length script == 0))
trace_of _ = None

-- the traces among some commands, in order, each by whether it has a script of its own
abbrev pub traces_of : List Command → List Bool
traces_of cs = filter_map trace_of cs

-- how many traces come before command number i
abbrev pub count_before : List Command → ℕ → ℕ
count_before cs i = length (traces_of (take i cs))

-- of each command of a recording, how many traces come before it
abbrev pub counts_of : List Command → List ℕ
counts_of cs = map (count_before cs) (range_with_len 0 (length cs))

-- the tables of a recording's traces, in order, and of each command how many traces come before it
pub record TraceTables : Type 0 where
  pub tables : List Table
  pub counts : List ℕ

-- a table, where it is there; else one without groups
abbrev pub table_in : Option Table → Table
table_in None = no_groups
table_in (Some table) = table

-- the table with a number, where there is a number
abbrev pub table_numbered : List Table → Option ℕ → Table
table_numbered tables None = no_groups
table_numbered tables (Some k) = table_in (slice_get tables k)

-- the table of command number i: the k-th, where k traces come before it. Only a trace has candidates to decide on
abbrev pub table_at : TraceTables → ℕ → Table
table_at t i = table_numbered t.tables (slice_get t.counts i)

-- the clients of a recording's traces, each by the number of its command
abbrev pub clients : TraceTables → ℕ → Candidate → Decision
clients t i = group_decision (table_at t i)
