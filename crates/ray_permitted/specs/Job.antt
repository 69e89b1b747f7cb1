-- What runs: commands, who decides on the candidates of their traces, and in which order they are kept. (Own.)
use Rattle.std.specs.Prelude.{ℕ, List, Bool}
use Rattle.ray_cmd.specs.declared.command.Command.{Command}
use Rattle.ray_rules.specs.Order.{Ordering, barriers, before}
use Rattle.ray_action.specs.Clients.{Clients, scripts}

-- a job: its commands, the clients of its traces, and the order of its commands
pub record Job : Type 0 where
  pub commands : List Command
  pub clients : Clients
  pub order : Ordering

-- the commands of a recording in an order, where these clients decide
abbrev pub in_order : List Command → Clients → Ordering → Job
in_order rec clients order = record { commands = rec; clients = clients; order = order }

-- those on one queue, in the order that its barriers and waits give
abbrev pub on_one_queue : List Command → Clients → Job
on_one_queue rec clients = in_order rec clients (barriers rec)

-- the job of a recording alone: the scripts of its traces decide
abbrev pub recorded : List Command → Job
recorded rec = on_one_queue rec (scripts rec)

-- whether a command of a job is ordered before another
abbrev pub comes_before : Job → ℕ → ℕ → Bool
comes_before job = before job.order job.commands
