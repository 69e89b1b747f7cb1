-- What holds between two commands of a run in recording order. (Own.)
use Rattle.std.specs.Prelude.{ℕ, ◌<◌, ◌+◌, List, length}
use Rattle.ray_cmd.specs.declared.command.Command.{Command}
use Rattle.ray_cmd.specs.declared.command.Command.TheVariants as commands
use Rattle.ray_action.specs.Clients.{Clients}
use Rattle.ray_action.specs.Memory.{Memory}
use Rattle.ray_action.specs.Pieces.{command_at, rays_range}
use Rattle.ray_action.specs.Traceable.{IsTraceable}
use Rattle.ray_permitted.specs.Job.{on_one_queue}
use Rattle.ray_ready.specs.Accepted.{KeepStaticRules}
use Rattle.ray_exec.specs.Runs.{IsRunTo}

-- the first rays of a trace can be traced, where it has any
abbrev pub CanBegin : Memory → Command → Type 0
CanBegin memory (commands.Trace top rays count hits flags mask script) = 0 < count → IsTraceable memory top (rays_range rays count 0) flags
CanBegin memory _ = Unit {0}

-- so it is before each trace of commands that keep the static rules
abbrev pub TracesCanBegin : List Command → Type 0
TracesCanBegin rec =
    (clients : Clients) (i : ℕ) (memory : Memory) (text : List ℕ)
    → i < length rec → KeepStaticRules rec (i + 1) → IsRunTo (on_one_queue rec clients) i memory text
    → CanBegin memory (command_at rec i)
