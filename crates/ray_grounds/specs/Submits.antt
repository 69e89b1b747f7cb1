-- The last command that submits, where no `wait` stands behind it. (Own.)
use Rattle.std.specs.Prelude.{ℕ, zero, suc, List, Option, Some, None, slice_get}
use Rattle.ray_cmd.specs.declared.command.Command.{Command}
use Rattle.ray_cmd.specs.declared.command.Command.TheVariants as commands

-- the same once command number k, where there is one, was gone past
abbrev pub submit_after : Option ℕ → ℕ → Option Command → Option ℕ
submit_after last k (Some commands.Submit) = Some k
submit_after last k (Some commands.Wait) = None
submit_after last k (Some _) = last
submit_after last k None = last

-- the number of the last of the commands below number n that submits, where no `wait` stands behind
-- it
abbrev pub last_submit : List Command → ℕ → Option ℕ
last_submit rec zero = None
last_submit rec (suc n) = submit_after (last_submit rec n) n (slice_get rec n)
