use Rattle.std.proofs.Common.{subst}
use Rattle.std.specs.Option.{option_map}
use Rattle.ray_cmd.specs.declared.command.Command.TheVariants as commands
use Rattle.ray_queues.specs.Keeping.{IsHere}
use Rattle.ray_queues.proofs.Passing.{marks-absent}
use Rattle.ray_queues.proofs.keeping.signal_by.Goals as goal

pub returns-in-None : goal.returns-in-None
returns-in-None c = λ q have here z are.
    marks-absent q c.args.n c.args.marks.now
    (subst (λ o. IsHere q c.args.n commands.Submit (option_map (λ s. s.now) o)) c.in-None.is here) are
