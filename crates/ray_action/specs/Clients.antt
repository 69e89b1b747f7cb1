-- Who decides on the candidates of each trace. (Own; after the shaders and queries that decide on candidates in
-- SPV_KHR_ray_query and SPV_KHR_ray_tracing.)
use Rattle.std.specs.Prelude.{ℕ, ◌≡◌, List, [], None}
use Rattle.ray_script.specs.declared.raw_rule.RawRule.{RawRule}
use Rattle.ray_script.specs.Meaning.{script_decision}
use Rattle.ray_script.specs.Scripts.{refused_at}
use Rattle.ray_query.specs.declared.candidate.Candidate.{Candidate}
use Rattle.ray_query.specs.declared.decision.Decision.{Decision}
use Rattle.ray_cmd.specs.declared.command.Command.{Command}
use Rattle.ray_cmd.specs.declared.command.Command.TheVariants as commands
use Rattle.ray_action.specs.Pieces.{command_at}

-- what a client means: its decision on each candidate
abbrev pub Meaning : Type 0
Meaning = Candidate → Decision

-- the clients of a recording's traces, each by the number of its command
abbrev pub Clients : Type 0
Clients = ℕ → Meaning

-- the rules of the script of a command: a trace alone has a script
abbrev pub rules_of : Command → List RawRule
rules_of (commands.Trace top rays count hits flags mask script) = script
rules_of _ = []

-- it is a script: each rule is within its ranges
abbrev pub HasScript : Command → Type 0
HasScript c = refused_at (rules_of c) ≡ None

-- the clients that the scripts of a recording mean
abbrev pub scripts : List Command → Clients
scripts rec i = script_decision (rules_of (command_at rec i))
