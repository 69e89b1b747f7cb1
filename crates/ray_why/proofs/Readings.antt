-- What an error of the reader says of the bytes.
use Rattle.std.proofs.Common.{ℕ, ◌≡◌, List, None, Result, Ok, Err}
use Rattle.std.specs.Prelude.{IfOk}
use Rattle.std.specs.Str.{IsUtf8}
use Rattle.serde_json.specs.Data.{Data}
use Rattle.serde_json.specs.Errors.{IsMemory}
use Rattle.serde_json.specs.Read.{read}
use Rattle.serde_json.specs.declared.error.Error.{Error}
use Rattle.ray_cmd.specs.declared.command.Command.{Command}
use Rattle.ray_cmd.specs.Json.{json_of}
use Rattle.ray_cmd.specs.Recordings.{recording_of}
use Rattle.ray_cmd.proofs.Utf8Json.{json_none}
use Rattle.ray_why.specs.declared.reasons.Unread.{Unread}
use Rattle.ray_why.specs.declared.reasons.Unread.TheVariants as unreads
use Rattle.ray_why.specs.declared.reasons.Why.{Why}
use Rattle.ray_why.specs.declared.reasons.Why.TheVariants as whys
use Rattle.ray_why.specs.Reasons.{IsOfError, IsOfRules, IsUnread, IsWhyOf}

pub error_tells : (u : Unread) (error : Error) (bytes : List ℕ) → IsOfError u error → (¬ IsMemory error → IsUtf8 bytes → read bytes ≡ None) →
    IsUnread u (json_of bytes)
error_tells (unreads.NotJson words) error bytes told none = json_none bytes (none told)
error_tells unreads.NoMemory error bytes told none = tt

-- what the rules say of the commands is what is told of their JSON value
pub rules_tell :
    {E : Type 0} (r : Result Why E) (commands : List Command) (d : Data) → recording_of d ≡ Ok commands
    → IfOk r (λ why. IsOfRules why commands) → IfOk r (λ why. IsWhyOf why d)
rules_tell (Err e) commands d read told = tt
rules_tell (Ok whys.Kept) commands d read told = record { commands = commands; read = read; rules = told }
rules_tell (Ok (whys.NotJson words)) commands d read told = absurd told
rules_tell (Ok (whys.BadShape m)) commands d read told = absurd told
rules_tell (Ok (whys.Refused broken)) commands d read told = record { commands = commands; read = read; rules = told }
