-- The commands of a recording that is submitted to queues have their sources.
use Rattle.std.proofs.Common.{◌≡◌, ◌==◌, List, [], ◌∷◌, length, Bool, true, false, Some, Result, Ok, Err, refl, sym, subst}
use Rattle.std.specs.Prelude.{codes, if◌then◌else◌, min}
use Rattle.serde_json.specs.Data.{Data}
use Rattle.serde_json.specs.Find.{get}
use Rattle.ray_cmd.specs.declared.command.Command.{Command}
use Rattle.ray_cmd.specs.declared.fault.RecordingFault.TheVariants as recordings
use Rattle.ray_cmd.specs.Recordings.{Reading, recording_of}
use Rattle.ray_cmd.specs.Sources.{AreSourced}
use Rattle.ray_cmd.proofs.Recorded.{recorded}
use Rattle.ray_cmd.proofs.Sourced.{are_sourced}
use Rattle.ray_json.specs.Fields.{only}
use Rattle.ray_submits.specs.declared.fault.QueueFault.{QueueFault}
use Rattle.ray_submits.specs.declared.fault.QueueFault.TheVariants.{BadSubmits}
use Rattle.ray_submits.specs.declared.submission.Submission.{Submission}
use Rattle.ray_submits.specs.Reading.{◌>>=◌, commands_in, counted, or_no_object, queues_of, submit_count, submits_of}
use Rattle.ray_submits.specs.Submits.{QueueCommands}

-- commands that a JSON value spells have their sources
pub spelled : (d : Data) (rec : List Command) → recording_of d ≡ Ok rec → AreSourced rec
spelled d rec is = are_sourced (Some d) (Ok rec) (recorded (Some d) (Ok rec) is)

-- what is read after something else was read after it
first : {A B : Type 0} (read : Result A QueueFault) (next : A → Result B QueueFault) (b : B) → (read >>= next) ≡ Ok b → (a : A) × (read ≡ Ok a) × (next a ≡ Ok b)
first (Ok a) next b e = (a, refl, e)
first (Err fault) next b e = absurd cc

are_commands : (read : Reading) (rec : List Command) → commands_in read ≡ Ok rec → read ≡ Ok rec
are_commands (Ok cs) rec e = cc
are_commands (Err recordings.NotJson) rec e = absurd cc
are_commands (Err (recordings.BadShape i)) rec e = absurd cc
are_commands (Err recordings.NoMemory) rec e = absurd cc

are_counted : (cs : List Command) (submits : List Submission) (q : QueueCommands) → counted cs submits ≡ Ok q → q.commands ≡ cs
are_counted cs submits q e = choose (length submits == submit_count cs) e
  where
    odd : QueueFault
    odd = BadSubmits (min (length submits) (submit_count cs))

    choose : (b : Bool) → (if b then Ok (record { commands = cs; submits = submits }) else Err odd) ≡ Ok q → q.commands ≡ cs
    choose true f = cc
    choose false f = absurd cc

pub queues_sourced : (d : Data) (q : QueueCommands) → queues_of d ≡ Ok q → AreSourced q.commands
queues_sourced d q e =
    let one = first (or_no_object (only (codes "commands" ∷ codes "submits" ∷ []) d)) _ q e in
    let two = first (or_no_object (get (codes "commands") d)) _ q one.2 in
    let three = first (or_no_object (get (codes "submits") d)) _ q two.2 in
    let four = first (commands_in (recording_of two.0)) _ q three.2 in
    let five = first (submits_of three.0) _ q four.2 in
    let same : four.0 ≡ q.commands = sym (are_counted four.0 five.0 q five.2) in
    subst AreSourced same (spelled two.0 four.0 (are_commands (recording_of two.0) four.0 four.1))
