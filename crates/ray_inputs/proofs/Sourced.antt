-- The commands of an input that was read have their sources.
use Rattle.std.proofs.Common.{◌≡◌, List, [], ◌∷◌, Option, Some, None, Result, Ok, Err, refl, subst}
use Rattle.std.specs.Prelude.{codes}
use Rattle.serde_json.specs.Data.{Data}
use Rattle.serde_json.specs.Find.{get}
use Rattle.ray_cmd.specs.declared.command.Command.{Command}
use Rattle.ray_cmd.specs.declared.fault.RecordingFault.TheVariants as recordings
use Rattle.ray_cmd.specs.Recordings.{Reading, recording_of}
use Rattle.ray_cmd.specs.Sources.{AreSourced}
use Rattle.ray_json.specs.Fields.{only}
use Rattle.ray_pipe.specs.Reading.{tables_of}
use Rattle.ray_submits.specs.declared.fault.QueueFault.{QueueFault}
use Rattle.ray_submits.specs.declared.fault.QueueFault.TheVariants as queues
use Rattle.ray_submits.specs.Reading.{queues_of}
use Rattle.ray_submits.specs.Submits.{QueueCommands}
use Rattle.ray_inputs.specs.declared.fault.BadInput.{BadInput}
use Rattle.ray_inputs.proofs.Submitted.{queues_sourced, spelled}
use Rattle.ray_inputs.specs.Inputs.{CertifiedCommands, TabledCommands, ◌>>=◌, certified_of, commands_in, lines_in, or_no_json, or_no_object, queues_in, tabled_of, tables_in}

-- what is read after something else was read after it
first : {A B : Type 0} (read : Result A BadInput) (next : A → Result B BadInput) (b : B) → (read >>= next) ≡ Ok b → (a : A) × (read ≡ Ok a) × (next a ≡ Ok b)
first (Ok a) next b e = (a, refl, e)
first (Err fault) next b e = absurd cc

there : {A : Type 0} (found : Option A) (a : A) → or_no_object found ≡ Ok a → found ≡ Some a
there None a e = absurd cc
there (Some x) a e = cc

are_commands : (read : Reading) (rec : List Command) → commands_in read ≡ Ok rec → read ≡ Ok rec
are_commands (Ok cs) rec e = cc
are_commands (Err recordings.NotJson) rec e = absurd cc
are_commands (Err (recordings.BadShape i)) rec e = absurd cc
are_commands (Err recordings.NoMemory) rec e = absurd cc

tabled_by : (commands tables : Data) (t : TabledCommands)
    → (commands_in (recording_of commands) >>= λ cs. tables_in (tables_of cs tables) >>= λ t. Ok (record { commands = cs; tables = t })) ≡ Ok t
    → AreSourced t.commands
tabled_by commands tables t e =
    let one = first (commands_in (recording_of commands)) _ t e in
    let two = first (tables_in (tables_of one.0 tables)) _ t one.2 in
    let same : record { commands = one.0; tables = two.0 } ≡ t = cc in
    subst (λ (t : TabledCommands). AreSourced t.commands) same (spelled commands one.0 (are_commands (recording_of commands) one.0 one.1))

tabled_from : (d : Data) (t : TabledCommands) → tabled_of d ≡ Ok t → AreSourced t.commands
tabled_from d t e =
    let one = first (or_no_object (only (codes "commands" ∷ codes "tables" ∷ []) d)) _ t e in
    let two = first (or_no_object (get (codes "commands") d)) _ t one.2 in
    let three = first (or_no_object (get (codes "tables") d)) _ t two.2 in
    tabled_by two.0 three.0 t three.2

-- those of a recording with tables
pub tabled_sourced : (found : Option Data) (t : TabledCommands) → (or_no_json found >>= tabled_of) ≡ Ok t → AreSourced t.commands
tabled_sourced None t e = absurd cc
tabled_sourced (Some d) t e = tabled_from d t e

-- and those of one that is submitted to queues
queues_are : (read : Result QueueCommands QueueFault) (q : QueueCommands) → queues_in read ≡ Ok q → read ≡ Ok q
queues_are (Ok p) q e = cc
queues_are (Err queues.BadObject) q e = absurd cc
queues_are (Err (queues.BadShape i)) q e = absurd cc
queues_are (Err (queues.BadSubmits k)) q e = absurd cc
queues_are (Err queues.NoMemory) q e = absurd cc

pub queued_sourced : (found : Option Data) (q : QueueCommands) → (or_no_json found >>= λ d. queues_in (queues_of d)) ≡ Ok q → AreSourced q.commands
queued_sourced None q e = absurd cc
queued_sourced (Some d) q e = queues_sourced d q (queues_are (queues_of d) q e)

-- and those of one with certificates
certified_by : (commands certificates : Data) (c : CertifiedCommands)
    → (commands_in (recording_of commands) >>= λ cs. lines_in certificates >>= λ lines. Ok (record { commands = cs; certificates = lines })) ≡ Ok c
    → AreSourced c.commands
certified_by commands certificates c e =
    let one = first (commands_in (recording_of commands)) _ c e in
    let two = first (lines_in certificates) _ c one.2 in
    let same : record { commands = one.0; certificates = two.0 } ≡ c = cc in
    subst (λ (c : CertifiedCommands). AreSourced c.commands) same (spelled commands one.0 (are_commands (recording_of commands) one.0 one.1))

certified_from : (d : Data) (c : CertifiedCommands) → certified_of d ≡ Ok c → AreSourced c.commands
certified_from d c e =
    let one = first (or_no_object (only (codes "certificates" ∷ codes "commands" ∷ []) d)) _ c e in
    let two = first (or_no_object (get (codes "commands") d)) _ c one.2 in
    let three = first (or_no_object (get (codes "certificates") d)) _ c two.2 in
    certified_by two.0 three.0 c three.2

pub certified_sourced : (found : Option Data) (c : CertifiedCommands) → (or_no_json found >>= certified_of) ≡ Ok c → AreSourced c.commands
certified_sourced None c e = absurd cc
certified_sourced (Some d) c e = certified_from d c e
