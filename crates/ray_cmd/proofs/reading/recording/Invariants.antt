use Rattle.std.proofs.Common.{◌≡◌, ◌≤◌, ◌++◌, Ok, drop, length}
use Rattle.serde_json.specs.View.{items_view}
use Rattle.ray_cmd.specs.Recordings.{◌>>=◌, most_commands, most_members, commands_from}
use Rattle.ray_cmd.proofs.reading.recording.Given as goal

-- the commands so far go on with what the items that are left spell, and they aren't too many
abbrev pub invariant-loop-i : goal.invariant-loop-i
invariant-loop-i l =
    ((commands_from l.i l.left (items_view (drop l.i l.values)) >>= λ commands. Ok (l.commands ++ commands)) ≡ commands_from 0 most_members (items_view l.values))
    × (length l.commands ≡ l.i) × (l.i ≤ most_commands)
