use Rattle.std.proofs.Common.{◌+◌, ◌++◌, ◌∷◌, [], Ok, drop, length, sym, ap, ◌∙◌, arith, length-append}
use Rattle.serde_json.specs.View.{view, items_view}
use Rattle.ray_cmd.specs.Recordings.{◌>>=◌, commands_from}
use Rattle.ray_cmd.proofs.Going.{all_read, goes_on, next_item}
use Rattle.ray_cmd.proofs.Recorded.{recording_is}
use Rattle.ray_cmd.proofs.Sourced.{items_sourced}
use Rattle.ray_cmd.proofs.reading.recording.Goals as goal

pub loop-i-preserved : goal.loop-i-preserved
loop-i-preserved c =
    let l = c.loop-i in
    let values = c.args.values.now in
    let value = c.index-values-i.result in
    let next = next_item values l.i value c.loop-i-test.true c.index-values-i.is in
    let pushed = c.in_ok-push.ensures.pushed in (
      goes_on l.i l.left c.in_ok-left.left (view value) (items_view (drop (l.i + 1) values)) l.commands _ c.in_ok-command.command
          c.if-i-ge-MOST_COMMANDS.false c.in_ok-command.ensures (sym c.in_ok-left.ensures) pushed
          ∙ (ap (λ ds. commands_from l.i l.left ds >>= λ commands. Ok (l.commands ++ commands)) (sym next) ∙ l.invariant.0),
      ap length pushed ∙ (length-append l.commands (c.in_ok-command.command ∷ []) ∙ ap (λ n. n + 1) l.invariant.1),
      omega arith,
    )

pub new-requires-clause-sourced : goal.new-requires-clause-sourced
new-requires-clause-sourced c =
    let l = c.loop-i in
    let values = c.args.values.now in
    let ds = items_view values in
    let past = c.loop-i-test.false in
    items_sourced ds l.commands (recording_is ds l.commands (all_read values l.i l.left l.commands (omega (arith, past)) l.invariant.0))
