use Rattle.std.proofs.Common.{◌+◌, ◌++◌, Ok, drop, sym, ap, ◌∙◌}
use Rattle.serde_json.specs.View.{view, items_view}
use Rattle.ray_cmd.proofs.Going.{next_item}
use Rattle.ray_submits.specs.Reading.{◌>>=◌, submits_from}
use Rattle.ray_submits.proofs.Going.{goes_on}
use Rattle.ray_submits.proofs.entries.entries.Goals as goal

pub loop-k-preserved : goal.loop-k-preserved
loop-k-preserved c =
    let l = c.loop-k in
    let values = c.args.values.now in
    let value = c.index-values-k.result in
    let next = next_item values l.k value c.loop-k-test.true c.index-values-k.is in
    goes_on l.k (view value) (items_view (drop (l.k + 1) values)) l.submits _ c.in_ok-submission.submission
    c.in_ok-submission.ensures c.in_ok-push.ensures.pushed
    ∙ (ap (λ ds. submits_from l.k ds >>= λ ss. Ok (l.submits ++ ss)) (sym next) ∙ l.invariant)
