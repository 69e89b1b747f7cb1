use Rattle.std.proofs.Common.{◌∙◌, sym}
use Rattle.std.proofs.lemmas.Result.{IfOk-weaker}
use Rattle.ray_queue_check.proofs.Using.{other-counts-not, used-same}
use Rattle.ray_queue_check.proofs.lanes.marked.Goals as goal

pub returns-then-own : goal.returns-then-own
returns-then-own c =
    IfOk-weaker c.marked_own.result _ _ (λ after so q from own is used. so q from (sym own ∙ c.if-own.true) is used)
    c.marked_own.ensures

pub returns-else-own : goal.returns-else-own
returns-else-own c = λ q from own is used.
    used-same q from c.args.cells.now c.args.n c.args.lanes (other-counts-not q from c.args.n (sym own ∙ c.if-own.false)) used
