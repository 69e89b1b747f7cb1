use Rattle.std.proofs.Common.{◌∙◌, sym}
use Rattle.ray_queue_check.specs.Lanes.{from_queue}
use Rattle.ray_queue_check.proofs.Using.{host-counts-not, own-counts, used-same}
use Rattle.ray_queue_check.proofs.lanes.marked_own.Goals as goal

pub mark-requires-clause-below : goal.mark-requires-clause-below
mark-requires-clause-below c = c.lanes_or_new-used.ensures.below c.args.n c.requires.below

pub returns-in_ok-mark-in-Some : goal.returns-in_ok-mark-in-Some
returns-in_ok-mark-in-Some c = λ q from own is used.
    c.in_ok-mark-in-Some.ensures (from_queue q from) (own-counts q from c.args.n own ∙ (sym is.at ∙ c.in-Some.is)) is.reads.same is.writes.are
    (c.lanes_or_new-used.ensures.used q from c.args.n used)

pub returns-in-None : goal.returns-in-None
returns-in-None c = λ q from own is used.
    used-same q from c.args.cells.now c.args.n c.args.lanes (host-counts-not q from c.args.n (sym is.at ∙ c.in-None.is)) used
