use Rattle.ray_prune.proofs.Entries.{IfSome-only, span_of-IsSpan}
use Rattle.ray_prune.proofs.box_span.span_box.Goals as goal

pub returns-clause-only : goal.returns-clause-only
returns-clause-only c = IfSome-only c.args.ray.now c.args.b.now c.reduced.result c.reduced.ensures.some

pub returns-clause-value : goal.returns-clause-value
returns-clause-value c =
    span_of-IsSpan c.args.ray.now c.args.b.now c.reduced.result c.reduced.ensures.some c.reduced.ensures.none
