use Rattle.std.proofs.Common.{ap, Some, option_map}
use Rattle.ray_prune.specs.declared.span.Span.{Span}
use Rattle.ray_prune.specs.BoxSpan.{IsSpan}
use Rattle.ray_prune.proofs.Entries.{span_of-IsSpan}
use Rattle.ray_prune.proofs.Spans.{IsSpan-reduced}
use Rattle.ray_bottom.specs.Meeting.{Through}
use Rattle.ray_bottom.proofs.testing.object_span.Goals as goal

pub returns : goal.returns
returns c =
    let ray = c.args.ray.now in
    let box = c.args.b.now in
    let span : Span = record { entry = c.new.result; exit = c.new-2.result } in
    let is : IsSpan ray box span =
    IsSpan-reduced ray box c.in_ok-reach.reach c.new.result c.new-2.result c.in_ok-reach.ensures.some c.new.ensures c.new-2.ensures in
    ap (option_map Through) (span_of-IsSpan ray box (Some span) is tt)
