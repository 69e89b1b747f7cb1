use Rattle.std.proofs.Common.{◌∙◌}
use Rattle.ray_bottom.proofs.Held.{span_in_object-is}
use Rattle.ray_bottom.proofs.testing.span.Goals as goal

pub returns : goal.returns
returns c =
    c.object_span.ensures ∙ span_in_object-is c.args.ray.now c.args.m.now c.args.b.now c.object_ray.result c.object_ray.ensures.value
