use Rattle.std.proofs.Common.{Some}
use Rattle.ray_certify.specs.Scenes.{seen_in}
use Rattle.ray_certify.proofs.Lines.{adds_first, adds_next}
use Rattle.ray_certify.proofs.certifying.certify_rays.Goals as goal

pub loop-number-init : goal.loop-number-init
loop-number-init g c = adds_first c.args.way (g.C.Client.meaning c.args.client.now) (seen_in (Some c.args.seen.now)) c.args.lines.now.items

pub loop-number-preserved : goal.loop-number-preserved
loop-number-preserved g c =
    adds_next c.args.way (g.C.Client.meaning c.args.client.now) (seen_in (Some c.args.seen.now)) c.loop-number.number c.args.lines.now.items c.loop-number.lines.items c.certify_ray.new.lines.items
    c.loop-number.invariant c.in_ok-certify_ray.ensures
