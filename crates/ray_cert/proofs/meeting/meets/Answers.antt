use Rattle.std.proofs.Common.{◌∙◌}
use Rattle.ray_prune.specs.BoxReach.{reach_of}
use Rattle.ray_cert.proofs.Entering.{entered-same}
use Rattle.ray_cert.proofs.meeting.meets.Goals as goal

pub returns : goal.returns
returns c =
    c.is_entered.ensures
    ∙ entered-same c.args.limit.now c.reach_box.result (reach_of c.args.object.now c.args.bounds.now) c.reach_box.ensures.value
