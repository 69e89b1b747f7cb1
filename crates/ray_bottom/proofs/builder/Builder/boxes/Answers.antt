use Rattle.std.specs.Prelude.{option_copied}
use Rattle.ray_bottom.proofs.Updating.{boxes-added}
use Rattle.ray_bottom.proofs.builder.Builder.boxes.Goals as goal

pub invariant_of-self-2 : goal.invariant_of-self-2
invariant_of-self-2 c =
    boxes-added c.self.inside.contents c.push.new.self (option_copied c.self.inside.replaced) c.args.info.now c.args.boxes (option_copied c.old_boxes-olds.result)
    c.geometries-geometry.result c.args.info.now.opaque c.in_ok-boxes.boxes c.old_boxes-olds.ensures c.geometries-geometry.ensures.value c.in_ok-boxes.ensures.value
    c.in_ok-push.ensures.ok c.self.invariant
