use Rattle.std.specs.Prelude.{option_copied}
use Rattle.ray_bottom.proofs.Updating.{triangles-added}
use Rattle.ray_bottom.proofs.builder.Builder.triangles.Goals as goal

pub invariant_of-self-2 : goal.invariant_of-self-2
invariant_of-self-2 c =
    let info = c.args.info.now in
    triangles-added c.self.inside.contents c.push.new.self (option_copied c.self.inside.replaced) info c.args.vertices c.args.indices c.args.transform
    (option_copied c.old_triangles-olds.result) c.geometries-geometry.result info.opaque info.format info.index_size c.in_ok-triangles.triangles
    c.old_triangles-olds.ensures c.geometries-geometry.ensures.value c.in_ok-triangles.ensures.value c.in_ok-push.ensures.ok c.self.invariant
