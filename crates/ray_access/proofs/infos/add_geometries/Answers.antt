use Rattle.ray_rules.specs.Access.{input_reads}
use Rattle.ray_access.proofs.Joining.{adds_next}
use Rattle.ray_access.proofs.infos.add_geometries.Goals as goal

pub loop-geometry-preserved : goal.loop-geometry-preserved
loop-geometry-preserved c =
    adds_next c.args.status.now (input_reads c.args.status.now.buffers) c.args.geometries.now
    c.loop-geometry.geometry-index _ c.args.list.now.items c.loop-geometry.list.items c.add_inputs.new.list.items
    c.loop-geometry-test.true c.loop-geometry.invariant c.in_ok-add_inputs.ensures
