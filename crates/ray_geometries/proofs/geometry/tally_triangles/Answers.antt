use Rattle.std.proofs.Common.{◌≡◌, ◌+◌, get_or, arith}
use Rattle.ray_contents.proofs.Extending.{bounds_more}
use Rattle.ray_primitives.specs.Primitives.{box_of_triangle}
use Rattle.ray_geometries.specs.Tallies.{one_if_some}
use Rattle.ray_geometries.proofs.Counting.{active_more, active_among}
use Rattle.ray_geometries.proofs.geometry.tally_triangles.Goals as goal

pub loop-t-preserved : goal.loop-t-preserved
loop-t-preserved c =
    let bounds = bounds_more box_of_triangle c.args.bounds c.args.triangles.now c.loop-t.t-index c.t-item.result c.loop-t-test.true in
    let more = active_more box_of_triangle c.args.triangles.now c.loop-t.t-index c.t-item.result c.loop-t-test.true in
    let among = active_among box_of_triangle c.args.triangles.now (c.loop-t.t-index + 1) (omega (arith, c.loop-t-test.true)) in
    let one = c.one_if_some-active.ensures in
    let item : one_if_some (box_of_triangle (get_or c.args.triangles.now c.loop-t.t-index c.t-item.result)) ≡ one_if_some c.bounds-more.result = cc in
    let so_far = c.loop-t.invariant.active in
    record {
      bounds = cc;
      active = omega (arith, one, item, so_far, more);
      few = omega (arith, one, item, so_far, more, among);
    }
