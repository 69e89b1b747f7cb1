use Rattle.std.proofs.Common.{◌≡◌, ◌+◌, get_or, arith, Option}
use Rattle.ray_geom.specs.Boxes.{BoxValue}
use Rattle.ray_contents.proofs.Extending.{bounds_more}
use Rattle.ray_geometries.specs.Tallies.{one_if_some}
use Rattle.ray_geometries.proofs.Counting.{active_more, active_among}
use Rattle.ray_geometries.proofs.geometry.tally_boxes.Goals as goal

pub loop-b-preserved : goal.loop-b-preserved
loop-b-preserved c =
    let bounds = bounds_more (λ (box : Option BoxValue). box) c.args.bounds c.args.boxes.now c.loop-b.b-index c.b-item.result c.loop-b-test.true in
    let more = active_more (λ (box : Option BoxValue). box) c.args.boxes.now c.loop-b.b-index c.b-item.result c.loop-b-test.true in
    let among = active_among (λ (box : Option BoxValue). box) c.args.boxes.now (c.loop-b.b-index + 1) (omega (arith, c.loop-b-test.true)) in
    let one = c.one_if_some-active.ensures in
    let item : one_if_some (get_or c.args.boxes.now c.loop-b.b-index c.b-item.result) ≡ one_if_some c.bounds-more.result = cc in
    let so_far = c.loop-b.invariant.active in
    record {
      bounds = cc;
      active = omega (arith, one, item, so_far, more);
      few = omega (arith, one, item, so_far, more, among);
    }
