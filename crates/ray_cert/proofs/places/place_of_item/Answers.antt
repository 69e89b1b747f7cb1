use Rattle.std.proofs.Common.{arith}
use Rattle.ray_bottom.specs.Trees.{place_at}
use Rattle.ray_cert.proofs.Placed.{place-found, place-left}
use Rattle.ray_cert.proofs.places.place_of_item.Goals as goal

pub returns-then-left-count : goal.returns-then-left-count
returns-then-left-count c =
    let gs = c.args.bottom.now.geometries in
    place-found gs c.loop-geometry.geometry c.count-count.result c.loop-geometry.left (place_at gs c.args.item)
    c.count-count.ensures c.loop-geometry.invariant c.if-left-count.true

pub loop-geometry-preserved : goal.loop-geometry-preserved
loop-geometry-preserved c =
    let gs = c.args.bottom.now.geometries in
    place-left gs c.loop-geometry.geometry c.count-count.result c.loop-geometry.left (place_at gs c.args.item)
    c.count-count.ensures c.loop-geometry.invariant (omega arith)
