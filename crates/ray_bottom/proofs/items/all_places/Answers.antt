use Rattle.std.proofs.Common.{rules}
use Rattle.ray_bottom.proofs.Places.{places_more}
use Rattle.ray_bottom.proofs.items.all_places.Goals as goal

pub loop-k-preserved : goal.loop-k-preserved
loop-k-preserved c =
    places_more c.args.geometries.now c.loop-k.k c.index-geometries-k.result c.loop-k.places.items c.append_places.new.places.items
    c.loop-k-test.true c.loop-k.invariant (search rules)
