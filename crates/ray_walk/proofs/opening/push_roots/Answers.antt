use Rattle.std.proofs.Common.{◌<◌, length, arith}
use Rattle.std.proofs.lemmas.Bool.Decides.{nat_tests}
use Rattle.ray_nearest.specs.Adding.{AddsNode}
use Rattle.ray_walk.specs.WideScene.{wide_entry, wide_roots}
use Rattle.ray_walk.proofs.Pushing.{Adds-flat}
use Rattle.ray_walk.proofs.opening.push_roots.Goals as goal

pub loop-i-preserved : goal.loop-i-preserved
loop-i-preserved c =
    let s = c.args.view.now in
    let items = c.args.items.now in
    let k = c.loop-i.i-index in
    let below : k < length items = (let t = c.loop-i-test.true in grind (arith, nat_tests)) in
    Adds-flat (AddsNode c.args.limit (wide_entry s)) (wide_roots s) items k _ c.args.turns.now c.loop-i.turns c.push_root.new.turns below c.loop-i.invariant
    c.in_ok-push_root.ensures
