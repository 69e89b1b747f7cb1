use Rattle.std.proofs.Common.{◌<◌, length, arith}
use Rattle.std.proofs.lemmas.Bool.Decides.{nat_tests}
use Rattle.ray_bottom.specs.Builders.{bare}
use Rattle.ray_memory.specs.State.{memory_of}
use Rattle.ray_device.specs.Bottoms.{add_all_now}
use Rattle.ray_device.proofs.Adding.{goes_on_at}
use Rattle.ray_device.proofs.bottoms.with_geometries.Goals as goal

pub loop-geometry-preserved : goal.loop-geometry-preserved
loop-geometry-preserved c =
    let m = memory_of c.args.state.now in
    let gs = c.args.geometries.now in
    let k = c.loop-geometry.geometry-index in
    let below : k < length gs = (let t = c.loop-geometry-test.true in grind (arith, nat_tests)) in
    goes_on_at m (add_all_now m gs (bare c.args.builder)) gs k _ (bare c.loop-geometry.builder) (bare c.add.new.builder) below c.loop-geometry.invariant c.in_ok-add.ensures
