use Rattle.std.proofs.Common.{arith, sym}
use Rattle.std.proofs.Common.{◌++◌}
use Rattle.std.specs.Option.{option_to_list}
use Rattle.ray_hazards.proofs.Reaching.{reach-all, reach-like, reach-then}
use Rattle.ray_hazards.proofs.merging.merged_in_a_row.Goals as goal

pub returns : goal.returns
returns c =
    let starts = c.args.cells.now in
    let ts = c.args.touches.now in
    let parts = c.loop-touch.merged.items ++ option_to_list c.loop-touch.last in
    let after = c.loop-touch-test.false in
    let within = c.loop-touch.auto.touch-index-end in
    reach-then starts ts parts c.in_ok-whole.whole.items
    (reach-all starts ts c.loop-touch.touch-index parts (omega arith) c.loop-touch.invariant)
    (reach-like starts parts c.in_ok-whole.whole.items (sym c.in_ok-whole.ensures))
