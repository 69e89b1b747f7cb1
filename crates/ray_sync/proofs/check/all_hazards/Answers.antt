use Rattle.ray_hazards.proofs.Starting.{starts-like}
use Rattle.ray_sync.proofs.check.all_hazards.Goals as goal

pub found_below-requires-clause-starts : goal.found_below-requires-clause-starts
found_below-requires-clause-starts c =
    starts-like c.args.rec.now c.in_ok-starts.starts.keys c.in_ok-cells.cells c.until-until.result c.in_ok-cells.ensures
    c.in_ok-starts.ensures
