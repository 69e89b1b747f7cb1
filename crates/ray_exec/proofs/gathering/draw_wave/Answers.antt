use Rattle.std.proofs.Common.{subst, sym}
use Rattle.ray_memory.specs.State.{memory_of}
use Rattle.ray_exec.specs.Given.{AreFilled}
use Rattle.ray_exec.proofs.Places.{filled_none}
use Rattle.ray_exec.proofs.gathering.draw_wave.Goals as goal

pub gather_all-requires-clause-filled : goal.gather_all-requires-clause-filled
gather_all-requires-clause-filled g c =
    subst (AreFilled c.args.rec.now (g.F.Fetcher.clients c.args.fetcher.now c.args.rec.now) (memory_of c.args.state.now) c.args.pieces.now) (sym c.in_ok-places.ensures)
    (filled_none c.args.rec.now (g.F.Fetcher.clients c.args.fetcher.now c.args.rec.now) (memory_of c.args.state.now) c.args.pieces.now)
