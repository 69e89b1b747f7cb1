use Rattle.ray_memory.specs.State.{memory_of}
use Rattle.ray_exec.proofs.Places.{filled_if}
use Rattle.ray_exec.proofs.gathering.places.Goals as goal

pub returns-then-workers-lt2 : goal.returns-then-workers-lt2
returns-then-workers-lt2 g c = filled_if c.args.rec.now (g.F.Fetcher.clients c.args.fetcher.now c.args.rec.now) (memory_of c.args.state.now) c.args.pieces.now c.empty.result c.empty.ensures

pub returns-in-None : goal.returns-in-None
returns-in-None g c = filled_if c.args.rec.now (g.F.Fetcher.clients c.args.fetcher.now c.args.rec.now) (memory_of c.args.state.now) c.args.pieces.now c.empty-in-None.result c.empty-in-None.ensures
