use Rattle.std.proofs.Common.{arith}
use Rattle.ray_memory.specs.State.{memory_of}
use Rattle.ray_exec.proofs.Places.{filled_drawn, filled_length}
use Rattle.ray_exec.proofs.gathering.put.Goals as goal

pub index_mut-requires : goal.index_mut-requires
index_mut-requires g c =
    let many = filled_length c.args.rec.now (g.F.Fetcher.clients c.args.fetcher.now c.args.rec.now) (memory_of c.args.state.now) c.args.pieces.now c.args.places.now.items c.requires.filled in
    let within = c.requires.drawn.within in
    let size = c.args.places.now.ok.0 in
    omega (arith, many, within, size)

pub returns : goal.returns
returns g c = filled_drawn c.args.rec.now (g.F.Fetcher.clients c.args.fetcher.now c.args.rec.now) (memory_of c.args.state.now) c.args.pieces.now c.args.places.now.items c.args.drawn c.requires.filled c.requires.drawn
