use Rattle.std.proofs.Common.{arith}
use Rattle.ray_bench_traces.proofs.Room.{after_triangles}
use Rattle.ray_bench_traces.proofs.shapes.add_triangles.Goals as goal

-- a geometry of at most 40 leaves room
pub returns : goal.returns
returns c =
    after_triangles _ _ _ _ _ _ _ c.triangles.ensures.added (let below = c.below-count.ensures in omega arith)
