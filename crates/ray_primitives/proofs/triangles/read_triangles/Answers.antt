use Rattle.std.proofs.Common.{◌≡◌, List, length}
use Rattle.std.specs.Prelude.{All}
use Rattle.ray_primitives.specs.Primitives.{TriangleValue, IsTriangleOf}
use Rattle.ray_primitives.proofs.Results.{IfOk-Gives}
use Rattle.ray_primitives.proofs.TriangleLimits.{AreRead-triangles_read}
use Rattle.ray_primitives.proofs.triangles.read_triangles.Goals as goal

pub returns-clause-count : goal.returns-clause-count
returns-clause-count c =
    IfOk-Gives (λ (ts : List TriangleValue). length ts ≡ c.args.info.now.count) _ c.read.result c.read.ensures
    (λ ts e. (AreRead-triangles_read c.args.info.now _ _ _ _ _ ts e).as_many)

pub returns-clause-limits : goal.returns-clause-limits
returns-clause-limits c =
    IfOk-Gives (λ (ts : List TriangleValue). All (IsTriangleOf c.args.info.now.index_size) ts) _ c.read.result c.read.ensures
    (λ ts e. (AreRead-triangles_read c.args.info.now _ _ _ _ _ ts e).each)
