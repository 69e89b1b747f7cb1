use Rattle.std.proofs.Common.{get_or}
use Rattle.ray_geometries.proofs.Restoring.{IsStoredBack-geometry}
use Rattle.ray_geometries.proofs.stored_law.stored_back.Goals as goal

pub returns : goal.returns
returns c = λ k d below. IsStoredBack-geometry (get_or c.args._contents.now.geometries k d) (c.geometries-geometries.ensures.limits.each k d below)
