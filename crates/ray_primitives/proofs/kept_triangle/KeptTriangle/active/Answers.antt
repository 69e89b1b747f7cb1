use Rattle.std.proofs.Common.{rules}
use Rattle.ray_geom.specs.Scene.{IsTri, tri_value}
use Rattle.ray_primitives.proofs.Keeping.{IsTriangle-kept}
use Rattle.ray_primitives.proofs.kept_triangle.KeptTriangle.active.Goals as goal

pub invariant_of-result : goal.invariant_of-result
invariant_of-result c = IsTriangle-kept _ _ _ _ (let h : IsTri (tri_value c.narrow.result c.narrow-2.result c.narrow-3.result) = search rules in h)
