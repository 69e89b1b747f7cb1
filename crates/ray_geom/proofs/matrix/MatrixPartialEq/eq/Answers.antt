use Rattle.std.proofs.Common.{◌∙◌}
use Rattle.ray_geom.specs.Equality.{matrix_eq}
use Rattle.ray_geom.proofs.matrix.MatrixPartialEq.eq.Goals as goal

pub returns : goal.returns
returns c = c.eq.ensures ∙ (λ i. matrix_eq (c.self.view_is i) (c.other.view_is i))
