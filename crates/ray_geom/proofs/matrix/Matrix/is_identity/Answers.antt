use Rattle.std.proofs.Common.{◌≡◌, subst}
use Rattle.ray_geom.specs.Equality.{matrix_eq}
use Rattle.ray_geom.specs.Transform.{identity_value}
use Rattle.ray_geom.proofs.Identity.{is_told, stays_where}
use Rattle.ray_geom.proofs.matrix.Matrix.is_identity.Goals as goal

pub returns-clause-value : goal.returns-clause-value
returns-clause-value c =
    is_told c.args.self.now c.self.inside.stays
    (subst (λ m. c.self.inside.stays ≡ matrix_eq m identity_value) c.self.view_is c.self.invariant.stays_is)

pub returns-clause-stays : goal.returns-clause-stays
returns-clause-stays c h = stays_where c.args.self.now ((returns-clause-value c).0 h)
