-- Words of private types alone: what a transform is kept with. They stand apart from `Transform`, since equality is told
-- of transforms.
use Rattle.std.specs.Prelude.{◌≡◌, Bool}
use Rattle.ray_geom.specs.Transform.{MatrixValue, IsMatrix, identity_value}
use Rattle.ray_geom.specs.Equality.{matrix_eq}

-- a transform within the limits, with whether it leaves each point where it is
pub record IsTold (m : MatrixValue) (stays : Bool) : Type 0 where
  pub limits : IsMatrix m
  pub stays_is : stays ≡ matrix_eq m identity_value
