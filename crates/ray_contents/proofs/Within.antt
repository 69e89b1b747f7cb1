-- What is Some exactly where a fact holds is the value where it holds.
use Rattle.std.proofs.Common.{◌≡◌, ◌^◌, Option, Some, None, refl, ap}
use Rattle.std.specs.Prelude.{SomeIff}
use Rattle.ray_geom.specs.declared.vec3.Vec3.{Vec3}
use Rattle.ray_geom.specs.Vector.{IsShort}
use Rattle.ray_geom.specs.Transform.{MatrixValue, IsMatrix}
use Rattle.ray_geom.specs.Decided.{where_so, short_decided, matrix_decided}
use Rattle.ray_contents.specs.Limits.{point_within, matrix_within}

where_so-SomeIff : {P X : Type 0} (d : Dec P) (o : Option X) (x : X) → SomeIff o P x → o ≡ where_so d x
where_so-SomeIff (yes p) None x h = absurd (h p)
where_so-SomeIff (yes p) (Some y) x h = ap Some h.1
where_so-SomeIff (no n) None x h = refl
where_so-SomeIff (no n) (Some y) x h = absurd (n h.0)

pub point_within-SomeIff : (v : Vec3) (o : Option Vec3) → SomeIff o (IsShort (2 ^ 19) v) v → o ≡ point_within v
unfolding point_within
point_within-SomeIff v o h = where_so-SomeIff (short_decided (2 ^ 19) v) o v h

pub matrix_within-SomeIff : (m : MatrixValue) (o : Option MatrixValue) → SomeIff o (IsMatrix m) m → o ≡ matrix_within m
unfolding matrix_within
matrix_within-SomeIff m o h = where_so-SomeIff (matrix_decided m) o m h
