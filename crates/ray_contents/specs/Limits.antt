-- What is within the limits, as values: a point, the image of a point, a transform. (Own: the limits.)
use Rattle.std.specs.Prelude.{Option, ◌^◌}
use Rattle.ray_geom.specs.declared.vec3.Vec3.{Vec3}
use Rattle.ray_geom.specs.Transform.{MatrixValue, image_of}
use Rattle.ray_geom.specs.Decided.{where_so, short_decided, matrix_decided}

-- a point, where its coordinates are within the limits of points
unfoldable pub point_within : Vec3 → Option Vec3
point_within v = where_so (short_decided (2 ^ 19) v) v

-- the image of a point under a transform, where it is within the limits of points
abbrev pub image_within : MatrixValue → Vec3 → Option Vec3
image_within m v = point_within (image_of m v)

-- a transform, where it is within the limits of transforms
unfoldable pub matrix_within : MatrixValue → Option MatrixValue
matrix_within m = where_so (matrix_decided m) m
