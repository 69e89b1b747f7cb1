-- The least box of points and of boxes.
use Rattle.std.specs.Prelude.{Option, Some, None, List, fold}
use Rattle.std.specs.List.{All}
use Rattle.std.specs.Int.{int_min, int_max}
use Rattle.ray_geom.specs.declared.vec3.Vec3.{Vec3}
use Rattle.ray_geom.specs.Vector.{vec3}
use Rattle.ray_geom.specs.Scene.{TriValue}
use Rattle.ray_geom.specs.Boxes.{BoxValue, box_value, IsIn, IsPart}

-- coordinate by coordinate the lesser of two points (own)
abbrev pub lesser_of : Vec3 → Vec3 → Vec3
lesser_of a b = vec3 (int_min a.x b.x) (int_min a.y b.y) (int_min a.z b.z)

-- coordinate by coordinate the greater of two points (own)
abbrev pub greater_of : Vec3 → Vec3 → Vec3
greater_of a b = vec3 (int_max a.x b.x) (int_max a.y b.y) (int_max a.z b.z)

-- the box of one point
abbrev pub point_box : Vec3 → BoxValue
point_box v = box_value v v

-- the union of two boxes: from the lesser of their least corners to the greater of their greatest (own)
abbrev pub union_of : BoxValue → BoxValue → BoxValue
union_of a b = box_value (lesser_of a.lo b.lo) (greater_of a.hi b.hi)

-- the union of what there is so far, if anything, and one box more
abbrev pub joined_of : Option BoxValue → BoxValue → Option BoxValue
joined_of None box = Some box
joined_of (Some so_far) box = Some (union_of so_far box)

-- the least box of a list of points, by unions in order; none of no points (own)
abbrev pub box_of_points : List Vec3 → Option BoxValue
box_of_points points = fold (λ so_far v. joined_of so_far (point_box v)) None points

-- the least box of a list of boxes, by unions in order; none of no boxes (own)
abbrev pub box_of_boxes : List BoxValue → Option BoxValue
box_of_boxes boxes = fold joined_of None boxes

-- the box of a triangle (own)
abbrev pub box_of_tri : TriValue → BoxValue
box_of_tri tri = union_of (union_of (point_box tri.v0) (point_box tri.v1)) (point_box tri.v2)

-- a box holds all points of a list
abbrev pub HoldsPoints : List Vec3 → BoxValue → Type 0
HoldsPoints points box = All (λ p. IsIn p box) points

-- a box holds all boxes of a list
abbrev pub HoldsBoxes : List BoxValue → BoxValue → Type 0
HoldsBoxes boxes box = All (λ inner. IsPart inner box) boxes

-- a box holds two boxes
pub record HoldsBoth (a b box : BoxValue) : Type 0 where
  pub first : IsPart a box
  pub second : IsPart b box

-- a box holds the vertices of a triangle
pub record HoldsTri (tri : TriValue) (box : BoxValue) : Type 0 where
  pub v0 : IsIn tri.v0 box
  pub v1 : IsIn tri.v1 box
  pub v2 : IsIn tri.v2 box

-- the least box of which a fact holds: it holds of this box, and this box is in every box of which it
-- holds (own)
pub record IsLeast (P : BoxValue → Type 0) (box : BoxValue) : Type 0 where
  pub holds : P box
  pub least : (other : BoxValue) → P other → IsPart box other
