-- The height field against which rays are tested: 8 x 8 cells of two triangles each.
use Rattle.std.specs.Prelude.{ℕ, pos, ◌+◌, ◌*◌, ◌/◌, ◌%◌, ◌==◌, List, map, if◌then◌else◌}
use Rattle.std.specs.List.{range_with_len}
use Rattle.ray_geom.specs.declared.vec3.Vec3.{Vec3}
use Rattle.ray_geom.specs.Vector.{vec3}
use Rattle.ray_geom.specs.Scene.{TriValue, tri_value}

-- the vertex in column i and row j: (8 i, 8 j, (5 i + 3 j) mod 7) (own)
abbrev pub vertex_of : ℕ → ℕ → Vec3
vertex_of i j = vec3 (pos (8 * i)) (pos (8 * j)) (pos ((5 * i + 3 * j) % 7))

-- the triangle at the lower right of the cell in column i and row j (own)
abbrev pub lower_of : ℕ → ℕ → TriValue
lower_of i j = tri_value (vertex_of i j) (vertex_of (i + 1) j) (vertex_of (i + 1) (j + 1))

-- the triangle at its upper left (own)
abbrev pub upper_of : ℕ → ℕ → TriValue
upper_of i j = tri_value (vertex_of i j) (vertex_of (i + 1) (j + 1)) (vertex_of i (j + 1))

-- the triangle k: cell by cell along the rows, the lower one and then the upper one (own)
abbrev pub triangle_of : ℕ → TriValue
triangle_of k =
    let column = k / 2 % 8 in
    let row = k / 2 / 8 in
    if k % 2 == 0 then lower_of column row else upper_of column row

-- the triangles of the field (own)
abbrev pub triangles : List TriValue
triangles = map triangle_of (range_with_len 0 128)
