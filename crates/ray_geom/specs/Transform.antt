-- Transforms: a matrix M with a translation T maps a point v to M v + T.
use Rattle.std.specs.Prelude.{ℕ, ℤ, pos, ◌≢◌, ◌^◌, ◌+ℤ◌, List, [], ◌∷◌, slice_index_or}
use Rattle.ray_geom.specs.declared.vec3.Vec3.{Vec3}
use Rattle.ray_geom.specs.Vector.{IsShort, vec3, cross_of, dot_of}
use Rattle.ray_geom.specs.Scene.{TriValue, tri_value}

-- a transform: the rows a, b and c of M, and T (VkTransformMatrixKHR, in whole numbers)
pub record MatrixValue : Type 0 where
  pub a : Vec3
  pub b : Vec3
  pub c : Vec3
  pub t : Vec3

-- the transform with these parts
abbrev pub matrix_value : Vec3 → Vec3 → Vec3 → Vec3 → MatrixValue
matrix_value a b c t = record { a = a; b = b; c = c; t = t }

-- the number in a row and a column of a table
abbrev pub entry_at : List (List ℤ) → ℕ → ℕ → ℤ
entry_at rows row column = slice_index_or (slice_index_or rows row []) column (pos 0)

-- the first three numbers of a row of a table
abbrev pub row_at : List (List ℤ) → ℕ → Vec3
row_at rows row = vec3 (entry_at rows row 0) (entry_at rows row 1) (entry_at rows row 2)

-- the transform whose table of three rows of four numbers this is: M, with T as the last column
-- (VkTransformMatrixKHR)
abbrev pub matrix_of : List (List ℤ) → MatrixValue
matrix_of rows =
    matrix_value (row_at rows 0) (row_at rows 1) (row_at rows 2)
    (vec3 (entry_at rows 0 3) (entry_at rows 1 3) (entry_at rows 2 3))

-- the table of twelve numbers, row by row (VkTransformMatrixKHR)
abbrev pub table_of : List ℤ → List (List ℤ)
table_of words =
    let word : ℕ → ℤ = λ k. slice_index_or words k (pos 0) in
    (word 0 ∷ word 1 ∷ word 2 ∷ word 3 ∷ []) ∷ (word 4 ∷ word 5 ∷ word 6 ∷ word 7 ∷ []) ∷
    (word 8 ∷ word 9 ∷ word 10 ∷ word 11 ∷ []) ∷ []

-- the transform that maps each point to itself
abbrev pub identity_value : MatrixValue
identity_value =
    matrix_value (vec3 (pos 1) (pos 0) (pos 0)) (vec3 (pos 0) (pos 1) (pos 0)) (vec3 (pos 0) (pos 0) (pos 1))
    (vec3 (pos 0) (pos 0) (pos 0))

-- a row of a table: three numbers and one more
abbrev pub row_of : Vec3 → ℤ → List ℤ
row_of v last = v.x ∷ v.y ∷ v.z ∷ last ∷ []

-- the table of a transform
abbrev pub rows_of : MatrixValue → List (List ℤ)
rows_of m = row_of m.a m.t.x ∷ row_of m.b m.t.y ∷ row_of m.c m.t.z ∷ []

-- the determinant of M: a . (b x c)
abbrev pub det_of : MatrixValue → ℤ
det_of m = dot_of m.a (cross_of m.b m.c)

-- the limits of a transform (own)
pub record IsMatrix (m : MatrixValue) : Type 0 where
  pub a_short : IsShort (2 ^ 12) m.a
  pub b_short : IsShort (2 ^ 12) m.b
  pub c_short : IsShort (2 ^ 12) m.c
  pub t_short : IsShort (2 ^ 20) m.t
  pub det_not_zero : det_of m ≢ pos 0

-- the image of a point: M v + T (Vulkan, "Ray Traversal": instance transforms)
abbrev pub image_of : MatrixValue → Vec3 → Vec3
image_of m v = vec3 (dot_of m.a v +ℤ m.t.x) (dot_of m.b v +ℤ m.t.y) (dot_of m.c v +ℤ m.t.z)

-- the world triangle of a triangle of an instance: the images of its vertices under the instance's
-- transform (Vulkan, "Ray Traversal": instance transforms)
abbrev pub world_tri : MatrixValue → TriValue → TriValue
world_tri m tri = tri_value (image_of m tri.v0) (image_of m tri.v1) (image_of m tri.v2)

-- a matrix alone, by its rows
pub record Rows : Type 0 where
  pub a : Vec3
  pub b : Vec3
  pub c : Vec3

-- a matrix times a vector
abbrev pub times_of : Rows → Vec3 → Vec3
times_of rows v = vec3 (dot_of rows.a v) (dot_of rows.b v) (dot_of rows.c v)

-- the adjugate of M, adj(M): the transpose of its cofactors, so that its columns are b x c, c x a and
-- a x b
abbrev pub adjugate_of : MatrixValue → Rows
adjugate_of m =
    let p = cross_of m.b m.c in
    let q = cross_of m.c m.a in
    let r = cross_of m.a m.b in
    record { a = vec3 p.x q.x r.x; b = vec3 p.y q.y r.y; c = vec3 p.z q.z r.z }

-- adj(M) v
abbrev pub adjugate_times : MatrixValue → Vec3 → Vec3
adjugate_times m v = times_of (adjugate_of m) v

-- the limit of an adjugate of a transform within the limits (own)
pub record IsAdjugate (rows : Rows) : Type 0 where
  pub a_short : IsShort (2 ^ 25) rows.a
  pub b_short : IsShort (2 ^ 25) rows.b
  pub c_short : IsShort (2 ^ 25) rows.c
