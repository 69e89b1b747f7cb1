-- A made-up scene: layers of triangles over the square cells of a grid, one instance of them, and
-- rays from above. All of its numbers as words of 32 bits. (Own.)
use Rattle.std.specs.Prelude.{ℕ, ◌+◌, ◌-◌, ◌*◌, ◌/◌, ◌%◌, ◌^◌, ◌++◌, ◌≤◌, List, [], ◌∷◌, length, replicate}
use Rattle.std.specs.List.{flat_map, range_with_len}
use Rattle.byteorder.specs.Endian.{little_bytes}

-- a scene has 1 to 256 cells a side, 1 to 4 layers and 1 to 65,536 rays
pub record IsScene (side layers rays : ℕ) : Type 0 where
  pub side_begins : 1 ≤ side
  pub side_ends : side ≤ 256
  pub layers_begin : 1 ≤ layers
  pub layers_end : layers ≤ 4
  pub rays_begin : 1 ≤ rays
  pub rays_end : rays ≤ 65536

-- the numbers below n
abbrev pub below : ℕ → List ℕ
below n = range_with_len 0 n

-- the words of everything with a number below n
abbrev pub words_below : (ℕ → List ℕ) → ℕ → List ℕ
words_below words n = flat_map words (below n)

-- how many vertices a layer has
abbrev pub vertex_count : ℕ → ℕ
vertex_count side = (side + 1) * (side + 1)

-- how many triangles a layer has
abbrev pub triangle_count : ℕ → ℕ
triangle_count side = 2 * (side * side)

-- the vertex in a column and a row of a layer: x, y and z
abbrev pub vertex_at : ℕ → ℕ → ℕ → List ℕ
vertex_at layer i j = 8 * i ∷ 8 * j ∷ (64 * layer + (5 * i + 3 * j) % 7) ∷ []

-- a vertex of a layer by its number: row after row
abbrev pub vertex_words : ℕ → ℕ → ℕ → List ℕ
vertex_words side layer n = vertex_at layer (n % (side + 1)) (n / (side + 1))

-- the vertices of a layer
abbrev pub layer_words : ℕ → ℕ → List ℕ
layer_words side layer = words_below (vertex_words side layer) (vertex_count side)

-- the number of the vertex in a column and a row
abbrev pub vertex_number : ℕ → ℕ → ℕ → ℕ
vertex_number side i j = j * (side + 1) + i

-- the vertices of the two triangles of the cell in a column and a row
abbrev pub cell_at : ℕ → ℕ → ℕ → List ℕ
cell_at side i j =
    vertex_number side i j ∷ vertex_number side (i + 1) j ∷ vertex_number side (i + 1) (j + 1)
    ∷ vertex_number side i j ∷ vertex_number side (i + 1) (j + 1) ∷ vertex_number side i (j + 1)
    ∷ []

-- those of a cell by its number: row after row
abbrev pub cell_words : ℕ → ℕ → List ℕ
cell_words side n = cell_at side (n % side) (n / side)

-- the indices, which all layers share
abbrev pub index_words : ℕ → List ℕ
index_words side = words_below (cell_words side) (side * side)

-- the instance: at its place, seen by every ray, of the bottom structure with the id 0
abbrev pub instance_words : List ℕ
instance_words =
    1 ∷ 0 ∷ 0 ∷ 0
    ∷ 0 ∷ 1 ∷ 0 ∷ 0
    ∷ 0 ∷ 0 ∷ 1 ∷ 0
    ∷ 255 * 2 ^ 24 ∷ 0 ∷ 256 ∷ 0
    ∷ []

-- words with zeros up to a multiple of 16 bytes
abbrev pub padded : List ℕ → List ℕ
padded words = words ++ replicate ((4 - length words % 4) % 4) 0

-- what the builds read: the vertices of all layers, the indices, the instance
unfoldable pub input_words : ℕ → ℕ → List ℕ
input_words side layers =
    padded (words_below (layer_words side) layers ++ index_words side) ++ instance_words

-- a ray: from above the grid straight down, to beyond it
abbrev pub ray_words : ℕ → ℕ → List ℕ
ray_words side r =
    (37 * r + 3) % (8 * side + 8) ∷ (53 * r + 1) % (8 * side + 8) ∷ 4096
    ∷ 0 ∷ 0 ∷ (2 ^ 32 - 1)
    ∷ 0 ∷ 0
    ∷ 2 ^ 29 ∷ 0
    ∷ []

-- all rays
unfoldable pub rays_words : ℕ → ℕ → List ℕ
rays_words side rays = words_below (ray_words side) rays

-- the bytes of words, little-endian
unfoldable pub bytes_of : List ℕ → List ℕ
bytes_of words = flat_map (little_bytes 4) words

-- the least multiple of 16 that is at least n
abbrev pub up_to_16 : ℕ → ℕ
up_to_16 n = (n + 15) / 16 * 16

-- where the indices, the instance and the end of the inputs stand
abbrev pub index_offset : ℕ → ℕ → ℕ
index_offset side layers = 12 * (layers * vertex_count side)

abbrev pub instance_offset : ℕ → ℕ → ℕ
instance_offset side layers = up_to_16 (index_offset side layers + 24 * (side * side))

-- where the hits of so many rays stand after them
abbrev pub hits_offset : ℕ → ℕ
hits_offset rays = up_to_16 (40 * rays)
