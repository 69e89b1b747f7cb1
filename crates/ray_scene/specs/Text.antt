-- Words of private clauses: the recording's text as it grows. (Own.)
use Rattle.std.specs.Prelude.{◌≡◌, ℕ, ◌+◌, ◌++◌, List, [], ◌∷◌, codes}
use Rattle.hex.specs.Hex.{encode_lower}
use Rattle.json.specs.Print.{escape}
use Rattle.ray_scene.specs.Grid.{bytes_of}
use Rattle.ray_scene.specs.Recording.{bottom_build, bottom_size, buffer, full_barrier, host_barrier, plain, read, structure, top_build, top_size, trace, triangles}
use Rattle.serde_json.specs.Data.{Data}
use Rattle.serde_json.specs.Written.{compact_text}

-- a word that stands in JSON as it is
abbrev pub IsPlain : List ℕ → Type 0
IsPlain word = escape word ≡ word

-- a further item of a list: a comma and its text
abbrev pub next : Data → List ℕ
next d = 44 ∷ compact_text d

-- a text with further items
abbrev pub added : List ℕ → List Data → List ℕ
added text [] = text
added text (d ∷ ds) = added (text ++ next d) ds

-- the triangles of the layer after this one, as a further item
abbrev pub next_triangles : ℕ → ℕ → ℕ → List ℕ
next_triangles side layers layer = next (triangles side layers (layer + 1))

-- the hexadecimal digits of the bytes of words
abbrev pub digits_text : List ℕ → List ℕ
digits_text words = encode_lower (bytes_of words)

-- the commands of the scene, in parts: the buffers that begin with nothing, by their sizes
abbrev pub empty_buffers : ℕ → ℕ → List Data
empty_buffers structures scratch =
    buffer 1 structures (codes "structure")
    ∷ buffer 2 scratch (codes "scratch")
    ∷ []

-- the structures, by their sizes
abbrev pub structures : ℕ → ℕ → List Data
structures bottom top =
    structure 0 (codes "bottom") 0 bottom
    ∷ structure 1 (codes "top") bottom top
    ∷ []

-- their builds
abbrev pub builds : ℕ → ℕ → List Data
builds side layers =
    plain (codes "begin")
    ∷ bottom_build side layers
    ∷ full_barrier
    ∷ top_build side layers
    ∷ full_barrier
    ∷ []

-- what stands between the trace and the read
abbrev pub until_the_wait : List Data
until_the_wait =
    host_barrier
    ∷ plain (codes "end")
    ∷ plain (codes "submit")
    ∷ plain (codes "wait")
    ∷ []

-- the trace, and all after it
abbrev pub traces : ℕ → List Data
traces rays = trace rays ∷ until_the_wait ++ read rays ∷ []

-- all after the buffers
abbrev pub commands : ℕ → ℕ → ℕ → List Data
commands side layers rays =
    structures (bottom_size side layers) top_size ++ (builds side layers ++ traces rays)
