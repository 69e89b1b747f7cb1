-- Places in buffers. (Own.)
use Rattle.std.specs.Prelude.{ℕ, [], ◌∷◌, Option, Some, codes}
use Rattle.serde_json.specs.Data.{Data}
use Rattle.ray_json.specs.Fields.{◌>>=◌, only, at, u64_of, u32_of, word_of}
use Rattle.ray_cmd.specs.declared.spot.Spot.{Spot}
use Rattle.ray_cmd.specs.declared.stretch.Stretch.{Stretch}
use Rattle.ray_cmd.specs.declared.region.Region.{Region}
use Rattle.ray_cmd.specs.declared.index.Index.{Index}

-- a place
unfoldable pub spot_of : Data → Option Spot
spot_of d = do
  _ ← only (codes "buffer" ∷ codes "offset" ∷ []) d
  buffer ← at u32_of (codes "buffer") d
  offset ← at u64_of (codes "offset") d
  Some (record { buffer = buffer; offset = offset })

-- a span
unfoldable pub stretch_of : Data → Option Stretch
stretch_of d = do
  _ ← only (codes "buffer" ∷ codes "offset" ∷ codes "size" ∷ []) d
  buffer ← at u32_of (codes "buffer") d
  offset ← at u64_of (codes "offset") d
  size ← at u64_of (codes "size") d
  Some (record { buffer = buffer; offset = offset; size = size })

-- a region of a copy
unfoldable pub region_of : Data → Option Region
region_of d = do
  _ ← only (codes "src_offset" ∷ codes "dst_offset" ∷ codes "size" ∷ []) d
  src_offset ← at u64_of (codes "src_offset") d
  dst_offset ← at u64_of (codes "dst_offset") d
  size ← at u64_of (codes "size") d
  Some (record { src_offset = src_offset; dst_offset = dst_offset; size = size })

-- the bytes of an index, by the word of its type
abbrev pub index_size_of : Data → Option ℕ
index_size_of = at (word_of ((codes "u16", 2) ∷ (codes "u32", 4) ∷ [])) (codes "type")

-- the indices of triangles
unfoldable pub index_of : Data → Option Index
index_of d = do
  _ ← only (codes "type" ∷ codes "buffer" ∷ codes "offset" ∷ []) d
  index_size ← index_size_of d
  buffer ← at u32_of (codes "buffer") d
  offset ← at u64_of (codes "offset") d
  Some (record { index_size = index_size; buffer = buffer; offset = offset })
