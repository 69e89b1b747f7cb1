-- The commands on bytes of buffers, and barriers. (Own: the JSON; each command is named in `Command`.)
use Rattle.std.specs.Prelude.{[], ◌∷◌, Option, Some, codes}
use Rattle.serde_json.specs.Data.{Data}
use Rattle.ray_json.specs.Fields.{◌>>=◌, only, at, optional_at, u64_of, u32_of, hex_of, list_of}
use Rattle.ray_cmd.specs.Words.{stages_of, access_of}
use Rattle.ray_cmd.specs.Places.{region_of}
use Rattle.ray_cmd.specs.declared.command.Command.{Command}
use Rattle.ray_cmd.specs.declared.command.Command.TheVariants as commands

-- the command `update`: bytes that are written
unfoldable pub update_of : Data → Option Command
update_of d = do
  _ ← only (codes "op" ∷ codes "buffer" ∷ codes "offset" ∷ codes "data" ∷ []) d
  buffer ← at u32_of (codes "buffer") d
  offset ← at u64_of (codes "offset") d
  content ← at hex_of (codes "data") d
  Some (commands.Update buffer offset content)

-- the command `fill`: a value that is written again and again
unfoldable pub fill_of : Data → Option Command
fill_of d = do
  _ ← only (codes "op" ∷ codes "buffer" ∷ codes "offset" ∷ codes "size" ∷ codes "value" ∷ []) d
  buffer ← at u32_of (codes "buffer") d
  offset ← at u64_of (codes "offset") d
  size ← at u64_of (codes "size") d
  value ← at u32_of (codes "value") d
  Some (commands.Fill buffer offset size value)

-- the command `copy`: regions that are copied
unfoldable pub copy_of : Data → Option Command
copy_of d = do
  _ ← only (codes "op" ∷ codes "src" ∷ codes "dst" ∷ codes "regions" ∷ []) d
  src ← at u32_of (codes "src") d
  dst ← at u32_of (codes "dst") d
  regions ← at (list_of region_of) (codes "regions") d
  Some (commands.Copy src dst regions)

-- the command `barrier`: a barrier, limited to buffers where these are named
unfoldable pub barrier_of : Data → Option Command
barrier_of d = do
  _ ← only (codes "op" ∷ codes "src_stages" ∷ codes "src_access" ∷ codes "dst_stages" ∷ codes "dst_access" ∷ codes "buffers" ∷ []) d
  src_stages ← at stages_of (codes "src_stages") d
  src_access ← at access_of (codes "src_access") d
  dst_stages ← at stages_of (codes "dst_stages") d
  dst_access ← at access_of (codes "dst_access") d
  buffers ← optional_at (list_of u32_of) (codes "buffers") d
  Some (commands.Barrier src_stages src_access dst_stages dst_access buffers)
