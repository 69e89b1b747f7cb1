-- The commands of the host. (Own: the JSON; each command is named in `Command`.)
use Rattle.std.specs.Prelude.{[], ◌∷◌, Option, Some, codes}
use Rattle.serde_json.specs.Data.{Data}
use Rattle.ray_json.specs.Fields.{◌>>=◌, only, at, optional_at, u64_of, u32_of, hex_of, list_of}
use Rattle.ray_cmd.specs.Words.{usage_of, structure_kind_of, thing_of, read_form_of}
use Rattle.ray_cmd.specs.declared.command.Command.{Command}
use Rattle.ray_cmd.specs.declared.command.Command.TheVariants as commands

-- the command `buffer`: a new buffer
unfoldable pub buffer_of : Data → Option Command
buffer_of d = do
  _ ← only (codes "op" ∷ codes "id" ∷ codes "size" ∷ codes "usage" ∷ codes "data" ∷ []) d
  id ← at u32_of (codes "id") d
  size ← at u64_of (codes "size") d
  usage ← at usage_of (codes "usage") d
  content ← optional_at hex_of (codes "data") d
  Some (commands.Buffer id size usage content)

-- the command `structure`: a new structure
unfoldable pub structure_of : Data → Option Command
structure_of d = do
  _ ← only (codes "op" ∷ codes "id" ∷ codes "kind" ∷ codes "buffer" ∷ codes "offset" ∷ codes "size" ∷ []) d
  id ← at u32_of (codes "id") d
  kind ← at structure_kind_of (codes "kind") d
  buffer ← at u32_of (codes "buffer") d
  offset ← at u64_of (codes "offset") d
  size ← at u64_of (codes "size") d
  Some (commands.Structure id kind buffer offset size)

-- the command `destroy`: the end of a buffer or a structure
unfoldable pub destroy_of : Data → Option Command
destroy_of d = do
  _ ← only (codes "op" ∷ codes "what" ∷ codes "id" ∷ []) d
  what ← at thing_of (codes "what") d
  id ← at u32_of (codes "id") d
  Some (commands.Destroy what id)

-- the command `sizes`: the sizes of a structure
unfoldable pub sizes_of : Data → Option Command
sizes_of d = do
  _ ← only (codes "op" ∷ codes "kind" ∷ codes "counts" ∷ []) d
  kind ← at structure_kind_of (codes "kind") d
  counts ← at (list_of u32_of) (codes "counts") d
  Some (commands.Sizes kind counts)

-- the command `begin`: the beginning of the command buffer
unfoldable pub begin_of : Data → Option Command
begin_of d = do
  _ ← only (codes "op" ∷ []) d
  Some commands.Begin

-- the command `end`: the end of the command buffer
unfoldable pub end_of : Data → Option Command
end_of d = do
  _ ← only (codes "op" ∷ []) d
  Some commands.End

-- the command `submit`: the submission of the command buffer
unfoldable pub submit_of : Data → Option Command
submit_of d = do
  _ ← only (codes "op" ∷ []) d
  Some commands.Submit

-- the command `wait`: a wait for all that was submitted
unfoldable pub wait_of : Data → Option Command
wait_of d = do
  _ ← only (codes "op" ∷ []) d
  Some commands.Wait

-- the command `read`: bytes that are shown
unfoldable pub read_of : Data → Option Command
read_of d = do
  _ ← only (codes "op" ∷ codes "buffer" ∷ codes "offset" ∷ codes "size" ∷ codes "form" ∷ []) d
  buffer ← at u32_of (codes "buffer") d
  offset ← at u64_of (codes "offset") d
  size ← at u64_of (codes "size") d
  form ← at read_form_of (codes "form") d
  Some (commands.Read buffer offset size form)
