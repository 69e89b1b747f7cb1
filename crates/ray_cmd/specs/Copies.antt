-- Copies of structures, also to and from their serialized form, and their properties. (Own: the JSON; each command is named in `Command`.)
use Rattle.std.specs.Prelude.{ℕ, [], ◌∷◌, ◌==◌, ◌||◌, Bool, true, false, Option, Some, None, codes}
use Rattle.serde_json.specs.Data.{Data}
use Rattle.ray_json.specs.Fields.{◌>>=◌, guard, only, at, optional_at, listed_at, u32_of, list_of}
use Rattle.ray_cmd.specs.Words.{copy_mode_of, asked_of}
use Rattle.ray_cmd.specs.Places.{spot_of, stretch_of}
use Rattle.ray_cmd.specs.declared.command.Command.{Command}
use Rattle.ray_cmd.specs.declared.command.Command.TheVariants as commands

-- the command `copy_structure`: a copy of a structure
unfoldable pub copy_structure_of : Data → Option Command
copy_structure_of d = do
  _ ← only (codes "op" ∷ codes "mode" ∷ codes "src" ∷ codes "dst" ∷ []) d
  mode ← at copy_mode_of (codes "mode") d
  src ← at u32_of (codes "src") d
  dst ← at u32_of (codes "dst") d
  Some (commands.CopyStructure mode src dst)

-- whether there is such a form; and whether it is form 2. None stands for form 1 (own)
abbrev pub is_form : Option ℕ → Bool
is_form None = true
is_form (Some number) = (number == 1) || (number == 2)

abbrev pub is_form_2 : Option ℕ → Bool
is_form_2 None = false
is_form_2 (Some number) = number == 2

-- the command `serialize`: a structure that is serialized
unfoldable pub serialize_of : Data → Option Command
serialize_of d = do
  _ ← only (codes "op" ∷ codes "src" ∷ codes "dst" ∷ codes "form" ∷ []) d
  src ← at u32_of (codes "src") d
  dst ← at stretch_of (codes "dst") d
  form ← optional_at u32_of (codes "form") d
  _ ← guard (is_form form)
  Some (commands.Serialize src dst form)

-- the command `deserialize`: a structure that is read from its serialized form
unfoldable pub deserialize_of : Data → Option Command
deserialize_of d = do
  _ ← only (codes "op" ∷ codes "src" ∷ codes "dst" ∷ codes "uses" ∷ []) d
  src ← at stretch_of (codes "src") d
  dst ← at u32_of (codes "dst") d
  uses ← listed_at u32_of (codes "uses") d
  Some (commands.Deserialize src dst uses)

-- the command `property`: numbers of structures
unfoldable pub property_of : Data → Option Command
property_of d = do
  _ ← only (codes "op" ∷ codes "what" ∷ codes "structures" ∷ codes "dst" ∷ []) d
  what ← at asked_of (codes "what") d
  structures ← at (list_of u32_of) (codes "structures") d
  dst ← at spot_of (codes "dst") d
  Some (commands.Property what structures dst)
