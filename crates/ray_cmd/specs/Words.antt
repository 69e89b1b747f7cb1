-- The words of a recording, and what they stand for: a word outside its table spells nothing. (The sets and the formats
-- stand for Vulkan's, as ray_flags and ray_bytes say; own: the words.)
use Rattle.std.specs.Prelude.{[], ◌∷◌, Option, codes, option_map}
use Rattle.serde_json.specs.Data.{Data}
use Rattle.ray_json.specs.Fields.{word_of, words_of}
use Rattle.ray_flags.specs.Words.{usage_words, build_words, ray_words, stage_words, access_words}
use Rattle.ray_flags.specs.declared.usage.Usage.{Usage}
use Rattle.ray_flags.specs.declared.build_flags.BuildFlags.{BuildFlags}
use Rattle.ray_flags.specs.declared.ray_flags.RayFlags.{RayFlags}
use Rattle.ray_flags.specs.declared.stages.Stages.{Stages}
use Rattle.ray_flags.specs.declared.access.Access.{Access}
use Rattle.ray_cmd.specs.declared.structure_kind.StructureKind.{StructureKind}
use Rattle.ray_cmd.specs.declared.structure_kind.StructureKind.TheVariants as kinds
use Rattle.ray_cmd.specs.declared.thing.Thing.{Thing}
use Rattle.ray_cmd.specs.declared.thing.Thing.TheVariants as things
use Rattle.ray_cmd.specs.declared.read_form.ReadForm.{ReadForm}
use Rattle.ray_cmd.specs.declared.read_form.ReadForm.TheVariants as forms
use Rattle.ray_cmd.specs.declared.copy_mode.CopyMode.{CopyMode}
use Rattle.ray_cmd.specs.declared.copy_mode.CopyMode.TheVariants as copies
use Rattle.ray_cmd.specs.declared.build_mode.BuildMode.{BuildMode}
use Rattle.ray_cmd.specs.declared.build_mode.BuildMode.TheVariants as modes
use Rattle.ray_cmd.specs.declared.asked.Asked.{Asked}
use Rattle.ray_cmd.specs.declared.asked.Asked.TheVariants as numbers
use Rattle.ray_cmd.specs.declared.geometry_kind.GeometryKind.{GeometryKind}
use Rattle.ray_cmd.specs.declared.geometry_kind.GeometryKind.TheVariants as geometries
use Rattle.ray_bytes.specs.declared.format.Format.{Format}
use Rattle.ray_bytes.specs.declared.format.Format.TheVariants as formats

-- what a buffer may be used for
abbrev pub usage_of : Data → Option Usage
usage_of d = option_map (λ bits. record { 0 = bits }) (words_of usage_words d)

-- how a structure is built
abbrev pub build_flags_of : Data → Option BuildFlags
build_flags_of d = option_map (λ bits. record { 0 = bits }) (words_of build_words d)

-- what a ray skips and culls
abbrev pub ray_flags_of : Data → Option RayFlags
ray_flags_of d = option_map (λ bits. record { 0 = bits }) (words_of ray_words d)

-- the stages of one side of a barrier
abbrev pub stages_of : Data → Option Stages
stages_of d = option_map (λ bits. record { 0 = bits }) (words_of stage_words d)

-- the accesses of one side of a barrier
abbrev pub access_of : Data → Option Access
access_of d = option_map (λ bits. record { 0 = bits }) (words_of access_words d)

-- the kind of a structure
abbrev pub structure_kind_of : Data → Option StructureKind
structure_kind_of = word_of ((codes "bottom", kinds.Bottom) ∷ (codes "top", kinds.Top) ∷ [])

-- what is destroyed
abbrev pub thing_of : Data → Option Thing
thing_of = word_of ((codes "buffer", things.Buffer) ∷ (codes "structure", things.Structure) ∷ [])

-- how bytes are shown
abbrev pub read_form_of : Data → Option ReadForm
read_form_of = word_of ((codes "hex", forms.Hex) ∷ (codes "u64", forms.U64) ∷ (codes "hits", forms.Hits) ∷ [])

-- how a structure is copied
abbrev pub copy_mode_of : Data → Option CopyMode
copy_mode_of = word_of ((codes "clone", copies.Clone) ∷ (codes "compact", copies.Compact) ∷ [])

-- how a structure is built
abbrev pub build_mode_of : Data → Option BuildMode
build_mode_of = word_of ((codes "build", modes.Build) ∷ (codes "update", modes.Update) ∷ [])

-- which number of a structure is asked
abbrev pub asked_of : Data → Option Asked
asked_of = word_of ((codes "compacted", numbers.Compacted) ∷ (codes "serialized", numbers.Serialized) ∷ (codes "serialized_form_2", numbers.SerializedForm2) ∷ (codes "handles", numbers.Handles) ∷ (codes "size", numbers.Size) ∷ [])

-- which kind of geometry follows
abbrev pub geometry_kind_of : Data → Option GeometryKind
geometry_kind_of = word_of ((codes "triangles", geometries.Triangles) ∷ (codes "boxes", geometries.Boxes) ∷ (codes "instances", geometries.Instances) ∷ [])

-- a vertex format
abbrev pub format_of : Data → Option Format
format_of = word_of ((codes "s32x3", formats.S32x3) ∷ (codes "s32x2", formats.S32x2) ∷ (codes "s16x3", formats.S16x3) ∷ [])
