-- Rules on structures: where they stand, how large they are, and which go together.
-- (VK_KHR_acceleration_structure: creation, builds and copies; own: the sizes.)
use Rattle.std.specs.Prelude.{ℕ, Option, None, Bool, true, false, ◌&&◌, ◌||◌, ◌==◌, not, nat_lt, length}
use Rattle.std.specs.List.{list_any}
use Rattle.std.specs.Map.{values_of}
use Rattle.std.specs.Option.{option_map_or}
use Rattle.ray_bytes.specs.StructureSizes.{structure_size}
use Rattle.ray_cmd.specs.declared.build_mode.BuildMode.{BuildMode}
use Rattle.ray_cmd.specs.declared.build_mode.BuildMode.TheVariants as modes
use Rattle.ray_cmd.specs.declared.command.Command.{Command}
use Rattle.ray_cmd.specs.declared.command.Command.TheVariants as commands
use Rattle.ray_cmd.specs.declared.copy_mode.CopyMode.{CopyMode}
use Rattle.ray_cmd.specs.declared.copy_mode.CopyMode.TheVariants as copies
use Rattle.ray_cmd.specs.declared.info.Info.{Info}
use Rattle.ray_cmd.specs.declared.place.Place.{Place}
use Rattle.ray_cmd.specs.declared.structure_kind.StructureKind.{StructureKind}
use Rattle.ray_cmd.specs.declared.structure_kind.StructureKind.TheVariants as kinds
use Rattle.ray_rules.specs.declared.live_structure.LiveStructure.{LiveStructure}
use Rattle.ray_rules.specs.declared.byte_range.ByteRange.{ByteRange}
use Rattle.ray_rules.specs.Ids.{look}
use Rattle.ray_rules.specs.Places.{whole, first_part}
use Rattle.ray_rules.specs.Ranges.{range, is_outside, meets, primitives}
use Rattle.ray_rules.specs.Spans.{misses}
use Rattle.ray_rules.specs.Status.{Status}

-- the bytes in which a structure stands
abbrev pub structure_range : LiveStructure → ByteRange
structure_range structure = range structure.buffer structure.offset structure.size

-- whether bytes share one with a live structure
abbrev pub overlaps_structure : Status → ByteRange → Bool
overlaps_structure z r = list_any (λ (s : LiveStructure). meets r (structure_range s)) (values_of z.structures)

-- V6: a structure's offset isn't a multiple of 256, its range isn't within its buffer, or it
-- overlaps a live structure
unfoldable pub v6 : Status → Command → Option Place
v6 z (commands.Structure id kind buffer offset size) =
    whole (misses 256 offset
    || (is_outside z.buffers (range buffer offset size) || overlaps_structure z (range buffer offset size)))
v6 z _ = None

-- the size with which the structure of an id was made: none where it isn't live
abbrev pub made_size : Status → ℕ → ℕ
made_size z id = option_map_or (λ (s : LiveStructure). s.size) (look z.structures id) 0

-- whether one structure is smaller than another
abbrev pub is_smaller : Status → ℕ → ℕ → Bool
is_smaller z dst src = nat_lt (made_size z dst) (made_size z src)

-- whether the source of an update, where there is one, is another structure and larger
abbrev pub is_smaller_update : Status → ℕ → Option ℕ → Bool
is_smaller_update z dst src = option_map_or (λ id. not (id == dst) && is_smaller z dst id) src false

-- whether the destination of an info is too small
abbrev pub is_too_small : Status → Info → BuildMode → Bool
is_too_small z info modes.Build =
    nat_lt (made_size z info.dst) (structure_size (length info.geometries) (primitives info.geometries))
is_too_small z info modes.Update = is_smaller_update z info.dst info.src

-- whether the destination of a copy is too small
abbrev pub is_smaller_clone : Status → CopyMode → ℕ → ℕ → Bool
is_smaller_clone z copies.Clone src dst = is_smaller z dst src
is_smaller_clone z copies.Compact src dst = false

-- V11: mode `build`: `dst` smaller than the structure size; `update` into another structure, and
-- `clone`: `dst` smaller than `src`
unfoldable pub v11 : Status → Command → Option Place
v11 z (commands.Build infos) = first_part (λ (info : Info). is_too_small z info info.mode) infos
v11 z (commands.CopyStructure mode src dst) = whole (is_smaller_clone z mode src dst)
v11 z _ = None

-- whether a kind is that of bottom structures, or of top structures
abbrev pub is_bottom : StructureKind → Bool
is_bottom kinds.Bottom = true
is_bottom kinds.Top = false

abbrev pub is_top : StructureKind → Bool
is_top kinds.Bottom = false
is_top kinds.Top = true

-- whether the structure of an id is live and a bottom, or a top
abbrev pub is_bottom_at : Status → ℕ → Bool
is_bottom_at z id = option_map_or (λ (s : LiveStructure). is_bottom s.kind) (look z.structures id) false

abbrev pub is_top_at : Status → ℕ → Bool
is_top_at z id = option_map_or (λ (s : LiveStructure). is_top s.kind) (look z.structures id) false

-- whether one of two structures is a bottom and the other a top
abbrev pub differ_in_kind : Status → ℕ → ℕ → Bool
differ_in_kind z a b = (is_bottom_at z a && is_top_at z b) || (is_top_at z a && is_bottom_at z b)

-- V19: `copy_structure`: `src` and `dst` differ in kind or are the same
unfoldable pub v19 : Status → Command → Option Place
v19 z (commands.CopyStructure mode src dst) = whole (src == dst || differ_in_kind z src dst)
v19 z _ = None
