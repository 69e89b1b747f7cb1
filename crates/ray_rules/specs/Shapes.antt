-- Rules on what kinds of structures and geometries go together, and how many there may be.
-- (VK_KHR_acceleration_structure: the valid usage of VkAccelerationStructureBuildGeometryInfoKHR;
-- own: the limits.)
use Rattle.std.specs.Prelude.{ℕ, List, Option, None, Bool, true, false, ◌&&◌, ◌||◌, ◌==◌, not, nat_lt, nat_le, length, sum}
use Rattle.std.specs.List.{list_any, list_all}
use Rattle.std.specs.Option.{option_map_or, option_or}
use Rattle.ray_cmd.specs.Copies.{is_form_2}
use Rattle.ray_cmd.specs.declared.asked.Asked.{Asked}
use Rattle.ray_cmd.specs.declared.asked.Asked.TheVariants as asked
use Rattle.ray_cmd.specs.declared.command.Command.{Command}
use Rattle.ray_cmd.specs.declared.command.Command.TheVariants as commands
use Rattle.ray_cmd.specs.declared.copy_mode.CopyMode.{CopyMode}
use Rattle.ray_cmd.specs.declared.copy_mode.CopyMode.TheVariants as copies
use Rattle.ray_cmd.specs.declared.geometry.Geometry.{Geometry}
use Rattle.ray_cmd.specs.declared.geometry.Geometry.TheVariants as geometries
use Rattle.ray_cmd.specs.declared.info.Info.{Info}
use Rattle.ray_cmd.specs.declared.place.Place.{Place}
use Rattle.ray_flags.specs.Flags.{build_has, PreferFastBuild, PreferFastTrace}
use Rattle.ray_rules.specs.Places.{whole, part_at, first_part}
use Rattle.ray_rules.specs.Ranges.{primitives}
use Rattle.ray_rules.specs.Status.{Status}
use Rattle.ray_rules.specs.Structures.{is_bottom_at, is_top_at, is_top, differ_in_kind}

-- whether `uses` are wrong for a destination: one of them is a top, or there are any for a bottom
abbrev pub uses_wrongly : Status → ℕ → List ℕ → Bool
uses_wrongly z dst uses = list_any (is_top_at z) uses || (is_bottom_at z dst && not (length uses == 0))

-- whether the source of an update, where there is one, differs from its destination in kind
abbrev pub updates_wrongly : Status → ℕ → Option ℕ → Bool
updates_wrongly z dst src = option_map_or (λ id. differ_in_kind z id dst) src false

-- whether structures of the wrong kinds stand in an info
abbrev pub is_wrong_info : Status → Info → Bool
is_wrong_info z info = uses_wrongly z info.dst info.uses || updates_wrongly z info.dst info.src

-- whether what is asked is asked of a top, and only of bottoms can be
abbrev pub asks_wrongly : Status → Asked → List ℕ → Bool
asks_wrongly z asked.Compacted structures = list_any (is_top_at z) structures
asks_wrongly z asked.Serialized structures = false
asks_wrongly z asked.SerializedForm2 structures = list_any (is_top_at z) structures
asks_wrongly z asked.Handles structures = false
asks_wrongly z asked.Size structures = false

-- whether a top is to be serialized in form 2
abbrev pub serializes_wrongly : Status → Option ℕ → ℕ → Bool
serializes_wrongly z form src = is_form_2 form && is_top_at z src

-- whether a top is to be compacted
abbrev pub compacts_wrongly : Status → CopyMode → ℕ → Bool
compacts_wrongly z copies.Clone src = false
compacts_wrongly z copies.Compact src = is_top_at z src

-- V7: trace's `top` is a bottom; a `uses` entry is a top; `uses` isn't empty for a bottom; update's
-- `src` and `dst` differ in kind; `compacted` or `serialized_form_2` isn't asked of a bottom; `compact`,
-- or `serialize` as form 2, isn't of a bottom
unfoldable pub v7 : Status → Command → Option Place
v7 z (commands.Build infos) = first_part (is_wrong_info z) infos
v7 z (commands.CopyStructure mode src dst) = whole (compacts_wrongly z mode src)
v7 z (commands.Serialize src dst form) = whole (serializes_wrongly z form src)
v7 z (commands.Deserialize src dst uses) = whole (uses_wrongly z dst uses)
v7 z (commands.Property what structures dst) = whole (asks_wrongly z what structures)
v7 z (commands.Trace top rays count hits flags mask script) = whole (is_bottom_at z top)
v7 z _ = None

-- whether a geometry is of triangles, of boxes, of instances
abbrev pub is_triangles : Geometry → Bool
is_triangles (geometries.Triangles opaque format vertex stride max_vertex index transform count primitive_offset first_vertex transform_offset) = true
is_triangles (geometries.Boxes opaque content stride count primitive_offset) = false
is_triangles (geometries.Instances content count primitive_offset) = false

abbrev pub is_boxes : Geometry → Bool
is_boxes (geometries.Triangles opaque format vertex stride max_vertex index transform count primitive_offset first_vertex transform_offset) = false
is_boxes (geometries.Boxes opaque content stride count primitive_offset) = true
is_boxes (geometries.Instances content count primitive_offset) = false

abbrev pub is_instances : Geometry → Bool
is_instances (geometries.Triangles opaque format vertex stride max_vertex index transform count primitive_offset first_vertex transform_offset) = false
is_instances (geometries.Boxes opaque content stride count primitive_offset) = false
is_instances (geometries.Instances content count primitive_offset) = true

-- whether geometries are one, of instances: what a top is built of
abbrev pub are_of_top : List Geometry → Bool
are_of_top gs = length gs == 1 && list_all is_instances gs

-- whether geometries are all of triangles or all of boxes: what a bottom is built of
abbrev pub are_of_bottom : List Geometry → Bool
are_of_bottom gs = list_all is_triangles gs || list_all is_boxes gs

-- whether the geometries of an info aren't those of its destination's kind
abbrev pub is_misshapen : Status → Info → Bool
is_misshapen z info =
    (is_top_at z info.dst && not (are_of_top info.geometries))
    || (is_bottom_at z info.dst && not (are_of_bottom info.geometries))

-- V8: a top info hasn't exactly one geometry, of instances; a bottom info has instances or two
-- kinds; `sizes` of a top hasn't one count
unfoldable pub v8 : Status → Command → Option Place
v8 z (commands.Sizes kind counts) = whole (is_top kind && not (length counts == 1))
v8 z (commands.Build infos) = first_part (is_misshapen z) infos
v8 z _ = None

-- whether an info prefers both a fast trace and a fast build
abbrev pub prefers_both : Info → Bool
prefers_both info = build_has info.flags PreferFastTrace && build_has info.flags PreferFastBuild

-- V9: both fast flags
unfoldable pub v9 : Command → Option Place
v9 (commands.Build infos) = first_part prefers_both infos
v9 _ = None

-- the most primitives of a structure: instances of a top, triangles or boxes of a bottom
abbrev pub most_primitives : Bool → ℕ
most_primitives true = 65536
most_primitives false = 1048576

-- whether there are too many geometries, or too many primitives in them
abbrev pub are_too_many : Bool → ℕ → ℕ → Bool
are_too_many top geometries total = nat_lt 256 geometries || nat_lt (most_primitives top) total

-- whether an info has too much
abbrev pub is_too_large : Status → Info → Bool
is_too_large z info =
    are_too_many (is_top_at z info.dst) (length info.geometries) (primitives info.geometries)
    || nat_lt 4096 (length info.uses)

-- V10: geometries above 256, primitives above 2^20, instances above 2^16, rays above 2^20, live
-- structures above 4,096, `infos`, `uses`, `structures` or `buffers` longer than 4,096
unfoldable pub v10 : Status → Command → Option Place
v10 z (commands.Structure id kind buffer offset size) = whole (nat_le 4096 (length z.structures))
v10 z (commands.Sizes kind counts) = whole (are_too_many (is_top kind) (length counts) (sum counts))
v10 z (commands.Build infos) =
    option_or (first_part (is_too_large z) infos) (part_at 4096 (nat_lt 4096 (length infos)))
v10 z (commands.Deserialize src dst uses) = whole (nat_lt 4096 (length uses))
v10 z (commands.Property what structures dst) = whole (nat_lt 4096 (length structures))
v10 z (commands.Barrier src_stages src_access dst_stages dst_access buffers) =
    whole (option_map_or (λ ids. nat_lt 4096 (length ids)) buffers false)
v10 z (commands.Trace top rays count hits flags mask script) = whole (nat_lt 1048576 count)
v10 z _ = None
