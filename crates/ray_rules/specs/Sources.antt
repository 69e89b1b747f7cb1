-- Rules on what structures were built by: the sources of updates and copies, and what a traced top
-- refers to. (VK_KHR_acceleration_structure: updates, copies, properties; own: `uses` and stamps.)
use Rattle.std.specs.Prelude.{ℕ, List, Option, Some, None, Bool, true, false, ◌&&◌, ◌||◌, ◌==◌, not, nat_lt, length}
use Rattle.std.specs.List.{list_any, list_all, zip}
use Rattle.std.specs.Option.{option_and_then, option_map_or, is_some}
use Rattle.ray_bytes.specs.declared.format.Format.{Format}
use Rattle.ray_bytes.specs.declared.format.Format.TheVariants.{S32x3, S32x2, S16x3}
use Rattle.ray_cmd.specs.declared.asked.Asked.{Asked}
use Rattle.ray_cmd.specs.declared.asked.Asked.TheVariants as asked
use Rattle.ray_cmd.specs.declared.command.Command.{Command}
use Rattle.ray_cmd.specs.declared.command.Command.TheVariants as commands
use Rattle.ray_cmd.specs.declared.copy_mode.CopyMode.{CopyMode}
use Rattle.ray_cmd.specs.declared.copy_mode.CopyMode.TheVariants as copies
use Rattle.ray_cmd.specs.declared.geometry.Geometry.{Geometry}
use Rattle.ray_cmd.specs.declared.geometry.Geometry.TheVariants as geometries
use Rattle.ray_cmd.specs.declared.index.Index.{Index}
use Rattle.ray_cmd.specs.declared.info.Info.{Info}
use Rattle.ray_cmd.specs.declared.place.Place.{Place}
use Rattle.ray_flags.specs.Flags.{BuildFlag, build_has, AllowCompaction, AllowUpdate}
use Rattle.ray_rules.specs.declared.built.Built.{Built}
use Rattle.ray_rules.specs.declared.live_structure.LiveStructure.{LiveStructure}
use Rattle.ray_rules.specs.Ids.{look}
use Rattle.ray_rules.specs.Origins.{info_of, uses_of, is_deserialized}
use Rattle.ray_rules.specs.Places.{whole, first_part}
use Rattle.ray_rules.specs.Status.{Status, built_at}
use Rattle.ray_rules.specs.Structures.{is_bottom}

-- whether a structure can't be updated from: it isn't built, or came by `deserialize`
abbrev pub is_no_source : List Command → Option Built → Bool
is_no_source rec None = true
is_no_source rec (Some built) = is_deserialized rec built

-- whether an info updates from what can't be updated from
abbrev pub lacks_built_source : List Command → Status → Info → Bool
lacks_built_source rec z info = option_map_or (λ id. is_no_source rec (built_at z id)) info.src false

-- V13: update's `src` isn't built, or its contents came by `deserialize`
unfoldable pub v13 : List Command → Status → Command → Option Place
v13 rec z (commands.Build infos) = first_part (lacks_built_source rec z) infos
v13 rec z _ = None

-- the info by which the structure of an id was last built or updated
abbrev pub info_at : List Command → Status → ℕ → Option Info
info_at rec z id = option_and_then (info_of rec) (built_at z id)

-- whether the structure of an id was last built or updated without a flag
abbrev pub was_built_without : List Command → Status → BuildFlag → ℕ → Bool
was_built_without rec z flag id =
    option_map_or (λ (info : Info). not (build_has info.flags flag)) (info_at rec z id) false

-- whether an info updates what doesn't allow it
abbrev pub updates_forbidden : List Command → Status → Info → Bool
updates_forbidden rec z info = option_map_or (was_built_without rec z AllowUpdate) info.src false

-- V14: update's `src` was built without `allow_update`
unfoldable pub v14 : List Command → Status → Command → Option Place
v14 rec z (commands.Build infos) = first_part (updates_forbidden rec z) infos
v14 rec z _ = None

-- whether two truth values are the same
abbrev pub is_same_bool : Bool → Bool → Bool
is_same_bool true b = b
is_same_bool false b = not b

-- whether two formats are the same
abbrev pub is_same_format : Format → Format → Bool
is_same_format S32x3 S32x3 = true
is_same_format S32x3 S32x2 = false
is_same_format S32x3 S16x3 = false
is_same_format S32x2 S32x3 = false
is_same_format S32x2 S32x2 = true
is_same_format S32x2 S16x3 = false
is_same_format S16x3 S32x3 = false
is_same_format S16x3 S32x2 = false
is_same_format S16x3 S16x3 = true

-- whether two lists of indices, where there are any, are of one type
abbrev pub is_same_index : Option Index → Option Index → Bool
is_same_index None None = true
is_same_index None (Some b) = false
is_same_index (Some a) None = false
is_same_index (Some a) (Some b) = a.index_size == b.index_size

-- whether two geometries agree in what an update may not change
unfoldable pub is_same_geometry : Geometry → Geometry → Bool
is_same_geometry
    (geometries.Triangles opaque format vertex stride max_vertex index transform count primitive_offset first_vertex transform_offset)
    (geometries.Triangles opaque2 format2 vertex2 stride2 max_vertex2 index2 transform2 count2 primitive_offset2 first_vertex2 transform_offset2) =
    is_same_bool opaque opaque2
    && (is_same_format format format2
    && (is_same_index index index2
    && (max_vertex == max_vertex2
    && (count == count2 && is_same_bool (is_some transform) (is_some transform2)))))
is_same_geometry (geometries.Boxes opaque content stride count primitive_offset) (geometries.Boxes opaque2 content2 stride2 count2 primitive_offset2) =
    is_same_bool opaque opaque2 && count == count2
is_same_geometry (geometries.Instances content count primitive_offset) (geometries.Instances content2 count2 primitive_offset2) =
    count == count2
is_same_geometry _ _ = false

-- whether a pair of geometries agree
abbrev pub is_same_pair : Geometry × Geometry → Bool
is_same_pair (g, h) = is_same_geometry g h

-- whether two lists of geometries agree, each with that of its number
abbrev pub are_same_geometries : List Geometry → List Geometry → Bool
are_same_geometries gs hs = length gs == length hs && list_all is_same_pair (zip gs hs)

-- whether an info differs from the one that its source was built by, in what an update may not
-- change
abbrev pub differs_from : Info → Info → Bool
differs_from info source =
    not (info.flags.0 == source.flags.0 && are_same_geometries info.geometries source.geometries)

-- whether an info updates what it differs from
abbrev pub differs_from_source : List Command → Status → Info → Bool
differs_from_source rec z info =
    option_map_or (differs_from info) (option_and_then (info_at rec z) info.src) false

-- V15: an update differs from its source in build flags, geometry count, or a geometry's kind,
-- opaque, format, index type, `max_vertex` or count, or in whether a geometry has a `transform`
unfoldable pub v15 : List Command → Status → Command → Option Place
v15 rec z (commands.Build infos) = first_part (differs_from_source rec z) infos
v15 rec z _ = None

-- whether the structure of an id isn't built
abbrev pub is_unbuilt : Status → ℕ → Bool
is_unbuilt z id = not (is_some (built_at z id))

-- whether an info may refer to a structure that isn't built
abbrev pub uses_unbuilt : Status → Info → Bool
uses_unbuilt z info = list_any (is_unbuilt z) info.uses

-- V17: the source of a `copy_structure` or `serialize`, a structure of `property`, or a `uses`
-- entry of a build or `deserialize` isn't built
unfoldable pub v17 : Status → Command → Option Place
v17 z (commands.Build infos) = first_part (uses_unbuilt z) infos
v17 z (commands.CopyStructure mode src dst) = whole (is_unbuilt z src)
v17 z (commands.Serialize src dst form) = whole (is_unbuilt z src)
v17 z (commands.Deserialize src dst uses) = whole (list_any (is_unbuilt z) uses)
v17 z (commands.Property what structures dst) = first_part (is_unbuilt z) structures
v17 z _ = None

-- whether the contents of the structure of an id came by `deserialize`
abbrev pub is_deserialized_at : List Command → Status → ℕ → Bool
is_deserialized_at rec z id = option_map_or (is_deserialized rec) (built_at z id) false

-- whether the structure of an id can't be compacted
abbrev pub is_not_compactable : List Command → Status → ℕ → Bool
is_not_compactable rec z id = was_built_without rec z AllowCompaction id || is_deserialized_at rec z id

-- whether what can't be compacted is to be
abbrev pub compacts_forbidden : List Command → Status → CopyMode → ℕ → Bool
compacts_forbidden rec z copies.Clone src = false
compacts_forbidden rec z copies.Compact src = is_not_compactable rec z src

-- the first structure that can't be compacted, where the compacted size is asked
abbrev pub first_not_compactable : List Command → Status → Asked → List ℕ → Option Place
first_not_compactable rec z asked.Compacted structures = first_part (is_not_compactable rec z) structures
first_not_compactable rec z asked.Serialized structures = None
first_not_compactable rec z asked.SerializedForm2 structures = None
first_not_compactable rec z asked.Handles structures = None
first_not_compactable rec z asked.Size structures = None

-- V18: `compact` or `compacted` of a structure built without `allow_compaction`, or whose contents
-- came by `deserialize`
unfoldable pub v18 : List Command → Status → Command → Option Place
v18 rec z (commands.CopyStructure mode src dst) = whole (compacts_forbidden rec z mode src)
v18 rec z (commands.Property what structures dst) = first_not_compactable rec z what structures
v18 rec z _ = None

-- V20: trace's `top` isn't built
unfoldable pub v20 : Status → Command → Option Place
v20 z (commands.Trace top rays count hits flags mask script) = whole (is_unbuilt z top)
v20 z _ = None

-- whether what a structure was built by isn't there, or was written after a stamp
abbrev pub is_later : ℕ → Option Built → Bool
is_later stamp None = true
is_later stamp (Some built) = nat_lt stamp built.written

-- whether a structure isn't a live built bottom, or was last written after a stamp
abbrev pub is_stale_structure : ℕ → Option LiveStructure → Bool
is_stale_structure stamp None = true
is_stale_structure stamp (Some structure) = not (is_bottom structure.kind) || is_later stamp structure.built

-- the same of the structure of an id
abbrev pub is_stale : Status → ℕ → ℕ → Bool
is_stale z stamp id = is_stale_structure stamp (look z.structures id)

-- the first of the structures that a top may refer to that is stale
abbrev pub first_stale : List Command → Status → Option Built → Option Place
first_stale rec z None = None
first_stale rec z (Some built) = first_part (is_stale z built.stamp) (uses_of rec built)

-- V21: a `uses` entry of the traced top isn't a live built bottom, or was last written after the
-- top's stamp
unfoldable pub v21 : List Command → Status → Command → Option Place
v21 rec z (commands.Trace top rays count hits flags mask script) = first_stale rec z (built_at z top)
v21 rec z _ = None
