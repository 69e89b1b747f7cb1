-- Rules on names. (Own; after the validity of handles in Vulkan's fundamentals.)
use Rattle.std.specs.Prelude.{ℕ, List, Option, None, Bool, false, ◌||◌, not}
use Rattle.std.specs.List.{list_any}
use Rattle.std.specs.Option.{option_map_or}
use Rattle.ray_cmd.specs.declared.command.Command.{Command}
use Rattle.ray_cmd.specs.declared.command.Command.TheVariants as commands
use Rattle.ray_cmd.specs.declared.geometry.Geometry.{Geometry}
use Rattle.ray_cmd.specs.declared.geometry.Geometry.TheVariants as geometries
use Rattle.ray_cmd.specs.declared.index.Index.{Index}
use Rattle.ray_cmd.specs.declared.info.Info.{Info}
use Rattle.ray_cmd.specs.declared.place.Place.{Place}
use Rattle.ray_cmd.specs.declared.spot.Spot.{Spot}
use Rattle.ray_cmd.specs.declared.thing.Thing.{Thing}
use Rattle.ray_cmd.specs.declared.thing.Thing.TheVariants as things
use Rattle.ray_rules.specs.Ids.{is_live}
use Rattle.ray_rules.specs.Places.{whole, first_part}
use Rattle.ray_rules.specs.Status.{Status}

-- whether no live buffer has an id
abbrev pub lacks_buffer : Status → ℕ → Bool
lacks_buffer z id = not (is_live z.buffers id)

-- whether no live structure has an id
abbrev pub lacks_structure : Status → ℕ → Bool
lacks_structure z id = not (is_live z.structures id)

-- whether nothing of a kind has an id
abbrev pub lacks_thing : Status → Thing → ℕ → Bool
lacks_thing z things.Buffer id = lacks_buffer z id
lacks_thing z things.Structure id = lacks_structure z id

-- whether the buffer of indices or of a transform, where there are any, isn't live
abbrev pub lacks_index : Status → Option Index → Bool
lacks_index z index = option_map_or (λ (x : Index). lacks_buffer z x.buffer) index false

abbrev pub lacks_transform : Status → Option Spot → Bool
lacks_transform z transform = option_map_or (λ (s : Spot). lacks_buffer z s.buffer) transform false

-- whether a buffer that a geometry names isn't live
abbrev pub lacks_input : Status → Geometry → Bool
lacks_input z (geometries.Triangles opaque format vertex stride max_vertex index transform count primitive_offset first_vertex transform_offset) =
    lacks_buffer z vertex.buffer || (lacks_index z index || lacks_transform z transform)
lacks_input z (geometries.Boxes opaque content stride count primitive_offset) = lacks_buffer z content.buffer
lacks_input z (geometries.Instances content count primitive_offset) = lacks_buffer z content.buffer

-- whether the source of an update, where there is one, isn't live
abbrev pub lacks_source : Status → Option ℕ → Bool
lacks_source z src = option_map_or (lacks_structure z) src false

-- whether something that an info names isn't live
abbrev pub lacks_named : Status → Info → Bool
lacks_named z info =
    lacks_buffer z info.scratch.buffer
    || (lacks_structure z info.dst
    || (lacks_source z info.src
    || (list_any (lacks_input z) info.geometries || list_any (lacks_structure z) info.uses)))

-- whether a buffer to which a barrier is limited, where it is limited, isn't live
abbrev pub lacks_limit : Status → Option (List ℕ) → Bool
lacks_limit z buffers = option_map_or (list_any (lacks_buffer z)) buffers false

-- V1: a named buffer or structure isn't live, or a created one already is
unfoldable pub v1 : Status → Command → Option Place
v1 z (commands.Buffer id size usage content) = whole (is_live z.buffers id)
v1 z (commands.Structure id kind buffer offset size) = whole (is_live z.structures id || lacks_buffer z buffer)
v1 z (commands.Destroy what id) = whole (lacks_thing z what id)
v1 z (commands.Sizes kind counts) = None
v1 z commands.Begin = None
v1 z commands.End = None
v1 z commands.Submit = None
v1 z commands.Wait = None
v1 z (commands.Read buffer offset size form) = whole (lacks_buffer z buffer)
v1 z (commands.Update buffer offset content) = whole (lacks_buffer z buffer)
v1 z (commands.Fill buffer offset size value) = whole (lacks_buffer z buffer)
v1 z (commands.Copy src dst regions) = whole (lacks_buffer z src || lacks_buffer z dst)
v1 z (commands.Build infos) = first_part (lacks_named z) infos
v1 z (commands.CopyStructure mode src dst) = whole (lacks_structure z src || lacks_structure z dst)
v1 z (commands.Serialize src dst form) = whole (lacks_structure z src || lacks_buffer z dst.buffer)
v1 z (commands.Deserialize src dst uses) =
    whole (lacks_buffer z src.buffer || (lacks_structure z dst || list_any (lacks_structure z) uses))
v1 z (commands.Property what structures dst) =
    whole (list_any (lacks_structure z) structures || lacks_buffer z dst.buffer)
v1 z (commands.Barrier src_stages src_access dst_stages dst_access buffers) = whole (lacks_limit z buffers)
v1 z (commands.Trace top rays count hits flags mask script) =
    whole (lacks_structure z top || (lacks_buffer z rays.buffer || lacks_buffer z hits.buffer))
