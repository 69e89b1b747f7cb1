-- What each command and each of its pieces reads and writes: at which stage, with which access, and
-- what it reaches. (Vulkan: synchronization scopes of the commands; own: the ranges.)
use Rattle.std.specs.Prelude.{ℕ, ◌+◌, ◌-◌, ◌*◌, ◌++◌, List, [], ◌∷◌, Option, length, map, min, slice_get}
use Rattle.std.specs.List.{flat_map}
use Rattle.std.specs.Option.{option_map_or, option_to_list}
use Rattle.ray_cmd.specs.declared.command.Command.{Command}
use Rattle.ray_cmd.specs.declared.command.Command.TheVariants as commands
use Rattle.ray_cmd.specs.declared.geometry.Geometry.{Geometry}
use Rattle.ray_cmd.specs.declared.info.Info.{Info}
use Rattle.ray_cmd.specs.declared.region.Region.{Region}
use Rattle.ray_cmd.specs.declared.spot.Spot.{Spot}
use Rattle.ray_cmd.specs.declared.stretch.Stretch.{Stretch}
use Rattle.ray_rules.specs.declared.access_type.AccessType.{AccessType}
use Rattle.ray_rules.specs.declared.access_type.AccessType.TheVariants.{TransferRead, TransferWrite, ShaderRead, ShaderWrite, StructureRead, StructureWrite, HostRead}
use Rattle.ray_rules.specs.declared.byte_range.ByteRange.{ByteRange}
use Rattle.ray_rules.specs.declared.live_buffer.LiveBuffer.{LiveBuffer}
use Rattle.ray_rules.specs.declared.reach.Reach.TheVariants.{Bytes, Structure, Scratch}
use Rattle.ray_rules.specs.declared.stage.Stage.{Stage}
use Rattle.ray_rules.specs.declared.touch.Touch.{Touch}
use Rattle.ray_rules.specs.Ids.{Ids}
use Rattle.ray_rules.specs.Kinds.{kind_of, stage_in}
use Rattle.ray_rules.specs.Origins.{uses_of}
use Rattle.ray_rules.specs.Ranges.{range, inputs_read, scratch_range}
use Rattle.ray_rules.specs.Status.{Status, built_at}

-- what a command or a piece of it reads and writes
pub record Accesses : Type 0 where
  pub reads : List Touch
  pub writes : List Touch

-- no access
abbrev pub no_access : Accesses
no_access = record { reads = []; writes = [] }

-- one access of bytes of a buffer, of a structure, of scratch memory
abbrev pub at_bytes : AccessType → ℕ → ℕ → ℕ → Touch
at_bytes access buffer from size = record { access = access; reach = Bytes (range buffer from size) }

abbrev pub at_structure : AccessType → ℕ → Touch
at_structure access id = record { access = access; reach = Structure id }

abbrev pub at_scratch : AccessType → ByteRange → Touch
at_scratch access r = record { access = access; reach = Scratch r }

-- the stage of a device command: none of a barrier, which has no access, and of a host command
unfoldable pub stage_of : Command → Option Stage
stage_of c = stage_in (kind_of c)

-- what a region reads and writes
abbrev pub region_accesses : ℕ → ℕ → Region → Accesses
region_accesses src dst region = record {
  reads = at_bytes TransferRead src region.src_offset region.size ∷ [];
  writes = at_bytes TransferWrite dst region.dst_offset region.size ∷ [];
}

-- the inputs of a geometry, as accesses
abbrev pub input_reads : Ids LiveBuffer → Geometry → List Touch
input_reads buffers geometry =
    map (λ r. record { access = ShaderRead; reach = Bytes r }) (flat_map option_to_list (inputs_read buffers geometry))

-- the ids of structures, as accesses
abbrev pub structure_reads : List ℕ → List Touch
structure_reads ids = map (at_structure StructureRead) ids

-- what an info reads and writes: the inputs of its geometries, the structures that its instances
-- may refer to and the source of an update; its destination; and its scratch memory
abbrev pub info_accesses : Ids LiveBuffer → Info → Accesses
info_accesses buffers info = record {
  reads =
      flat_map (input_reads buffers) info.geometries
      ++ (structure_reads info.uses
      ++ (structure_reads (option_to_list info.src) ++ at_scratch StructureRead (scratch_range info) ∷ []));
  writes = at_structure StructureWrite info.dst ∷ at_scratch StructureWrite (scratch_range info) ∷ [];
}

-- the structures that the top of an id may refer to: none where it isn't built
abbrev pub uses_at : List Command → Status → ℕ → List ℕ
uses_at rec z id = option_map_or (uses_of rec) (built_at z id) []

-- what a trace of so many rays from number `first` on reads and writes
abbrev pub ray_accesses : List Command → Status → ℕ → Spot → Spot → ℕ → ℕ → Accesses
ray_accesses rec z top rays hits first count = record {
  reads =
      at_structure StructureRead top
      ∷ (structure_reads (uses_at rec z top) ++ at_bytes ShaderRead rays.buffer (rays.offset + 40 * first) (40 * count) ∷ []);
  writes = at_bytes ShaderWrite hits.buffer (hits.offset + 80 * first) (80 * count) ∷ [];
}

-- all of several accesses
abbrev pub all_accesses : List Accesses → Accesses
all_accesses parts = record { reads = flat_map (λ (p : Accesses). p.reads) parts; writes = flat_map (λ (p : Accesses). p.writes) parts }

-- what an update or a fill writes
abbrev pub write_accesses : ℕ → ℕ → ℕ → Accesses
write_accesses buffer from size = record { reads = []; writes = at_bytes TransferWrite buffer from size ∷ [] }

-- what a copy of regions reads and writes
abbrev pub copy_accesses : ℕ → ℕ → List Region → Accesses
copy_accesses src dst regions = all_accesses (map (region_accesses src dst) regions)

-- what a build reads and writes
abbrev pub build_accesses : Ids LiveBuffer → List Info → Accesses
build_accesses buffers infos = all_accesses (map (info_accesses buffers) infos)

-- what a copy of a structure reads and writes
abbrev pub structure_copy_accesses : ℕ → ℕ → Accesses
structure_copy_accesses src dst =
    record { reads = at_structure StructureRead src ∷ []; writes = at_structure StructureWrite dst ∷ [] }

-- what the serializing of a structure reads and writes
abbrev pub serialize_accesses : ℕ → Stretch → Accesses
serialize_accesses src dst =
    record { reads = at_structure StructureRead src ∷ []; writes = at_bytes TransferWrite dst.buffer dst.offset dst.size ∷ [] }

-- what the making of a structure from serialized bytes reads and writes
abbrev pub deserialize_accesses : Stretch → ℕ → List ℕ → Accesses
deserialize_accesses src dst uses = record {
  reads = at_bytes TransferRead src.buffer src.offset src.size ∷ structure_reads uses;
  writes = at_structure StructureWrite dst ∷ [];
}

-- what the asking for a number of structures reads and writes
abbrev pub property_accesses : List ℕ → Spot → Accesses
property_accesses structures dst = record {
  reads = structure_reads structures;
  writes = at_bytes TransferWrite dst.buffer dst.offset (8 * length structures) ∷ [];
}

-- what a device command reads and writes where this status stands before it
unfoldable pub accesses_of : List Command → Status → Command → Accesses
accesses_of rec z (commands.Update buffer offset content) = write_accesses buffer offset (length content)
accesses_of rec z (commands.Fill buffer offset size value) = write_accesses buffer offset size
accesses_of rec z (commands.Copy src dst regions) = copy_accesses src dst regions
accesses_of rec z (commands.Build infos) = build_accesses z.buffers infos
accesses_of rec z (commands.CopyStructure mode src dst) = structure_copy_accesses src dst
accesses_of rec z (commands.Serialize src dst form) = serialize_accesses src dst
accesses_of rec z (commands.Deserialize src dst uses) = deserialize_accesses src dst uses
accesses_of rec z (commands.Property what structures dst) = property_accesses structures dst
accesses_of rec z (commands.Trace top rays count hits flags mask script) = ray_accesses rec z top rays hits 0 count
accesses_of rec z _ = no_access

-- how many rays a piece of a trace has, of those that are left: at most 64
abbrev pub rays_of_piece : ℕ → ℕ → ℕ
rays_of_piece count k = min 64 (count - 64 * k)

-- what piece number k of a device command reads and writes: one info of a build, one region of a
-- copy, 64 rays of a trace, and all of any other command
unfoldable pub piece_accesses : List Command → Status → Command → ℕ → Accesses
piece_accesses rec z (commands.Copy src dst regions) k =
    option_map_or (region_accesses src dst) (slice_get regions k) no_access
piece_accesses rec z (commands.Build infos) k =
    option_map_or (info_accesses z.buffers) (slice_get infos k) no_access
piece_accesses rec z (commands.Trace top rays count hits flags mask script) k =
    ray_accesses rec z top rays hits (64 * k) (rays_of_piece count k)
piece_accesses rec z c k = accesses_of rec z c

-- the bytes that a `read` reads
abbrev pub host_reads : Command → List Touch
host_reads (commands.Read buffer offset size form) = at_bytes HostRead buffer offset size ∷ []
host_reads _ = []
