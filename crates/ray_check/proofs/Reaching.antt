-- That a command which breaks no rule reads and writes bytes that are there.
use Rattle.std.proofs.Common.{◌≡◌, ◌+◌, ◌*◌, ◌++◌, ◌∷◌, [], ℕ, List, Option, Some, None, false, subst, arith, map}
use Rattle.std.specs.List.{flat_map}
use Rattle.std.specs.Option.{option_to_list}
use Rattle.ray_cmd.specs.declared.command.Command.{Command}
use Rattle.ray_cmd.specs.declared.command.Command.TheVariants as commands
use Rattle.ray_cmd.specs.declared.geometry.Geometry.{Geometry}
use Rattle.ray_cmd.specs.declared.info.Info.{Info}
use Rattle.ray_cmd.specs.declared.region.Region.{Region}
use Rattle.ray_cmd.specs.declared.spot.Spot.{Spot}
use Rattle.ray_rules.specs.declared.access_type.AccessType.TheVariants.{ShaderRead}
use Rattle.ray_rules.specs.declared.byte_range.ByteRange.{ByteRange}
use Rattle.ray_rules.specs.declared.live_buffer.LiveBuffer.{LiveBuffer}
use Rattle.ray_rules.specs.declared.touch.Touch.{Touch}
use Rattle.ray_rules.specs.declared.reach.Reach.TheVariants.{Bytes}
use Rattle.ray_rules.specs.Access.{accesses_of, build_accesses, copy_accesses, info_accesses, input_reads, structure_reads, uses_at}
use Rattle.ray_rules.specs.Ids.{Ids}
use Rattle.ray_rules.specs.Ranges.{inputs_read, range}
use Rattle.ray_rules.specs.Spans.{info_reaches_out, input_reaches_out, reaches_out, region_reaches_out, scratch_reaches_out, v4, v12}
use Rattle.ray_rules.specs.Status.{Status}
use Rattle.ray_rules.specs.Within.{AreInBuffers, IsInBuffer}
use Rattle.ray_rules.proofs.Kept.{Fail, neither_first, neither_second, no_part, none_any, not_broken, read_within, within}
use Rattle.ray_check.specs.Reaching.{IsWithinBuffers, TouchThere}

-- touches of two lists
both : (buffers : Ids LiveBuffer) (ts us : List Touch) → TouchThere buffers ts → TouchThere buffers us → TouchThere buffers (ts ++ us)
both buffers [] us h k = k
both buffers (t ∷ ts) us h k = (h.0, both buffers ts us h.1 k)

-- structures
structures : (buffers : Ids LiveBuffer) (ids : List ℕ) → TouchThere buffers (structure_reads ids)
structures buffers [] = tt
structures buffers (id ∷ ids) = (tt, structures buffers ids)

-- the regions of a copy
sources : (z : Status) (src dst : ℕ) (regions : List Region) → Fail (region_reaches_out z src dst) regions
    → TouchThere z.buffers (copy_accesses src dst regions).reads
sources z src dst [] pass = tt
sources z src dst (r ∷ regions) pass = (within z.buffers _ (neither_first _ _ pass.0), sources z src dst regions pass.1)

targets : (z : Status) (src dst : ℕ) (regions : List Region) → Fail (region_reaches_out z src dst) regions
    → TouchThere z.buffers (copy_accesses src dst regions).writes
targets z src dst [] pass = tt
targets z src dst (r ∷ regions) pass = (within z.buffers _ (neither_second _ _ pass.0), targets z src dst regions pass.1)

-- as accesses
abbrev input : ByteRange → Touch
input r = record { access = ShaderRead; reach = Bytes r }

inputs : (buffers : Ids LiveBuffer) (os : List (Option ByteRange)) → AreInBuffers buffers os
    → TouchThere buffers (map input (flat_map option_to_list os))
inputs buffers [] h = tt
inputs buffers (None ∷ os) h = inputs buffers os h.1
inputs buffers (Some r ∷ os) h = (h.0, inputs buffers os h.1)

geometry_reads : (z : Status) (gs : List Geometry) → Fail (input_reaches_out z) gs → TouchThere z.buffers (flat_map (input_reads z.buffers) gs)
geometry_reads z [] pass = tt
geometry_reads z (g ∷ gs) pass =
    both z.buffers (input_reads z.buffers g) _ (inputs z.buffers (inputs_read z.buffers g) (read_within z.buffers g pass.0))
    (geometry_reads z gs pass.1)

-- the infos of a build
info_reads : (z : Status) (info : Info) → info_reaches_out z info ≡ false → scratch_reaches_out z info ≡ false
    → TouchThere z.buffers (info_accesses z.buffers info).reads
info_reads z info geometries scratch =
    both z.buffers (flat_map (input_reads z.buffers) info.geometries) _ (geometry_reads z info.geometries (none_any _ info.geometries geometries))
    (both z.buffers (structure_reads info.uses) _ (structures z.buffers info.uses)
    (both z.buffers (structure_reads (option_to_list info.src)) _ (structures z.buffers (option_to_list info.src)) (within z.buffers _ scratch, tt)))

build_reads : (z : Status) (infos : List Info) → Fail (info_reaches_out z) infos → Fail (scratch_reaches_out z) infos
    → TouchThere z.buffers (build_accesses z.buffers infos).reads
build_reads z [] geometries scratch = tt
build_reads z (info ∷ infos) geometries scratch =
    both z.buffers (info_accesses z.buffers info).reads _ (info_reads z info geometries.0 scratch.0)
    (build_reads z infos geometries.1 scratch.1)

build_writes : (z : Status) (infos : List Info) → Fail (scratch_reaches_out z) infos → TouchThere z.buffers (build_accesses z.buffers infos).writes
build_writes z [] scratch = tt
build_writes z (info ∷ infos) scratch = (tt, (within z.buffers _ scratch.0, build_writes z infos scratch.1))

-- records from number 0 on
from_0 : (z : Status) (spot : Spot) (size count : ℕ) → reaches_out z spot.buffer spot.offset (size * count) ≡ false
    → IsInBuffer z.buffers (range spot.buffer (spot.offset + size * 0) (size * count))
from_0 z spot size count is =
    let same : spot.offset ≡ spot.offset + size * 0 = omega arith in
    subst (λ from. IsInBuffer z.buffers (range spot.buffer from (size * count))) same (within z.buffers _ is)

-- the law
pub kept_is_within : (rec : List Command) (z : Status) (c : Command) → v4 z c ≡ None → v12 z c ≡ None → IsWithinBuffers rec z c
unfolding accesses_of v4 v12
kept_is_within rec z (commands.Buffer id size usage content) h k = record { reads = tt; writes = tt; host = tt }
kept_is_within rec z (commands.Structure id kind buffer offset size) h k = record { reads = tt; writes = tt; host = tt }
kept_is_within rec z (commands.Destroy what id) h k = record { reads = tt; writes = tt; host = tt }
kept_is_within rec z (commands.Sizes kind counts) h k = record { reads = tt; writes = tt; host = tt }
kept_is_within rec z commands.Begin h k = record { reads = tt; writes = tt; host = tt }
kept_is_within rec z commands.End h k = record { reads = tt; writes = tt; host = tt }
kept_is_within rec z commands.Submit h k = record { reads = tt; writes = tt; host = tt }
kept_is_within rec z commands.Wait h k = record { reads = tt; writes = tt; host = tt }
kept_is_within rec z (commands.Read buffer offset size form) h k =
    record { reads = tt; writes = tt; host = (within z.buffers _ (not_broken _ h), tt) }
kept_is_within rec z (commands.Update buffer offset content) h k =
    record { reads = tt; writes = (within z.buffers _ (not_broken _ h), tt); host = tt }
kept_is_within rec z (commands.Fill buffer offset size value) h k =
    record { reads = tt; writes = (within z.buffers _ (not_broken _ h), tt); host = tt }
kept_is_within rec z (commands.Copy src dst regions) h k =
    let pass = no_part (region_reaches_out z src dst) regions h in
    record { reads = sources z src dst regions pass; writes = targets z src dst regions pass; host = tt }
kept_is_within rec z (commands.Build infos) h k =
    let scratch = no_part (scratch_reaches_out z) infos k in
    record { reads = build_reads z infos (no_part (info_reaches_out z) infos h) scratch; writes = build_writes z infos scratch; host = tt }
kept_is_within rec z (commands.CopyStructure mode src dst) h k = record { reads = (tt, tt); writes = (tt, tt); host = tt }
kept_is_within rec z (commands.Serialize src dst form) h k =
    record { reads = (tt, tt); writes = (within z.buffers _ (not_broken _ h), tt); host = tt }
kept_is_within rec z (commands.Deserialize src dst uses) h k =
    record { reads = (within z.buffers _ (not_broken _ h), structures z.buffers uses); writes = (tt, tt); host = tt }
kept_is_within rec z (commands.Property what ids dst) h k =
    record { reads = structures z.buffers ids; writes = (within z.buffers _ (not_broken _ h), tt); host = tt }
kept_is_within rec z (commands.Barrier src_stages src_access dst_stages dst_access buffers) h k = record { reads = tt; writes = tt; host = tt }
kept_is_within rec z (commands.Trace top rays count hits flags mask script) h k =
    let broken = not_broken _ h in record {
      reads = (
        tt,
        both z.buffers (structure_reads (uses_at rec z top)) _ (structures z.buffers (uses_at rec z top))
            (from_0 z rays 40 count (neither_first _ _ broken), tt),
      );
      writes = (from_0 z hits 80 count (neither_second _ _ broken), tt);
      host = tt;
    }
