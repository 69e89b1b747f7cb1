-- The status: what the commands before a command leave, as far as rules speak of it, and what each
-- command changes. (Own; after the lifetimes of VkBuffer and VkAccelerationStructureKHR and the
-- command buffer lifecycle of Vulkan.)
use Rattle.std.specs.Prelude.{ℕ, zero, suc, ◌+◌, List, [], ◌∷◌, Option, Some, None, Bool, true, false, option_map, slice_get}
use Rattle.std.specs.List.{sum_by}
use Rattle.std.specs.Map.{values_of}
use Rattle.std.specs.Option.{option_and_then}
use Rattle.ray_cmd.specs.declared.command.Command.{Command}
use Rattle.ray_cmd.specs.declared.command.Command.TheVariants as commands
use Rattle.ray_cmd.specs.declared.info.Info.{Info}
use Rattle.ray_cmd.specs.declared.thing.Thing.{Thing}
use Rattle.ray_cmd.specs.declared.thing.Thing.TheVariants as things
use Rattle.ray_rules.specs.declared.built.Built.{Built}
use Rattle.ray_rules.specs.declared.live_buffer.LiveBuffer.{LiveBuffer}
use Rattle.ray_rules.specs.declared.live_structure.LiveStructure.{LiveStructure}
use Rattle.ray_rules.specs.declared.phase.Phase.{Phase}
use Rattle.ray_rules.specs.declared.phase.Phase.TheVariants.{Idle, Recording, Ended}
use Rattle.ray_rules.specs.Ids.{Ids, look, with_id, without_id}

-- what the commands before a command leave
pub record Status : Type 0 where
  -- the live buffers
  pub buffers : Ids LiveBuffer
  -- the live structures
  pub structures : Ids LiveStructure
  -- the state of the command buffer
  pub phase : Phase
  -- whether a `submit` stands after the last `wait`
  pub pending : Bool

-- what stands where a recording begins: nothing is live
abbrev pub at_first : Status
at_first = record { buffers = []; structures = []; phase = Idle; pending = false }

-- the sizes of all live buffers together, in bytes
abbrev pub live_bytes : Status → ℕ
live_bytes z = sum_by (λ (b : LiveBuffer). b.size) (values_of z.buffers)

-- what a structure was built by, where it is live and built
abbrev pub built_at : Status → ℕ → Option Built
built_at z id = option_and_then (λ (s : LiveStructure). s.built) (look z.structures id)

-- a buffer is live
abbrev pub with_buffer : ℕ → LiveBuffer → Status → Status
with_buffer id buffer z = record z { buffers = with_id id buffer z.buffers }

-- a structure is live
abbrev pub with_structure : ℕ → LiveStructure → Status → Status
with_structure id structure z = record z { structures = with_id id structure z.structures }

-- a buffer or a structure is live no more
abbrev pub without_thing : Thing → ℕ → Status → Status
without_thing things.Buffer id z = record z { buffers = without_id id z.buffers }
without_thing things.Structure id z = record z { structures = without_id id z.structures }

-- the command buffer is in this state
abbrev pub in_phase : Phase → Status → Status
in_phase phase z = record z { phase = phase }

-- the command buffer is submitted
abbrev pub submitted : Status → Status
submitted z = record z { phase = Idle; pending = true }

-- all that was submitted is done
abbrev pub waited : Status → Status
waited z = record z { pending = false }

-- a structure, built by this
abbrev pub structure_built : Option Built → LiveStructure → LiveStructure
structure_built built structure = record structure { built = built }

-- the names once the structure that was under an id, where there was one, is built by this
abbrev pub with_built : ℕ → Option Built → Status → Option LiveStructure → Status
with_built id built z None = z
with_built id built z (Some structure) = with_structure id (structure_built built structure) z

-- the structure of an id is built by this
abbrev pub fill_in : ℕ → Option Built → Status → Status
fill_in id built z = with_built id built z (look z.structures id)

-- built by info number k of command number i
abbrev pub built_by : ℕ → ℕ → Option Built
built_by i k = Some (record { stamp = i; info = k; written = i })

-- what a copy by command number i has of its source: all but when it was written
abbrev pub copied_by : ℕ → Option Built → Option Built
copied_by i built = option_map (λ (b : Built). record b { written = i }) built

-- the status after the infos of command number i from number k on
abbrev pub after_infos : ℕ → ℕ → List Info → Status → Status
after_infos i k [] z = z
after_infos i k (info ∷ infos) z = after_infos i (k + 1) infos (fill_in info.dst (built_by i k) z)

-- the status after command number i
unfoldable pub after : ℕ → Command → Status → Status
after i (commands.Buffer id size usage content) z = with_buffer id (record { made = i; size = size; usage = usage }) z
after i (commands.Structure id kind buffer offset size) z =
    with_structure id (record { made = i; kind = kind; buffer = buffer; offset = offset; size = size; built = None }) z
after i (commands.Destroy what id) z = without_thing what id z
after i (commands.Sizes kind counts) z = z
after i commands.Begin z = in_phase Recording z
after i commands.End z = in_phase Ended z
after i commands.Submit z = submitted z
after i commands.Wait z = waited z
after i (commands.Read buffer offset size form) z = z
after i (commands.Update buffer offset content) z = z
after i (commands.Fill buffer offset size value) z = z
after i (commands.Copy src dst regions) z = z
after i (commands.Build infos) z = after_infos i 0 infos z
after i (commands.CopyStructure mode src dst) z = fill_in dst (copied_by i (built_at z src)) z
after i (commands.Serialize src dst form) z = z
after i (commands.Deserialize src dst uses) z = fill_in dst (built_by i 0) z
after i (commands.Property what structures dst) z = z
after i (commands.Barrier src_stages src_access dst_stages dst_access buffers) z = z
after i (commands.Trace top rays count hits flags mask script) z = z

-- the status after these commands, the first of which has number i
abbrev pub after_all : ℕ → List Command → Status → Status
after_all i [] z = z
after_all i (c ∷ cs) z = after_all (i + 1) cs (after i c z)

-- the status after one more command, where there is one
abbrev pub after_if : ℕ → Option Command → Status → Status
after_if i None z = z
after_if i (Some c) z = after i c z

-- the status where command number n stands
abbrev pub status_at : List Command → ℕ → Status
status_at rec zero = at_first
status_at rec (suc n) = after_if n (slice_get rec n) (status_at rec n)
