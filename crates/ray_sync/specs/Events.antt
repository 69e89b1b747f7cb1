-- Commands as the events of one queue, over which dependency chains are kept. (Own; the words of chains
-- are those of ray_chains.)
use Rattle.std.specs.Prelude.{ℕ, List, Some, slice_get}
use Rattle.std.specs.Option.{option_map_or}
use Rattle.ray_chains.specs.declared.access_type.AccessType.{AccessType as ChainAccess}
use Rattle.ray_chains.specs.declared.access_type.AccessType.TheVariants as chain_accesses
use Rattle.ray_chains.specs.declared.masks.AccessMask.{AccessMask}
use Rattle.ray_chains.specs.declared.masks.MemoryBarrier.{MemoryBarrier}
use Rattle.ray_chains.specs.declared.masks.StageMask.{StageMask}
use Rattle.ray_chains.specs.declared.stage.Stage.{Stage as ChainStage}
use Rattle.ray_chains.specs.declared.stage.Stage.TheVariants as chain_stages
use Rattle.ray_chains.specs.QueueLaws.{source_of}
use Rattle.ray_chains.specs.Queues.{Event, Barrier, Wait, Other, Source}
use Rattle.ray_chains.specs.Tables.{scopes_of}
use Rattle.ray_cmd.specs.declared.command.Command.{Command}
use Rattle.ray_cmd.specs.declared.command.Command.TheVariants as commands
use Rattle.ray_flags.specs.declared.access.Access.{Access}
use Rattle.ray_flags.specs.declared.stages.Stages.{Stages}
use Rattle.ray_rules.specs.declared.access_type.AccessType.{AccessType}
use Rattle.ray_rules.specs.declared.access_type.AccessType.TheVariants.{TransferRead, TransferWrite, ShaderRead, ShaderWrite, StructureRead, StructureWrite, HostRead, HostWrite}
use Rattle.ray_rules.specs.declared.stage.Stage.{Stage}
use Rattle.ray_rules.specs.declared.stage.Stage.TheVariants.{Transfer, Build, StructureCopy, Compute, Host}
use Rattle.ray_rules.specs.Order.{holds_access, holds_stage}

-- a stage, and an access, in the words of chains
abbrev pub chain_stage : Stage → ChainStage
chain_stage Transfer = chain_stages.Transfer
chain_stage Build = chain_stages.Build
chain_stage StructureCopy = chain_stages.StructureCopy
chain_stage Compute = chain_stages.Compute
chain_stage Host = chain_stages.Host

abbrev pub chain_access : AccessType → ChainAccess
chain_access TransferRead = chain_accesses.TransferRead
chain_access TransferWrite = chain_accesses.TransferWrite
chain_access ShaderRead = chain_accesses.ShaderRead
chain_access ShaderWrite = chain_accesses.ShaderWrite
chain_access StructureRead = chain_accesses.StructureRead
chain_access StructureWrite = chain_accesses.StructureWrite
chain_access HostRead = chain_accesses.HostRead
chain_access HostWrite = chain_accesses.HostWrite

-- the stages of a barrier, and its accesses
abbrev pub stage_mask : Stages → StageMask
stage_mask stages = record {
  transfer = holds_stage stages Transfer;
  build = holds_stage stages Build;
  structure_copy = holds_stage stages StructureCopy;
  compute = holds_stage stages Compute;
  host = holds_stage stages Host;
}

abbrev pub access_mask : Access → AccessMask
access_mask access = record {
  transfer_read = holds_access access TransferRead;
  transfer_write = holds_access access TransferWrite;
  shader_read = holds_access access ShaderRead;
  shader_write = holds_access access ShaderWrite;
  structure_read = holds_access access StructureRead;
  structure_write = holds_access access StructureWrite;
  host_read = holds_access access HostRead;
  host_write = holds_access access HostWrite;
}

-- a barrier
abbrev pub barrier_of : Stages → Access → Stages → Access → MemoryBarrier
barrier_of src_stages src_access dst_stages dst_access = record {
  src_stages = stage_mask src_stages;
  src_access = access_mask src_access;
  dst_stages = stage_mask dst_stages;
  dst_access = access_mask dst_access;
}

-- a command as an event of the one queue
abbrev pub event_of : Command → Event
event_of (commands.Barrier src_stages src_access dst_stages dst_access buffers) =
    Barrier 0 (scopes_of (barrier_of src_stages src_access dst_stages dst_access)) buffers
event_of commands.Wait = Wait
event_of _ = Other

abbrev pub event_at : List Command → ℕ → Event
event_at rec n = option_map_or event_of (slice_get rec n) Other

-- what commands of a stage wrote with an access
abbrev pub written_by : Stage → AccessType → Source
written_by stage access = source_of 0 (chain_stage stage) (Some (chain_access access))
