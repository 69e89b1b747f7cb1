-- Words for what code computes on tables of fronts, which the definitions know nothing of. (Own.)
use Rattle.std.specs.Prelude.{ℕ, Bool, max, nat_lt, if◌then◌else◌, Option, Some, None}
use Rattle.ray_chains.specs.declared.access_type.AccessType.{AccessType}
use Rattle.ray_chains.specs.declared.access_type.AccessType.TheVariants.{TransferRead, TransferWrite, ShaderRead, ShaderWrite, StructureRead, StructureWrite, HostRead, HostWrite}
use Rattle.ray_chains.specs.declared.front.Front.{Front}
use Rattle.ray_chains.specs.declared.masks.AccessMask.{AccessMask}
use Rattle.ray_chains.specs.declared.masks.MemoryBarrier.{MemoryBarrier}
use Rattle.ray_chains.specs.declared.masks.StageMask.{StageMask}
use Rattle.ray_chains.specs.declared.stage.Stage.{Stage}
use Rattle.ray_chains.specs.declared.stage.Stage.TheVariants.{Transfer, Build, StructureCopy, Compute, Host}
use Rattle.ray_chains.specs.declared.table.Table.{Table}
use Rattle.ray_chains.specs.Queues.{Scopes, holds}

-- ---- sets

-- whether a set of stages has a stage
abbrev pub has_stage : StageMask → Stage → Bool
has_stage mask Transfer = mask.transfer
has_stage mask Build = mask.build
has_stage mask StructureCopy = mask.structure_copy
has_stage mask Compute = mask.compute
has_stage mask Host = mask.host

-- whether a set of accesses has an access
abbrev pub has_access : AccessMask → AccessType → Bool
has_access mask TransferRead = mask.transfer_read
has_access mask TransferWrite = mask.transfer_write
has_access mask ShaderRead = mask.shader_read
has_access mask ShaderWrite = mask.shader_write
has_access mask StructureRead = mask.structure_read
has_access mask StructureWrite = mask.structure_write
has_access mask HostRead = mask.host_read
has_access mask HostWrite = mask.host_write

-- the scopes of a barrier
abbrev pub scopes_of : MemoryBarrier → Scopes
scopes_of barrier = record {
  src_stages = has_stage barrier.src_stages;
  src_access = has_access barrier.src_access;
  dst_stages = has_stage barrier.dst_stages;
  dst_access = has_access barrier.dst_access;
}

-- whether a barrier takes up directly, where it is on their queue, what commands did at a stage, or wrote
-- there with an access
abbrev pub takes_at : MemoryBarrier → Stage → Option AccessType → Bool
takes_at barrier stage access = holds (has_stage barrier.src_stages) (has_access barrier.src_access) stage access

-- ---- a number for each stage

-- nothing has reached any stage
abbrev pub no_front : Front
no_front = record { transfer = 0; build = 0; structure_copy = 0; compute = 0; host = 0 }

-- the number at a stage
abbrev pub front_at : Front → Stage → ℕ
front_at front Transfer = front.transfer
front_at front Build = front.build
front_at front StructureCopy = front.structure_copy
front_at front Compute = front.compute
front_at front Host = front.host

-- a number where the stages have this one, and else 0
abbrev pub held : StageMask → Stage → ℕ → ℕ
held stages stage number = if has_stage stages stage then number else 0

-- the greatest number at one of these stages
abbrev pub met : StageMask → Front → ℕ
met stages front =
    max (held stages Transfer front.transfer)
    (max (held stages Build front.build)
    (max (held stages StructureCopy front.structure_copy)
    (max (held stages Compute front.compute) (held stages Host front.host))))

-- below which number a barrier takes up what was done
abbrev pub taken_at : Bool → ℕ → StageMask → Front → ℕ
taken_at direct n stages front = if direct then n else met stages front

-- what is below a number has reached these stages too
abbrev pub raised : StageMask → ℕ → Front → Front
raised stages number front = record {
  transfer = max front.transfer (held stages Transfer number);
  build = max front.build (held stages Build number);
  structure_copy = max front.structure_copy (held stages StructureCopy number);
  compute = max front.compute (held stages Compute number);
  host = max front.host (held stages Host number);
}

-- after a barrier
abbrev pub front_barrier : Bool → ℕ → MemoryBarrier → Front → Front
front_barrier direct n barrier front =
    raised barrier.dst_stages (taken_at direct n barrier.src_stages front) front

-- it has reached the stages of the device
abbrev pub on_device : ℕ → Front → Front
on_device number front = record {
  transfer = max front.transfer number;
  build = max front.build number;
  structure_copy = max front.structure_copy number;
  compute = max front.compute number;
  host = front.host;
}

-- a number where a chain came later than number t, and else 0
abbrev pub above : ℕ → ℕ → ℕ → ℕ
above t chain number = if nat_lt t chain then number else 0

-- ---- tables

-- nothing has been handed on
abbrev pub no_table : Table
no_table = record {
  stages = no_front;
  transfer_read = no_front;
  transfer_write = no_front;
  shader_read = no_front;
  shader_write = no_front;
  structure_read = no_front;
  structure_write = no_front;
  host_read = no_front;
  host_write = no_front;
}

-- the fronts at the stages, or of an access
abbrev pub table_at : Table → Option AccessType → Front
table_at table None = table.stages
table_at table (Some TransferRead) = table.transfer_read
table_at table (Some TransferWrite) = table.transfer_write
table_at table (Some ShaderRead) = table.shader_read
table_at table (Some ShaderWrite) = table.shader_write
table_at table (Some StructureRead) = table.structure_read
table_at table (Some StructureWrite) = table.structure_write
table_at table (Some HostRead) = table.host_read
table_at table (Some HostWrite) = table.host_write

-- the fronts of an access after a barrier that takes up what was done below a number
abbrev pub pair_barrier : ℕ → MemoryBarrier → Table → AccessType → Front
pair_barrier number barrier table access =
    if has_access barrier.dst_access access then raised barrier.dst_stages number (table_at table (Some access))
    else table_at table (Some access)

-- a table after such a barrier
abbrev pub handed_below : ℕ → MemoryBarrier → Table → Table
handed_below number barrier table = record {
  stages = raised barrier.dst_stages number table.stages;
  transfer_read = pair_barrier number barrier table TransferRead;
  transfer_write = pair_barrier number barrier table TransferWrite;
  shader_read = pair_barrier number barrier table ShaderRead;
  shader_write = pair_barrier number barrier table ShaderWrite;
  structure_read = pair_barrier number barrier table StructureRead;
  structure_write = pair_barrier number barrier table StructureWrite;
  host_read = pair_barrier number barrier table HostRead;
  host_write = pair_barrier number barrier table HostWrite;
}

-- a table after a barrier
abbrev pub table_barrier : Bool → ℕ → MemoryBarrier → Table → Table
table_barrier direct n barrier table =
    handed_below (taken_at direct n barrier.src_stages table.stages) barrier table

-- those of everything, which a barrier that is limited leaves as they are
abbrev pub all_barrier : Bool → Bool → ℕ → MemoryBarrier → Table → Table
all_barrier limited direct n barrier table =
    if limited then table else table_barrier direct n barrier table

-- a table once what is below a number has reached all that the device does
abbrev pub table_on_device : ℕ → Table → Table
table_on_device number table = record {
  stages = on_device number table.stages;
  transfer_read = on_device number table.transfer_read;
  transfer_write = on_device number table.transfer_write;
  shader_read = on_device number table.shader_read;
  shader_write = on_device number table.shader_write;
  structure_read = on_device number table.structure_read;
  structure_write = on_device number table.structure_write;
  host_read = on_device number table.host_read;
  host_write = on_device number table.host_write;
}
