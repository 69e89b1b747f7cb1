-- Words for what code computes on chains and overrides, which the definitions know nothing of. (Own.)
use Rattle.std.specs.Prelude.{ℕ, Bool, max, nat_le, if◌then◌else◌, Option, Some, None}
use Rattle.ray_chains.specs.declared.access_type.AccessType.{AccessType}
use Rattle.ray_chains.specs.declared.access_type.AccessType.TheVariants.{TransferRead, TransferWrite, ShaderRead, ShaderWrite, StructureRead, StructureWrite, HostRead, HostWrite}
use Rattle.ray_chains.specs.declared.chains.Chains.{Chains}
use Rattle.ray_chains.specs.declared.front.Front.{Front}
use Rattle.ray_chains.specs.declared.masks.MemoryBarrier.{MemoryBarrier}
use Rattle.ray_chains.specs.declared.kept.Override.{Override}
use Rattle.ray_chains.specs.declared.stage.Stage.{Stage}
use Rattle.ray_chains.specs.declared.stage.Stage.TheVariants.{Transfer, Build, StructureCopy, Compute, Host}
use Rattle.ray_chains.specs.declared.table.Table.{Table}
use Rattle.ray_chains.specs.Tables.{has_stage, no_table, table_at, above, table_barrier, table_on_device}

-- ---- chains

-- none leads anywhere
abbrev pub no_chains : Chains
no_chains = record {
  transfer = no_table;
  build = no_table;
  structure_copy = no_table;
  compute = no_table;
  host = no_table;
  last = 0;
}

-- the chain from a stage
abbrev pub chain_at : Chains → Stage → Table
chain_at chains Transfer = chains.transfer
chain_at chains Build = chains.build
chain_at chains StructureCopy = chains.structure_copy
chain_at chains Compute = chains.compute
chain_at chains Host = chains.host

-- after a barrier, which takes up the stages that its source has
abbrev pub chains_barrier : ℕ → MemoryBarrier → Chains → Chains
chains_barrier n barrier chains = record {
  transfer = table_barrier (has_stage barrier.src_stages Transfer) n barrier chains.transfer;
  build = table_barrier (has_stage barrier.src_stages Build) n barrier chains.build;
  structure_copy = table_barrier (has_stage barrier.src_stages StructureCopy) n barrier chains.structure_copy;
  compute = table_barrier (has_stage barrier.src_stages Compute) n barrier chains.compute;
  host = table_barrier (has_stage barrier.src_stages Host) n barrier chains.host;
  last = n;
}

-- a barrier that is limited leads none on
abbrev pub chains_led_on : Bool → ℕ → MemoryBarrier → Chains → Chains
chains_led_on limited n barrier chains = if limited then chains else chains_barrier n barrier chains

-- after command number n, once what is below a number has reached all that the device does
abbrev pub chains_on_device : ℕ → ℕ → Chains → Chains
chains_on_device n number chains = record {
  transfer = table_on_device number chains.transfer;
  build = table_on_device number chains.build;
  structure_copy = table_on_device number chains.structure_copy;
  compute = table_on_device number chains.compute;
  host = table_on_device number chains.host;
  last = n;
}

-- ---- overrides

-- at each stage the greater of two numbers
abbrev pub front_max : Front → Front → Front
front_max a b = record {
  transfer = max a.transfer b.transfer;
  build = max a.build b.build;
  structure_copy = max a.structure_copy b.structure_copy;
  compute = max a.compute b.compute;
  host = max a.host b.host;
}

-- a number at the stages to which a chain came later than number t, 0 at the others
abbrev pub front_above : ℕ → ℕ → Front → Front
front_above t number chain = record {
  transfer = above t chain.transfer number;
  build = above t chain.build number;
  structure_copy = above t chain.structure_copy number;
  compute = above t chain.compute number;
  host = above t chain.host number;
}

-- at each stage the greatest of an override's numbers at the stages from which a chain has led there since
abbrev pub led : Override → Chains → Option AccessType → Front
led over chains access =
    front_max (front_above over.barrier over.table.stages.transfer (table_at chains.transfer access))
    (front_max (front_above over.barrier over.table.stages.build (table_at chains.build access))
    (front_max (front_above over.barrier over.table.stages.structure_copy (table_at chains.structure_copy access))
    (front_max (front_above over.barrier over.table.stages.compute (table_at chains.compute access))
    (front_above over.barrier over.table.stages.host (table_at chains.host access)))))

-- a thing's fronts, by those of everything, its own old ones, and what chains have led there since
abbrev pub since_front : Table → Override → Chains → Option AccessType → Front
since_front all over chains access =
    front_max (table_at all access) (front_max (table_at over.table access) (led over chains access))

-- the same at the stages and for each access
abbrev pub refreshed : Table → Override → Chains → Table
refreshed all over chains = record {
  stages = since_front all over chains None;
  transfer_read = since_front all over chains (Some TransferRead);
  transfer_write = since_front all over chains (Some TransferWrite);
  shader_read = since_front all over chains (Some ShaderRead);
  shader_write = since_front all over chains (Some ShaderWrite);
  structure_read = since_front all over chains (Some StructureRead);
  structure_write = since_front all over chains (Some StructureWrite);
  host_read = since_front all over chains (Some HostRead);
  host_write = since_front all over chains (Some HostWrite);
}

-- where no chain was led on since the override, its old fronts are right as they are
abbrev pub current_table : Table → Override → Chains → Table
current_table all over chains = if nat_le chains.last over.barrier then over.table else refreshed all over chains

-- the same for one access
abbrev pub current_front : Table → Override → Chains → AccessType → Front
current_front all over chains access =
    if nat_le chains.last over.barrier then table_at over.table (Some access)
    else since_front all over chains (Some access)

-- a thing's fronts are those of everything where nothing is kept
abbrev pub own_table : Table → Option Override → Chains → Table
own_table all None chains = all
own_table all (Some over) chains = current_table all over chains

-- and for one access
abbrev pub own_front : Table → Option Override → Chains → AccessType → Front
own_front all None chains access = table_at all (Some access)
own_front all (Some over) chains access = current_front all over chains access

-- what is kept after a barrier that is limited to the thing
abbrev pub override_after : Table → Option Override → Chains → Bool → ℕ → MemoryBarrier → Override
override_after all kept chains direct n barrier =
    record { barrier = n; table = table_barrier direct n barrier (own_table all kept chains) }
