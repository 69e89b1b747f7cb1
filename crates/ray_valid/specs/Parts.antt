-- Words that private contracts cite: no page of definitions.
use Rattle.std.specs.Prelude.{◌≡◌, ◌+◌, ◌≤◌, ◌^◌, ℕ, List, Option, None, Bool, [], ◌∷◌, ◌&&◌, ◌||◌, ◌==◌, true, false, map, not}
use Rattle.std.specs.List.{AllByRecursion, list_any}
use Rattle.std.specs.Option.{option_map_or}
use Rattle.ray_cmd.specs.declared.command.Command.{Command}
use Rattle.ray_cmd.specs.declared.info.Info.{Info}
use Rattle.ray_flags.specs.declared.access.Access.{Access}
use Rattle.ray_flags.specs.declared.stages.Stages.{Stages}
use Rattle.ray_flags.specs.Flags.{build_has, AllowCompaction}
use Rattle.ray_flags.specs.Flags.{access_has, HostRead, HostWrite, MemoryRead, MemoryWrite, ShaderRead, ShaderWrite, StructureRead, StructureWrite, TransferRead, TransferWrite}
use Rattle.ray_flags.specs.Flags.{Build, Compute, Host, StructureCopy, Transfer}
use Rattle.ray_ranges.specs.Addresses.{addresses_of}
use Rattle.ray_ranges.specs.Apart.{HaveTheSame}
use Rattle.ray_ranges.specs.Meeting.{meets_any}
use Rattle.ray_ranges.specs.declared.range.Range.{Range}
use Rattle.ray_rules.specs.FlagRules.{lacks_stage}
use Rattle.ray_rules.specs.Ranges.{place_of, scratch_range}
use Rattle.ray_rules.specs.Sources.{first_stale}
use Rattle.ray_rules.specs.Status.{Status, after, built_at}

-- whether an info, where there is one, is without `allow_compaction`
abbrev pub forbids_compaction : Option Info → Bool
forbids_compaction info = option_map_or (λ (i : Info). not (build_has i.flags AllowCompaction)) info false

-- the rows of the table of supported accesses, two and two
abbrev pub lacks_for_transfers : Stages → Access → Bool
lacks_for_transfers stages access =
    lacks_stage access TransferRead stages (Transfer ∷ Build ∷ StructureCopy ∷ [])
    || lacks_stage access TransferWrite stages (Transfer ∷ Build ∷ StructureCopy ∷ [])

abbrev pub lacks_for_shaders : Stages → Access → Bool
lacks_for_shaders stages access =
    lacks_stage access ShaderRead stages (Build ∷ Compute ∷ [])
    || lacks_stage access ShaderWrite stages (Compute ∷ [])

abbrev pub lacks_for_structures : Stages → Access → Bool
lacks_for_structures stages access =
    lacks_stage access StructureRead stages (Build ∷ StructureCopy ∷ Compute ∷ [])
    || lacks_stage access StructureWrite stages (Build ∷ StructureCopy ∷ [])

abbrev pub lacks_for_host : Stages → Access → Bool
lacks_for_host stages access =
    lacks_stage access HostRead stages (Host ∷ []) || lacks_stage access HostWrite stages (Host ∷ [])

abbrev pub lacks_for_memory : Stages → Access → Bool
lacks_for_memory stages access =
    (access_has access MemoryRead || access_has access MemoryWrite) && stages.0 == 0

-- whether an id is one of a set
abbrev pub has_id : List ℕ → ℕ → Bool
has_id ids id = list_any (λ u. u == id) ids

-- whether an id that an info reads passes a test
abbrev pub reads_by : (ℕ → Bool) → Info → Bool
reads_by test info = option_map_or test info.src false || list_any test info.uses

-- whether an info reads a structure whose id is one of a set
abbrev pub reads_any : List ℕ → Info → Bool
reads_any ids info = reads_by (has_id ids) info

-- the addresses of the scratch memory of an info
abbrev pub scratch_addresses : Info → Range
scratch_addresses info = addresses_of (place_of (scratch_range info))

-- whether an info conflicts with those that write and read these structures and take these addresses
abbrev pub is_met : List ℕ → List ℕ → List Range → Info → Bool
is_met written read scratch info =
    has_id written info.dst
    || (reads_any written info || (has_id read info.dst || meets_any scratch (scratch_addresses info)))

-- a set has what it had, and some more ids: whether one of those passes a test is given
abbrev pub HasAdded : ((ℕ → Bool) → Bool) → List ℕ → List ℕ → Type 0
HasAdded more old new = (test : ℕ → Bool) → list_any test new ≡ (more test || list_any test old)

-- the scratch memory of an info ends below the addresses of the next buffer
abbrev pub Fits : Info → Type 0
Fits info = (scratch_range info).from + (scratch_range info).size ≤ 2 ^ 66

-- what infos write, read and take
pub record HasSeen (infos : List Info) (written read : List ℕ) (scratch : List Range) : Type 0 where
  pub writes : (test : ℕ → Bool) → list_any test written ≡ list_any (λ (o : Info). test o.dst) infos
  pub reads : (test : ℕ → Bool) → list_any test read ≡ list_any (reads_by test) infos
  pub takes : HaveTheSame scratch (map scratch_addresses infos)
  pub fits : AllByRecursion Fits infos

-- tops of these ids may refer to no stale structure where a status stands
abbrev pub AreFresh : List Command → Status → List ℕ → Type 0
AreFresh rec z ids = (top : ℕ) → has_id ids top ≡ true → first_stale rec z (built_at z top) ≡ None

-- a command leaves the structures as they are
abbrev pub KeepsStructures : Command → Type 0
KeepsStructures c = (n : ℕ) (z : Status) → (after n c z).structures ≡ z.structures
