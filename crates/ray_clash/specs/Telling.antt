-- What is told of two commands at odds, in words. (Own.)
use Rattle.std.specs.Prelude.{ℕ, Contains, List, ◌++◌, codes, decimal}
use Rattle.ray_flags.specs.Words.{access_words, stage_words}
use Rattle.ray_rules.specs.declared.access_type.AccessType.{AccessType}
use Rattle.ray_rules.specs.declared.access_type.AccessType.TheVariants.{TransferRead, TransferWrite, ShaderRead, ShaderWrite, StructureRead, StructureWrite, HostRead, HostWrite}
use Rattle.ray_rules.specs.declared.stage.Stage.{Stage}
use Rattle.ray_rules.specs.declared.stage.Stage.TheVariants.{Transfer, Build, StructureCopy, Compute, Host}
use Rattle.ray_clash.specs.declared.clash.Clash.{Clash}
use Rattle.ray_clash.specs.declared.clash.Missing.{Missing}
use Rattle.ray_clash.specs.declared.clash.Missing.TheVariants.{Execution, Availability, Visibility}
use Rattle.ray_clash.specs.declared.clash.Part.{Part}
use Rattle.ray_clash.specs.declared.clash.Shared.{Shared}
use Rattle.ray_clash.specs.declared.clash.Shared.TheVariants as shareds
use Rattle.ray_clash.specs.declared.clash.Side.{Side}
use Rattle.ray_clash.specs.Barriers.{only_access, only_stage}

-- a stage, and an access, as a recording writes them
abbrev pub stage_word : Stage → List ℕ
stage_word Transfer = codes "transfer"
stage_word Build = codes "build"
stage_word StructureCopy = codes "structure_copy"
stage_word Compute = codes "compute"
stage_word Host = codes "host"

abbrev pub access_word : AccessType → List ℕ
access_word TransferRead = codes "transfer_read"
access_word TransferWrite = codes "transfer_write"
access_word ShaderRead = codes "shader_read"
access_word ShaderWrite = codes "shader_write"
access_word StructureRead = codes "structure_read"
access_word StructureWrite = codes "structure_write"
access_word HostRead = codes "host_read"
access_word HostWrite = codes "host_write"

-- the law of these words: a barrier in which they stand has the sets of one stage and of one access
pub record WordsAreRead : Type 0 where
  pub stages : (s : Stage) → Contains stage_words (stage_word s, (only_stage s).0)
  pub accesses : (x : AccessType) → Contains access_words (access_word x, (only_access x).0)

-- one of the two accesses
abbrev pub side_text : ℕ → Side → List ℕ
side_text n side =
    codes "command " ++ (decimal n ++ (codes " at stage " ++ (stage_word side.stage ++ (codes " with " ++ access_word side.access))))

-- bytes of a buffer
abbrev pub part_text : Part → List ℕ
part_text part =
    codes "bytes "
    ++ (decimal part.from
    ++ (codes " to " ++ (decimal part.end ++ (codes " of the buffer that command " ++ (decimal part.made ++ codes " made")))))

-- what both reach
abbrev pub shared_text : Shared → List ℕ
shared_text (shareds.Bytes part) = part_text part
shared_text (shareds.Structure made) = codes "the structure that command " ++ (decimal made ++ codes " made")
shared_text (shareds.Scratch part) = codes "as scratch memory, " ++ part_text part

-- what is missing
abbrev pub missing_text : Missing → List ℕ
missing_text Execution = codes "execution dependency: nothing orders the first before the second"
missing_text Availability = codes "availability: they are ordered, but no barrier or wait takes up what was written"
missing_text Visibility = codes "visibility: what was written is available, but not visible to the second"

-- the source and the destination of a barrier
abbrev pub source_text : Side → List ℕ
source_text side =
    codes "\"src_stages\":[\"" ++ (stage_word side.stage ++ (codes "\"],\"src_access\":[\"" ++ (access_word side.access ++ codes "\"]")))

abbrev pub destination_text : Side → List ℕ
destination_text side =
    codes "\"dst_stages\":[\"" ++ (stage_word side.stage ++ (codes "\"],\"dst_access\":[\"" ++ (access_word side.access ++ codes "\"]")))

-- the barrier between two accesses
abbrev pub barrier_text : Side → Side → List ℕ
barrier_text from to =
    codes "{\"op\":\"barrier\"," ++ (source_text from ++ (codes "," ++ (destination_text to ++ codes "}")))

-- the two accesses of commands number i and j
abbrev pub sides_text : ℕ → ℕ → Clash → List ℕ
sides_text i j clash =
    codes "first: " ++ (side_text i clash.earlier ++ (codes "\nsecond: " ++ (side_text j clash.later ++ codes "\n")))

-- what both reach, and what is missing
abbrev pub lack_text : Clash → List ℕ
lack_text clash =
    codes "both reach: " ++ (shared_text clash.shared ++ (codes "\nmissing: " ++ (missing_text clash.missing ++ codes "\n")))

-- where a barrier is to be put in, and which
abbrev pub mending_text : Clash → List ℕ
mending_text clash =
    codes "put in before command "
    ++ (decimal clash.put ++ (codes ": " ++ (barrier_text clash.earlier clash.later ++ codes "\n")))

-- all that is told of commands number i and j
abbrev pub clash_text : ℕ → ℕ → Clash → List ℕ
clash_text i j clash = sides_text i j clash ++ (lack_text clash ++ mending_text clash)
