-- By what a command breaks a static rule, in words. (Own.)
use Rattle.std.specs.Prelude.{ℕ, List, [], Option, ◌++◌, codes, decimal}
use Rattle.std.specs.Option.{option_map_or}
use Rattle.ray_causes.specs.declared.cause.BufferUse.{BufferUse}
use Rattle.ray_causes.specs.declared.cause.BufferUse.TheVariants as uses
use Rattle.ray_causes.specs.declared.cause.Cause.{Cause}
use Rattle.ray_causes.specs.declared.cause.Cause.TheVariants as causes
use Rattle.ray_causes.specs.declared.member.Member.{Member}
use Rattle.ray_causes.specs.declared.member.Member.TheVariants as members
use Rattle.ray_causes.specs.Pointers.{member_text}
use Rattle.ray_told.specs.Numbers.{multiple_text, outside_text}

-- the member that breaks it
abbrev pub member_of : Cause → Member
member_of (causes.NoBuffer member id) = member
member_of (causes.NoStructure member id) = member
member_of (causes.BufferThere name id) = members.Own name
member_of (causes.StructureThere name id) = members.Own name
member_of (causes.Unusable member id wanted) = member
member_of (causes.Outside member range size) = member
member_of (causes.Misaligned member multiple) = member

-- a use, as a recording writes it
abbrev pub use_word : BufferUse → List ℕ
use_word uses.Input = codes "input"
use_word uses.Storage = codes "storage"
use_word uses.TransferSrc = codes "transfer_src"
use_word uses.TransferDst = codes "transfer_dst"
use_word uses.Scratch = codes "scratch"
use_word uses.Structure = codes "structure"

-- a buffer, and the use that it lacks
abbrev pub lacking_text : ℕ → List ℕ → List ℕ
lacking_text id word = codes "buffer " ++ (decimal id ++ (codes ", whose usage lacks " ++ word))

-- what was compared
abbrev pub compared : Cause → List ℕ
compared (causes.NoBuffer member id) = codes "no buffer " ++ (decimal id ++ codes " is live")
compared (causes.NoStructure member id) = codes "no structure " ++ (decimal id ++ codes " is live")
compared (causes.BufferThere name id) = codes "buffer " ++ (decimal id ++ codes " is live already")
compared (causes.StructureThere name id) = codes "structure " ++ (decimal id ++ codes " is live already")
compared (causes.Unusable member id wanted) = lacking_text id (use_word wanted)
compared (causes.Outside member range size) = outside_text range size
compared (causes.Misaligned member multiple) = multiple_text multiple

-- the member of command number i that breaks it, and what was compared
abbrev pub cause_text : ℕ → Cause → List ℕ
cause_text i cause =
    codes "at: " ++ (member_text i (member_of cause) ++ (codes "\ncompared: " ++ (compared cause ++ codes "\n")))

-- the same where it is told
abbrev pub cause_told : ℕ → Option Cause → List ℕ
cause_told i cause = option_map_or (cause_text i) cause []
