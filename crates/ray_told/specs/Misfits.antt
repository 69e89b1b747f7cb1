-- What of a command doesn't fit, by kind or by flag, in words. (Own.)
use Rattle.std.specs.Prelude.{ℕ, List, [], Option, ◌++◌, codes, decimal}
use Rattle.std.specs.Option.{option_map_or}
use Rattle.ray_cmd.specs.declared.structure_kind.StructureKind.{StructureKind}
use Rattle.ray_cmd.specs.declared.structure_kind.StructureKind.TheVariants as kinds
use Rattle.ray_causes.specs.declared.member.Member.{Member}
use Rattle.ray_causes.specs.declared.member.Member.TheVariants as members
use Rattle.ray_causes.specs.declared.member.Name.TheVariants as names
use Rattle.ray_causes.specs.Pointers.{member_text}
use Rattle.ray_kinds.specs.declared.misfit.Misfit.{Misfit}
use Rattle.ray_kinds.specs.declared.misfit.Misfit.TheVariants as misfits
use Rattle.ray_kinds.specs.declared.misfit.Pair.{Pair}
use Rattle.ray_kinds.specs.declared.misfit.Uses.{Uses}
use Rattle.ray_told.specs.Words.{access_word, ray_word}

-- ---- the member that breaks it

abbrev pub misfit_member : Misfit → Member
misfit_member (misfits.WrongKind member _ _) = member
misfit_member (misfits.UsesOfBottom member _) = member
misfit_member (misfits.TwoKinds member _) = member
misfit_member (misfits.Same _) = members.Own names.Dst
misfit_member (misfits.BothFast info) = members.Info info names.Flags
misfit_member (misfits.Exclusive _) = members.Own names.Flags
misfit_member (misfits.Unsupported member _) = member
misfit_member misfits.NoUsage = members.Own names.Usage
misfit_member misfits.Mixed = members.Own names.Usage
misfit_member misfits.Filled = members.Own names.Data
misfit_member (misfits.ReadOfPrivate _) = members.Own names.Buffer

-- ---- what was compared

-- the kind that isn't wanted, and the one that is
abbrev pub kind_words : StructureKind → List ℕ
kind_words kinds.Bottom = codes " is a top, and a bottom is wanted"
kind_words kinds.Top = codes " is a bottom, and a top is wanted"

-- a structure, and its kind
abbrev pub kind_text : ℕ → List ℕ → List ℕ
kind_text id words = codes "structure " ++ (decimal id ++ words)

-- entries, and the bottom for which they are
abbrev pub uses_text : Uses → List ℕ
uses_text uses = decimal uses.count ++ (codes " entries, and structure " ++ (decimal uses.dst ++ codes " is a bottom"))

-- a source and a destination of two kinds
abbrev pub two_kinds_text : Pair → List ℕ
two_kinds_text two =
    codes "of structures " ++ (decimal two.src ++ (codes " and " ++ (decimal two.dst ++ codes " one is a bottom and one a top")))

-- one structure
abbrev pub same_text : Pair → List ℕ
same_text two = codes "structure " ++ (decimal two.src ++ codes " is the source, too")

-- two flags that exclude one another
abbrev pub exclusive_text : List ℕ → List ℕ → List ℕ
exclusive_text one other = one ++ (codes " and " ++ other)

-- an access that no stage supports
abbrev pub unsupported_text : List ℕ → List ℕ
unsupported_text word = word ++ codes ", which no stage of this side supports"

-- a buffer that is read
abbrev pub private_text : ℕ → List ℕ
private_text id = codes "buffer " ++ (decimal id ++ codes " is for scratch memory or for structures, and isn't read")

abbrev pub misfit_words : Misfit → List ℕ
misfit_words (misfits.WrongKind member id wanted) = kind_text id (kind_words wanted)
misfit_words (misfits.UsesOfBottom member uses) = uses_text uses
misfit_words (misfits.TwoKinds member two) = two_kinds_text two
misfit_words (misfits.Same two) = same_text two
misfit_words (misfits.BothFast info) = codes "prefer_fast_trace and prefer_fast_build"
misfit_words (misfits.Exclusive two) = exclusive_text (ray_word two.one) (ray_word two.other)
misfit_words (misfits.Unsupported member word) = unsupported_text (access_word word)
misfit_words misfits.NoUsage = codes "no usage"
misfit_words misfits.Mixed = codes "scratch or structure, and another usage"
misfit_words misfits.Filled = codes "content of a buffer for scratch memory or for structures"
misfit_words (misfits.ReadOfPrivate id) = private_text id

-- ---- both

-- the member of command number i that breaks it, and what was compared
abbrev pub misfit_text : ℕ → Misfit → List ℕ
misfit_text i misfit =
    codes "at: " ++ (member_text i (misfit_member misfit) ++ (codes "\ncompared: " ++ (misfit_words misfit ++ codes "\n")))

-- the same where it is told
abbrev pub misfit_told : ℕ → Option Misfit → List ℕ
misfit_told i misfit = option_map_or (misfit_text i) misfit []
