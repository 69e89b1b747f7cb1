-- Which parts of a command conflict, in words. (Own.)
use Rattle.std.specs.Prelude.{ℕ, List, [], Option, ◌++◌, codes, decimal}
use Rattle.std.specs.Option.{option_map_or}
use Rattle.ray_causes.specs.declared.member.Member.{Member}
use Rattle.ray_causes.specs.declared.member.Member.TheVariants as members
use Rattle.ray_causes.specs.declared.member.Name.{Name}
use Rattle.ray_causes.specs.declared.member.Name.TheVariants as names
use Rattle.ray_causes.specs.Pointers.{member_text}
use Rattle.ray_conflicts.specs.declared.conflict.Conflict.{Conflict}
use Rattle.ray_conflicts.specs.declared.conflict.Conflict.TheVariants as conflicts
use Rattle.ray_conflicts.specs.declared.conflict.Way.{Way}
use Rattle.ray_conflicts.specs.declared.conflict.Way.TheVariants as ways

-- the member of an info that conflicts in a way
abbrev pub way_name : Way → Name
way_name ways.Same = names.Dst
way_name ways.Source = names.Src
way_name ways.Use = names.Uses
way_name ways.Read = names.Dst
way_name ways.Scratch = names.Scratch

-- the member that conflicts
abbrev pub conflict_member : Conflict → Member
conflict_member (conflicts.Infos two way) = members.Info two.part (way_name way)
conflict_member (conflicts.Targets two) = members.Region two.part names.DstOffset
conflict_member (conflicts.Source two) = members.Region two.part names.DstOffset
conflict_member conflicts.Hits = members.Own names.Hits

-- what the other info does
abbrev pub way_word : Way → List ℕ
way_word ways.Same = codes "has this dst, too"
way_word ways.Source = codes "writes it"
way_word ways.Use = codes "writes one of them"
way_word ways.Read = codes "reads it"
way_word ways.Scratch = codes "has scratch memory that shares bytes with it"

-- what another part does
abbrev pub other_text : List ℕ → ℕ → List ℕ → List ℕ
other_text part n word = part ++ (codes " " ++ (decimal n ++ (codes " " ++ word)))

abbrev pub conflict_words : Conflict → List ℕ
conflict_words (conflicts.Infos two way) = other_text (codes "info") two.other (way_word way)
conflict_words (conflicts.Targets two) = other_text (codes "region") two.other (codes "writes bytes of these, too")
conflict_words (conflicts.Source two) = other_text (codes "region") two.other (codes "reads bytes of these")
conflict_words conflicts.Hits = codes "the rays share bytes with them"

-- the member of command number i that conflicts, and what was compared
abbrev pub conflict_text : ℕ → Conflict → List ℕ
conflict_text i conflict =
    codes "at: " ++ (member_text i (conflict_member conflict) ++ (codes "\ncompared: " ++ (conflict_words conflict ++ codes "\n")))

-- the same where it is told
abbrev pub conflict_told : ℕ → Option Conflict → List ℕ
conflict_told i conflict = option_map_or (conflict_text i) conflict []
