-- On which ground a command is refused, in words. (Own.)
use Rattle.std.specs.Prelude.{ℕ, List, [], Option, ◌++◌, codes, decimal}
use Rattle.std.specs.Option.{option_map_or}
use Rattle.ray_rules.specs.declared.phase.Phase.{Phase}
use Rattle.ray_rules.specs.declared.phase.Phase.TheVariants as phases
use Rattle.ray_causes.specs.declared.member.Member.{Member}
use Rattle.ray_causes.specs.declared.member.Member.TheVariants as members
use Rattle.ray_causes.specs.declared.member.Name.TheVariants as names
use Rattle.ray_causes.specs.Pointers.{member_text}
use Rattle.ray_grounds.specs.declared.fact.Fact.{Fact}
use Rattle.ray_grounds.specs.declared.fact.Fact.TheVariants as facts
use Rattle.ray_grounds.specs.declared.grounds.Ground.{Ground}
use Rattle.ray_grounds.specs.declared.grounds.Ground.TheVariants as grounds
use Rattle.ray_grounds.specs.declared.origin.Entry.{Entry}
use Rattle.ray_grounds.specs.declared.origin.Lack.{Lack}
use Rattle.ray_grounds.specs.declared.origin.Lack.TheVariants as lacks
use Rattle.ray_grounds.specs.declared.origin.Origin.{Origin}
use Rattle.ray_grounds.specs.declared.origin.Origin.TheVariants as origins
use Rattle.ray_grounds.specs.declared.origin.Stale.{Stale}
use Rattle.ray_grounds.specs.declared.origin.Stale.TheVariants as stales

-- ---- the member that breaks it

abbrev pub fact_member : Fact → Member
fact_member (facts.Unbuilt member _ _) = member
fact_member (facts.WrongPhase _ _) = members.Own names.Op
fact_member (facts.Held _ _ _) = members.Own names.Id

abbrev pub origin_member : Origin → Member
origin_member (origins.Lacking member _ _ _) = member
origin_member (origins.Stale _ _ _) = members.Own names.Top

abbrev pub ground_member : Ground → Member
ground_member (grounds.Standing fact) = fact_member fact
ground_member (grounds.Built origin) = origin_member origin
ground_member (grounds.InFlight _) = members.Own names.Op

-- ---- what was compared

-- a state of the command buffer
abbrev pub phase_word : Phase → List ℕ
phase_word phases.Idle = codes "idle"
phase_word phases.Recording = codes "begun"
phase_word phases.Ended = codes "ended"

-- the state in which the command buffer is, and the one that is wanted
abbrev pub phases_text : List ℕ → List ℕ → List ℕ
phases_text found wanted =
    codes "the command buffer is " ++ (found ++ (codes ", and this command needs it " ++ wanted))

-- a structure, and the command that made it
abbrev pub unbuilt_text : ℕ → ℕ → List ℕ
unbuilt_text id made =
    codes "structure " ++ (decimal id ++ (codes ", made by command " ++ (decimal made ++ codes ", isn't built")))

-- a buffer, and a structure that it holds
abbrev pub held_text : ℕ → ℕ → ℕ → List ℕ
held_text buffer id made =
    codes "buffer "
    ++ (decimal buffer
    ++ (codes " holds structure " ++ (decimal id ++ (codes ", which command " ++ (decimal made ++ codes " made")))))

abbrev pub fact_text : Fact → List ℕ
fact_text (facts.Unbuilt member id made) = unbuilt_text id made
fact_text (facts.WrongPhase wanted found) = phases_text (phase_word found) (phase_word wanted)
fact_text (facts.Held buffer id made) = held_text buffer id made

-- what a structure lacks
abbrev pub lack_words : Lack → List ℕ
lack_words lacks.Update = codes "built without allow_update"
lack_words lacks.Compaction = codes "built without allow_compaction"
lack_words lacks.Build = codes "deserialized"

-- a structure, and how a command gave it its contents
abbrev pub contents_text : ℕ → ℕ → List ℕ → List ℕ
contents_text id stamp words =
    codes "structure " ++ (decimal id ++ (codes ", whose contents command " ++ (decimal stamp ++ (codes " " ++ words))))

-- why a structure is stale
abbrev pub stale_text : Stale → List ℕ
stale_text stales.Gone = codes "isn't live"
stale_text stales.Top = codes "is a top"
stale_text stales.Unbuilt = codes "isn't built"
stale_text (stales.Rewritten written) = codes "command " ++ (decimal written ++ codes " wrote last")

-- an entry of `uses` by which a top was built
abbrev pub entry_text : ℕ → Entry → List ℕ
entry_text n entry =
    codes "entry "
    ++ (decimal n
    ++ (codes " of uses of command "
    ++ (decimal entry.stamp ++ (codes ", by which top " ++ (decimal entry.top ++ codes " was built")))))

-- the same, its structure, and why that is stale
abbrev pub stale_entry_text : List ℕ → ℕ → List ℕ → List ℕ
stale_entry_text entry id why = entry ++ (codes ", names structure " ++ (decimal id ++ (codes ", which " ++ why)))

abbrev pub origin_text : Origin → List ℕ
origin_text (origins.Lacking member id stamp lack) = contents_text id stamp (lack_words lack)
origin_text (origins.Stale n entry stale) = stale_entry_text (entry_text n entry) entry.id (stale_text stale)

-- the command that submits
abbrev pub flight_text : ℕ → List ℕ
flight_text submit = codes "command " ++ (decimal submit ++ codes " submits, and no wait is behind it")

abbrev pub ground_words : Ground → List ℕ
ground_words (grounds.Standing fact) = fact_text fact
ground_words (grounds.Built origin) = origin_text origin
ground_words (grounds.InFlight submit) = flight_text submit

-- ---- both

-- the member of command number i that breaks it, and what was compared
abbrev pub ground_text : ℕ → Ground → List ℕ
ground_text i basis =
    codes "at: " ++ (member_text i (ground_member basis) ++ (codes "\ncompared: " ++ (ground_words basis ++ codes "\n")))

-- the same where it is told
abbrev pub ground_told : ℕ → Option Ground → List ℕ
ground_told i basis = option_map_or (ground_text i) basis []
