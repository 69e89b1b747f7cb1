-- Of what a command has more than it may, in words. (Own.)
use Rattle.std.specs.Prelude.{ℕ, List, [], Option, ◌++◌, codes, decimal}
use Rattle.std.specs.Option.{option_map_or}
use Rattle.ray_causes.specs.declared.member.Member.TheVariants as members
use Rattle.ray_causes.specs.declared.member.Name.TheVariants as names
use Rattle.ray_crowds.specs.declared.crowd.Count.{Count}
use Rattle.ray_crowds.specs.declared.crowd.Crowd.{Crowd}
use Rattle.ray_crowds.specs.declared.crowd.Crowd.TheVariants as crowds
use Rattle.ray_crowds.specs.declared.crowd.Distance.{Distance}
use Rattle.ray_crowds.specs.declared.crowd.OfScript.{OfScript}
use Rattle.ray_crowds.specs.declared.crowd.OfScript.TheVariants as wrongs
use Rattle.ray_crowds.specs.declared.spot.Spot.{Spot}
use Rattle.ray_crowds.specs.declared.spot.Spot.TheVariants as spots
use Rattle.ray_crowds.specs.Pointers.{spot_text}

-- where a script is wrong
abbrev pub script_spot : OfScript → Spot
script_spot (wrongs.Rules _) = spots.Script
script_spot (wrongs.Distance rule _) = spots.Rule rule

-- where they are counted
abbrev pub crowd_spot : Crowd → Spot
crowd_spot (crowds.Entries spot _) = spot
crowd_spot (crowds.Primitives spot _) = spot
crowd_spot (crowds.Structures _) = spots.Member (members.Own names.Id)
crowd_spot (crowds.Rays _) = spots.Count
crowd_spot (crowds.OfScript wrong) = script_spot wrong

-- so many of something
abbrev pub count_text : Count → List ℕ → List ℕ
count_text n word =
    decimal n.number ++ (codes " " ++ (word ++ (codes ", and at most " ++ (decimal n.most ++ codes " may be"))))

-- a distance
abbrev pub distance_text : Distance → List ℕ
distance_text d =
    codes "num "
    ++ (decimal d.num
    ++ (codes " and den " ++ (decimal d.den ++ codes ", which may be at most 1099511627776 and from 1 to 65536")))

-- what of a script isn't allowed
abbrev pub script_text : OfScript → List ℕ
script_text (wrongs.Rules n) = count_text n (codes "rules")
script_text (wrongs.Distance rule d) = distance_text d

abbrev pub crowd_words : Crowd → List ℕ
crowd_words (crowds.Entries spot n) = count_text n (codes "entries")
crowd_words (crowds.Primitives spot n) = count_text n (codes "primitives")
crowd_words (crowds.Structures n) = count_text n (codes "live structures")
crowd_words (crowds.Rays n) = count_text n (codes "rays")
crowd_words (crowds.OfScript wrong) = script_text wrong

-- the spot of command number i, and what was compared
abbrev pub crowd_text : ℕ → Crowd → List ℕ
crowd_text i crowd =
    codes "at: " ++ (spot_text i (crowd_spot crowd) ++ (codes "\ncompared: " ++ (crowd_words crowd ++ codes "\n")))

-- the same where it is told
abbrev pub crowd_told : ℕ → Option Crowd → List ℕ
crowd_told i crowd = option_map_or (crowd_text i) crowd []
