-- In what an update differs from its source, in words. (Own.)
use Rattle.std.specs.Prelude.{ℕ, List, [], Option, ◌++◌, codes, decimal}
use Rattle.std.specs.Option.{option_map_or}
use Rattle.ray_causes.specs.declared.member.Member.TheVariants as members
use Rattle.ray_causes.specs.declared.member.Name.TheVariants as names
use Rattle.ray_crowds.specs.declared.spot.Spot.{Spot}
use Rattle.ray_crowds.specs.declared.spot.Spot.TheVariants as spots
use Rattle.ray_crowds.specs.Pointers.{spot_text}
use Rattle.ray_updates.specs.declared.change.Change.{Change}
use Rattle.ray_updates.specs.declared.change.Change.TheVariants as changes
use Rattle.ray_updates.specs.declared.change.Matter.{Matter}
use Rattle.ray_updates.specs.declared.change.Matter.TheVariants as matters
use Rattle.ray_updates.specs.declared.change.Update.{Update}

-- where info number k differs
abbrev pub change_spot : ℕ → Change → Spot
change_spot k changes.Flags = spots.Member (members.Info k names.Flags)
change_spot k changes.Count = spots.Geometries k
change_spot k (changes.Geometry g matter) = spots.Geometry k g

-- what of a geometry differs
abbrev pub matter_word : Matter → List ℕ
matter_word matters.Kind = codes "another kind"
matter_word matters.Opaque = codes "another opaque"
matter_word matters.Format = codes "another format"
matter_word matters.Index = codes "indices of another type"
matter_word matters.MaxVertex = codes "another max_vertex"
matter_word matters.Count = codes "another count"
matter_word matters.Transform = codes "a transform where this has none, or none"

-- what differs
abbrev pub change_word : Change → List ℕ
change_word changes.Flags = codes "other flags"
change_word changes.Count = codes "another number of geometries"
change_word (changes.Geometry g matter) = matter_word matter

-- what a command has, by which the source was built
abbrev pub change_text : ℕ → List ℕ → List ℕ
change_text stamp word = codes "the source, built by command " ++ (decimal stamp ++ (codes ", has " ++ word))

-- the spot of command number i, and what was compared
abbrev pub spot_and_text : ℕ → Spot → List ℕ → List ℕ
spot_and_text i spot words = codes "at: " ++ (spot_text i spot ++ (codes "\ncompared: " ++ (words ++ codes "\n")))

-- where an update differs
unfoldable pub update_spot : Update → Spot
update_spot update = change_spot update.info update.change

-- in what
unfoldable pub update_words : Update → List ℕ
update_words update = change_text update.stamp (change_word update.change)

-- both
abbrev pub update_text : ℕ → Update → List ℕ
update_text i update = spot_and_text i (update_spot update) (update_words update)

-- the same where it is told
abbrev pub update_told : ℕ → Option Update → List ℕ
update_told i update = option_map_or (update_text i) update []
