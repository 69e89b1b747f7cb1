-- What a structure was built by, looked up in the recording by the numbers that the status keeps.
-- (Own.)
use Rattle.std.specs.Prelude.{ℕ, List, [], Option, None, Bool, true, false, slice_get}
use Rattle.std.specs.Option.{option_and_then, option_map_or}
use Rattle.ray_cmd.specs.declared.command.Command.{Command}
use Rattle.ray_cmd.specs.declared.command.Command.TheVariants as commands
use Rattle.ray_cmd.specs.declared.info.Info.{Info}
use Rattle.ray_rules.specs.declared.built.Built.{Built}

-- info number k of a command, where it is a build that has one
abbrev pub info_in : ℕ → Command → Option Info
info_in k (commands.Build infos) = slice_get infos k
info_in k _ = None

-- the info by which a structure was last built or updated: none where its contents came by
-- `deserialize`
abbrev pub info_of : List Command → Built → Option Info
info_of rec built = option_and_then (info_in built.info) (slice_get rec built.stamp)

-- the ids that a command names as those that info number k may refer to
abbrev pub uses_in : ℕ → Command → List ℕ
uses_in k (commands.Build infos) = option_map_or (λ (info : Info). info.uses) (slice_get infos k) []
uses_in k (commands.Deserialize src dst uses) = uses
uses_in k _ = []

-- the ids of the structures that the instances of a built structure may refer to
abbrev pub uses_of : List Command → Built → List ℕ
uses_of rec built = option_map_or (uses_in built.info) (slice_get rec built.stamp) []

-- whether a command is a `deserialize`
abbrev pub is_deserialize : Command → Bool
is_deserialize (commands.Deserialize src dst uses) = true
is_deserialize _ = false

-- whether the contents of a built structure came by `deserialize`
abbrev pub is_deserialized : List Command → Built → Bool
is_deserialized rec built = option_map_or is_deserialize (slice_get rec built.stamp) false
