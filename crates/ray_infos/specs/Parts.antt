-- Words that private contracts cite: no page of definitions.
use Rattle.std.specs.Prelude.{Option, Bool, false, not}
use Rattle.std.specs.Option.{option_map_or}
use Rattle.ray_cmd.specs.declared.info.Info.{Info}
use Rattle.ray_flags.specs.Flags.{build_has, AllowUpdate}
use Rattle.ray_rules.specs.Sources.{differs_from}

-- whether an info, where there is one, is without `allow_update`
abbrev pub forbids_update : Option Info → Bool
forbids_update info = option_map_or (λ (i : Info). not (build_has i.flags AllowUpdate)) info false

-- whether an info differs from its source, where there is one
abbrev pub differs_if : Info → Option Info → Bool
differs_if info source = option_map_or (differs_from info) source false
