-- The shape of a table. (Own: the spelling, the limits of 15 and that there are at most 4,096 scripts.)
use Rattle.std.specs.Prelude.{ℕ, List, [], ◌∷◌, Option, Some, None, codes, length, nat_le, if◌then◌else◌}
use Rattle.serde_json.specs.Data.{Data}
use Rattle.ray_json.specs.Fields.{◌>>=◌, at, list_of, only, u32_of}
use Rattle.ray_script.specs.declared.raw_rule.RawRule.{RawRule}
use Rattle.ray_script.specs.Rules.{rules_of}
use Rattle.ray_script.specs.Scripts.{refused_at}
use Rattle.ray_pipe.specs.HitGroup.{Table}

-- a number from 0 to 15
abbrev pub four_bits_of : Data → Option ℕ
four_bits_of d = u32_of d >>= λ n. if nat_le n 15 then Some n else None

-- rules, where none of them is refused
abbrev pub unrefused : List RawRule → Option ℕ → Option (List RawRule)
unrefused rules None = Some rules
unrefused rules (Some k) = None

-- a script: a list of rules, none of them refused
abbrev pub script_of : Data → Option (List RawRule)
script_of d = rules_of d >>= λ rules. unrefused rules (refused_at rules)

-- a list of at most 4,096 scripts
abbrev pub scripts_of : Data → Option (List (List RawRule))
scripts_of d = list_of script_of d >>= λ scripts. if nat_le (length scripts) 4096 then Some scripts else None

-- a table
unfoldable pub table_of : Data → Option Table
table_of d =
    only (codes "offset" ∷ codes "stride" ∷ codes "scripts" ∷ []) d >>= λ u.
    at four_bits_of (codes "offset") d >>= λ offset.
    at four_bits_of (codes "stride") d >>= λ stride.
    at scripts_of (codes "scripts") d >>= λ scripts.
    Some (record { offset = offset; stride = stride; scripts = scripts })
