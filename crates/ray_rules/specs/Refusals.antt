-- The table of the static rules, and the refusal of a recording by them: the least rule of its first
-- command that breaks one. (Own.)
use Rattle.std.specs.Prelude.{ℕ, ◌+◌, ◌≡◌, ⊤, ◌⊎◌, List, [], ◌∷◌, Option, Some, None}
use Rattle.std.specs.Option.{option_map}
use Rattle.ray_cmd.specs.declared.command.Command.{Command}
use Rattle.ray_cmd.specs.declared.place.Place.{Place}
use Rattle.ray_cmd.specs.declared.refusal.Refusal.{Refusal}
use Rattle.ray_cmd.specs.declared.rule.Rule.TheVariants.{V}
use Rattle.ray_rules.specs.Buffers.{v2, v3, v30}
use Rattle.ray_rules.specs.Conflicts.{v16}
use Rattle.ray_rules.specs.FlagRules.{v22, v23, v24}
use Rattle.ray_rules.specs.Names.{v1}
use Rattle.ray_rules.specs.Phases.{v28, v28_at_end, v29}
use Rattle.ray_rules.specs.Shapes.{v7, v8, v9, v10}
use Rattle.ray_rules.specs.Sources.{v13, v14, v15, v17, v18, v20, v21}
use Rattle.ray_rules.specs.Spans.{v4, v5, v12, v31}
use Rattle.ray_rules.specs.Status.{Status, after, at_first}
use Rattle.ray_rules.specs.Structures.{v6, v11, v19}

-- a rule's number, and where it is broken, if it is
abbrev pub Row : Type 0
Row = ℕ × Option Place

-- the static rules in rising order, each with the place where a command breaks it
abbrev pub static_table : List Command → Status → Command → List Row
static_table rec z c =
    (1, v1 z c) ∷ (2, v2 z c) ∷ (3, v3 z c) ∷ (4, v4 z c) ∷ (5, v5 c) ∷ (6, v6 z c) ∷ (7, v7 z c) ∷ (8, v8 z c)
    ∷ (9, v9 c) ∷ (10, v10 z c) ∷ (11, v11 z c) ∷ (12, v12 z c) ∷ (13, v13 rec z c) ∷ (14, v14 rec z c)
    ∷ (15, v15 rec z c) ∷ (16, v16 c) ∷ (17, v17 z c) ∷ (18, v18 rec z c) ∷ (19, v19 z c) ∷ (20, v20 z c)
    ∷ (21, v21 rec z c) ∷ (22, v22 c) ∷ (23, v23 c) ∷ (24, v24 c)
    ∷ (28, v28 z c) ∷ (29, v29 z c) ∷ (30, v30 z c) ∷ (31, v31 c) ∷ []

-- the refusal of command number i by a static rule at a place
abbrev pub refused : ℕ → ℕ → Place → Refusal
refused i number place = record { command = i; rule = V number; place = place }

-- the refusal by this rule where it is broken, and else by the later ones
abbrev pub or_later : ℕ → ℕ → Option Place → Option Refusal → Option Refusal
or_later i number None later = later
or_later i number (Some place) later = Some (refused i number place)

-- the refusal of command number i by the least rule of a table that it breaks
abbrev pub least_broken : ℕ → List Row → Option Refusal
least_broken i [] = None
least_broken i ((number, broken) ∷ rows) = or_later i number broken (least_broken i rows)

-- the refusal of command number i by its least static rule
unfoldable pub static_refusal_of : List Command → ℕ → Status → Command → Option Refusal
static_refusal_of rec i z c = least_broken i (static_table rec z c)

-- the refusal of the end of a recording, which counts as one further command
abbrev pub refusal_at_end : ℕ → Status → Option Refusal
refusal_at_end i z = option_map (refused i 28) (v28_at_end z)

-- the refusal of a command, and where it has none of what comes after it
abbrev pub or_after : Option Refusal → Option Refusal → Option Refusal
or_after None later = later
or_after (Some refusal) later = Some refusal

-- the first refusal of the commands that are left, from number i on, where this status stands
abbrev pub static_refusal_from : List Command → ℕ → Status → List Command → Option Refusal
static_refusal_from rec i z [] = refusal_at_end i z
static_refusal_from rec i z (c ∷ cs) =
    or_after (static_refusal_of rec i z c) (static_refusal_from rec (i + 1) (after i c z) cs)

-- the refusal of a recording by the static rules
unfoldable pub static_refusal : List Command → Option Refusal
static_refusal rec = static_refusal_from rec 0 at_first rec

-- a refusal is by the first rule of a table that is broken, at its place
abbrev pub IsLeastBroken : List Row → Refusal → Type 0
IsLeastBroken [] refusal = ⊥
IsLeastBroken ((number, broken) ∷ rows) refusal =
    ((broken ≡ Some refusal.place) × (refusal.rule ≡ V number)) ⊎ ((broken ≡ None) × IsLeastBroken rows refusal)

-- no rule of a table is broken
abbrev pub AreKept : List Row → Type 0
AreKept [] = ⊤
AreKept ((number, broken) ∷ rows) = (broken ≡ None) × AreKept rows
