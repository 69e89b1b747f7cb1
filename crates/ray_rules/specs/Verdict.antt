-- The refusal of a recording by all rules on the recording alone: the static rules and those on hazards
-- between commands. (Own.)
use Rattle.std.specs.Prelude.{ℕ, zero, suc, ◌+◌, ◌≡◌, ◌<◌, List, [], ◌∷◌, Option, Some, None, slice_get}
use Rattle.ray_cmd.specs.declared.command.Command.{Command}
use Rattle.ray_cmd.specs.declared.refusal.Refusal.{Refusal}
use Rattle.ray_rules.specs.Buffers.{v2, v3, v30}
use Rattle.ray_rules.specs.Conflicts.{v16}
use Rattle.ray_rules.specs.FlagRules.{v22, v23, v24}
use Rattle.ray_rules.specs.Hazards.{v25, v26, v27, v32}
use Rattle.ray_rules.specs.Names.{v1}
use Rattle.ray_rules.specs.Order.{Ordering}
use Rattle.ray_rules.specs.Phases.{v28, v29}
use Rattle.ray_rules.specs.Refusals.{Row, least_broken, or_after, refusal_at_end}
use Rattle.ray_rules.specs.Shapes.{v7, v8, v9, v10}
use Rattle.ray_rules.specs.Sources.{v13, v14, v15, v17, v18, v20, v21}
use Rattle.ray_rules.specs.Spans.{v4, v5, v12, v31}
use Rattle.ray_rules.specs.Status.{Status, after, at_first, status_at}
use Rattle.ray_rules.specs.Structures.{v6, v11, v19}

-- the rules on hazards in rising order, each with the place where command number i breaks it
abbrev pub hazard_table : Ordering → List Command → ℕ → List Row
hazard_table order rec i = (25, v25 order rec i) ∷ (26, v26 order rec i) ∷ (27, v27 order rec i) ∷ (32, v32 order rec i) ∷ []

-- the refusal of command number i by its least rule on hazards
unfoldable pub hazard_of : Ordering → List Command → ℕ → Option Refusal
hazard_of order rec i = least_broken i (hazard_table order rec i)

-- the refusal of the first command below number n that breaks a rule on hazards
abbrev pub first_hazard : Ordering → List Command → ℕ → Option Refusal
first_hazard order rec zero = None
first_hazard order rec (suc n) = or_after (first_hazard order rec n) (hazard_of order rec n)

-- all rules in rising order, each with the place where command number i breaks it. Those on hazards
-- are looked at only where the first 24 are kept, since the least rule counts
abbrev pub rule_table : Ordering → List Command → ℕ → Status → Command → List Row
rule_table order rec i z c =
    (1, v1 z c) ∷ (2, v2 z c) ∷ (3, v3 z c) ∷ (4, v4 z c) ∷ (5, v5 c) ∷ (6, v6 z c) ∷ (7, v7 z c) ∷ (8, v8 z c)
    ∷ (9, v9 c) ∷ (10, v10 z c) ∷ (11, v11 z c) ∷ (12, v12 z c) ∷ (13, v13 rec z c) ∷ (14, v14 rec z c)
    ∷ (15, v15 rec z c) ∷ (16, v16 c) ∷ (17, v17 z c) ∷ (18, v18 rec z c) ∷ (19, v19 z c) ∷ (20, v20 z c)
    ∷ (21, v21 rec z c) ∷ (22, v22 c) ∷ (23, v23 c) ∷ (24, v24 c) ∷ (25, v25 order rec i) ∷ (26, v26 order rec i)
    ∷ (27, v27 order rec i) ∷ (28, v28 z c) ∷ (29, v29 z c) ∷ (30, v30 z c) ∷ (31, v31 c) ∷ (32, v32 order rec i) ∷ []

-- the refusal of command number i by its least rule
unfoldable pub rule_refusal_of : Ordering → List Command → ℕ → Status → Command → Option Refusal
rule_refusal_of order rec i z c = least_broken i (rule_table order rec i z c)

-- the first refusal of the commands that are left, from number i on, where this status stands
abbrev pub rule_refusal_from : Ordering → List Command → ℕ → Status → List Command → Option Refusal
rule_refusal_from order rec i z [] = refusal_at_end i z
rule_refusal_from order rec i z (c ∷ cs) =
    or_after (rule_refusal_of order rec i z c) (rule_refusal_from order rec (i + 1) (after i c z) cs)

-- the refusal of a recording by all rules
unfoldable pub rule_refusal : Ordering → List Command → Option Refusal
rule_refusal order rec = rule_refusal_from order rec 0 at_first rec

-- each command below number n names what is live, has the sizes that it needs and makes no structure
-- over another, so that the status goes on from one to the next
pub record GoOn (rec : List Command) (n : ℕ) : Type 0 where
  pub named : (i : ℕ) (c : Command) → i < n → slice_get rec i ≡ Some c → v1 (status_at rec i) c ≡ None
  pub sized : (i : ℕ) (c : Command) → i < n → slice_get rec i ≡ Some c → v2 (status_at rec i) c ≡ None
  pub placed : (i : ℕ) (c : Command) → i < n → slice_get rec i ≡ Some c → v6 (status_at rec i) c ≡ None
