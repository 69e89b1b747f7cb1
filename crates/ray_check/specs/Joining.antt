-- How the refusal by the static rules and that by the rules on hazards are one. (Own.)
use Rattle.std.specs.Prelude.{ℕ, ◌+◌, Bool, false, ◌&&◌, ◌||◌, not, nat_lt, nat_eq, if◌then◌else◌, Option, Some, None}
use Rattle.ray_cmd.specs.declared.refusal.Refusal.{Refusal}
use Rattle.ray_cmd.specs.declared.rule.Rule.{Rule}
use Rattle.ray_cmd.specs.declared.rule.Rule.TheVariants.{V}

-- whether a rule on recordings has a lesser number than another
abbrev pub is_lesser : Rule → Rule → Bool
is_lesser (V a) (V b) = nat_lt a b
is_lesser _ _ = false

-- whether a rule is one of the first 24, without which what a command reads and writes isn't asked
abbrev pub is_early : Rule → Bool
is_early (V a) = nat_lt a 25
is_early _ = false

-- whether a refusal comes before another: its command does, or it is one command and its rule is lesser
abbrev pub is_before : Refusal → Refusal → Bool
is_before r q = nat_lt r.command q.command || (nat_eq r.command q.command && is_lesser r.rule q.rule)

-- the first of two refusals, of which each may be missing
abbrev pub first_of_two : Option Refusal → Option Refusal → Option Refusal
first_of_two None other = other
first_of_two (Some r) None = Some r
first_of_two (Some r) (Some q) = if is_before q r then Some q else Some r

-- below which number the commands of a recording of n are looked at for hazards, given its refusal by
-- the static rules: they are those before the refused one, and it as well where it keeps the first 24
abbrev pub looked_at : ℕ → Option Refusal → ℕ
looked_at n None = n
looked_at n (Some r) = if nat_lt r.command n && not (is_early r.rule) then r.command + 1 else r.command
