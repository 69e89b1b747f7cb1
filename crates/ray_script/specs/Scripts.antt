-- Which rules are a script. (Own.)
use Rattle.std.specs.Prelude.{ℕ, ◌^◌, ◌&&◌, ◌≡◌, ◌≤◌, All, List, Bool, true, not, nat_lt, nat_le, length, position, take, if◌then◌else◌, Option, Some, None, Result, Ok, Err}
use Rattle.ray_script.specs.declared.raw_choice.RawChoice.{RawChoice}
use Rattle.ray_script.specs.declared.raw_choice.RawChoice.TheVariants.{At}
use Rattle.ray_script.specs.declared.raw_rule.RawRule.{RawRule}
use Rattle.ray_script.specs.declared.bad_script.BadScript.{BadScript}
use Rattle.ray_script.specs.declared.bad_script.BadScript.TheVariants as faults

-- a rule's distance is in range: its numerator is at most 2^40, its denominator from 1 to 65,536
abbrev pub is_choice_in_range : RawChoice → Bool
is_choice_in_range (At num den) = nat_le num (2 ^ 40) && nat_lt 0 den && nat_le den 65536
is_choice_in_range _ = true

-- a rule is in range where what it decides is
abbrev pub is_in_range : RawRule → Bool
is_in_range rule = is_choice_in_range rule.choice

-- the first rule that is out of range, among the first 4,096
abbrev pub first_bad : List RawRule → Option ℕ
first_bad rules = position (λ rule. not (is_in_range rule)) (take 4096 rules)

-- the least number that is refused, where the first rule that is out of range is given
abbrev pub or_too_many : ℕ → Option ℕ → Option ℕ
or_too_many count (Some k) = Some k
or_too_many count None = if nat_lt 4096 count then Some 4096 else None

-- the first rule that is out of range, among the first 4,096; else 4,096 where there are more
abbrev pub refused_at : List RawRule → Option ℕ
refused_at rules = or_too_many (length rules) (first_bad rules)

-- the rules of a script: all are in range, and there are at most 4,096
pub record IsScript (rules : List RawRule) : Type 0 where
  pub in_range : All (λ rule. is_in_range rule ≡ true) rules
  pub few : length rules ≤ 4096

-- the answer is the script of the rules, or names the first that is refused
abbrev pub IsScriptOf : List RawRule → Result (List RawRule) BadScript → Type 0
IsScriptOf rules (Ok script) = (script ≡ rules) × (refused_at rules ≡ None)
IsScriptOf rules (Err (faults.At k)) = refused_at rules ≡ Some k
IsScriptOf rules (Err faults.NoMemory) = Unit {0}
