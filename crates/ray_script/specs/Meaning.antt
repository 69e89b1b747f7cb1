-- What a script means as a client: the first rule that matches decides. (Own.)
--
-- By hand, for the rules "nth 0: ignore", "nth 1: ignore" and "confirm": on the candidate with `nth`
-- 1 the first rule gives 0 and doesn't match, the second gives 1 and does, so it is ignored; on the
-- candidate with `nth` 2 neither matches, and the third, which gives no number, matches all: it is
-- confirmed. Without a rule every candidate is ignored.
use Rattle.std.specs.Prelude.{ℕ, ◌==◌, ◌&&◌, Bool, true, List, Option, Some, None, find}
use Rattle.ray_query.specs.declared.candidate.Candidate.{Candidate}
use Rattle.ray_query.specs.declared.decision.Decision.{Decision}
use Rattle.ray_query.specs.declared.decision.Decision.TheVariants as decisions
use Rattle.ray_script.specs.declared.raw_choice.RawChoice.{RawChoice}
use Rattle.ray_script.specs.declared.raw_choice.RawChoice.TheVariants as choices
use Rattle.ray_script.specs.declared.raw_rule.RawRule.{RawRule}
use Rattle.ray_script.specs.Distances.{distance_at}

-- a number that a rule gives is this one; one that it doesn't give may be any
abbrev pub agrees : Option ℕ → ℕ → Bool
agrees None number = true
agrees (Some given) number = given == number

-- a rule matches a candidate: all numbers that it gives are the candidate's
abbrev pub rule_matches : Candidate → RawRule → Bool
rule_matches c rule =
    agrees rule.ray c.ray
    && (agrees rule.instance c.found.instance
    && (agrees rule.geometry c.found.geometry
    && (agrees rule.primitive c.found.primitive && agrees rule.nth c.nth)))

-- what a rule decides
abbrev pub decision_of : RawChoice → Decision
decision_of choices.Ignore = decisions.Ignore
decision_of choices.Confirm = decisions.Confirm
decision_of choices.Entry = decisions.GenerateEntry
decision_of choices.Exit = decisions.GenerateExit
decision_of (choices.At num den) = decisions.GenerateAt (distance_at num den)
decision_of choices.Terminate = decisions.Terminate
decision_of choices.ConfirmTerminate = decisions.ConfirmTerminate

-- what is decided by a rule; Ignore where there is none
abbrev pub decided_by : Option RawRule → Decision
decided_by None = decisions.Ignore
decided_by (Some rule) = decision_of rule.choice

-- the decision of a script on a candidate: that of the first rule that matches
abbrev pub script_decision : List RawRule → Candidate → Decision
script_decision rules c = decided_by (find (rule_matches c) rules)
