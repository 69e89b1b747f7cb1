-- All refusals of a recording by rules on hazards, those of earlier commands first. (Own.)
--
-- By hand, where commands 3 and 5 break such a rule and no other does: below 4 there is that of 3, and below 6 there are those
-- of 3 and of 5; what is first is what `first_hazard` is.
use Rattle.std.specs.Prelude.{ℕ, zero, suc, List, [], ◌++◌}
use Rattle.std.specs.List.{cons_option}
use Rattle.ray_cmd.specs.declared.command.Command.{Command}
use Rattle.ray_cmd.specs.declared.refusal.Refusal.{Refusal}
use Rattle.ray_rules.specs.Order.{Ordering}
use Rattle.ray_rules.specs.Verdict.{hazard_of}

-- of each command below number n that breaks a rule on hazards, the refusal by the least
abbrev pub hazards_below : Ordering → List Command → ℕ → List Refusal
hazards_below order rec zero = []
hazards_below order rec (suc n) = hazards_below order rec n ++ cons_option (hazard_of order rec n) []
