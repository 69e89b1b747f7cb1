-- That what is covered is ordered. (Vulkan: a memory dependency is an execution dependency too.)
use Rattle.std.specs.Prelude.{◌≡◌, ℕ, true, List, Option}
use Rattle.ray_cmd.specs.declared.command.Command.{Command}
use Rattle.ray_rules.specs.declared.access_type.AccessType.{AccessType}
use Rattle.ray_rules.specs.declared.stage.Stage.{Stage}
use Rattle.ray_rules.specs.Order.{is_covered, is_ordered_to}

-- the law, for every recording, two commands of it, an access with which the first writes a thing at its
-- stage, and an access at a stage of the second
abbrev pub CoveredIsOrdered : Type 0
CoveredIsOrdered =
    (rec : List Command) (i : ℕ) (stage : Stage) (access : AccessType) (thing : Option ℕ) (j : ℕ) (to : Stage)
    (x : AccessType)
    → is_covered rec i stage access thing j to x ≡ true → is_ordered_to rec i stage j to ≡ true
