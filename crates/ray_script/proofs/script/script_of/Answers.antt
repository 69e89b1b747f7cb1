use Rattle.std.proofs.Common.{rules, ◌≡◌, sym, subst}
use Rattle.ray_script.specs.Scripts.{IsScript}
use Rattle.ray_script.proofs.Ranges.{IsScript-from_refused}
use Rattle.ray_script.proofs.script.script_of.Goals as goal

pub invariant_of-result : goal.invariant_of-result
invariant_of-result c =
    let same : c.in_ok-to_vec-in-None.field-0.items ≡ c.args.rules.now = search rules in
    subst IsScript (sym same) (IsScript-from_refused c.args.rules.now (search rules))
