use Rattle.std.proofs.Common.{rules, ◌≡◌, Some, true}
use Rattle.std.specs.Prelude.{find}
use Rattle.ray_script.specs.Scripts.{is_in_range}
use Rattle.ray_script.specs.Meaning.{rule_matches}
use Rattle.ray_script.proofs.Ranges.{find-holds}
use Rattle.ray_script.proofs.deciding.decide_by.Goals as goal

pub decision_of-requires : goal.decision_of-requires
decision_of-requires c =
    let found : find (rule_matches c.args.c.now) c.args.rules.now ≡ Some c.in-Some.rule.now = search rules in
    find-holds (λ rule. is_in_range rule ≡ true) (rule_matches c.args.c.now) c.args.rules.now c.in-Some.rule.now c.requires found
