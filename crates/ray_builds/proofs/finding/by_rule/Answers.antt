use Rattle.std.proofs.Common.{arith}
use Rattle.ray_builds.proofs.Breaking.{has_command}
use Rattle.ray_causes.proofs.Going.{goes_on}
use Rattle.ray_builds.proofs.finding.by_rule.Goals as goal

pub status_before-requires-clause-go_on : goal.status_before-requires-clause-go_on
status_before-requires-clause-go_on c = goes_on _ _ c.requires.refused

pub returns-then-len-refusal-clause-told : goal.returns-then-len-refusal-clause-told
returns-then-len-refusal-clause-told c =
    let there = has_command _ _ c.requires.refused c.requires.rule in absurd (omega (arith, there, c))
