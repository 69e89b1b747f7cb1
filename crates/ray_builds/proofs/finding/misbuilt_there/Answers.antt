use Rattle.std.proofs.Common.{◌∙◌}
use Rattle.ray_builds.proofs.Breaking.{is_broken}
use Rattle.ray_builds.proofs.finding.misbuilt_there.Goals as goal

pub returns-clause-told : goal.returns-clause-told
returns-clause-told c =
    c.misbuilt_at.ensures.told
    ∙ is_broken _ _ _ _ c.requires.refused c.requires.rule c.requires.status c.command-command.ensures
