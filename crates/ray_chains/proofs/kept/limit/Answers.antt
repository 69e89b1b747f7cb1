use Rattle.std.proofs.Common.{◌∙◌, nat_lt, ap, sym}
use Rattle.ray_chains.specs.Queues.{Node, Visible, steps}
use Rattle.ray_chains.proofs.Fronts.{fronts-are-exact}
use Rattle.ray_chains.proofs.Keeping.{own-number}
use Rattle.ray_chains.proofs.kept.limit.Goals as goal

pub returns-clause-front : goal.returns-clause-front
returns-clause-front c acts events source queue n acting all kept are =
    own-number acts events source queue n c.args.all.now c.args.kept.now c.args.chains.now c.args.stage
    c.args.access acting all kept are
    ∙ sym c.own_number.ensures

pub returns-clause-covered : goal.returns-clause-covered
returns-clause-covered c acts events source queue n i acting all kept are =
    fronts-are-exact Node acts (steps events source) i n (Visible queue c.args.stage c.args.access)
    ∙ ap (nat_lt i)
    (own-number acts events source queue n c.args.all.now c.args.kept.now c.args.chains.now c.args.stage
    c.args.access acting all kept are
    ∙ sym c.own_number.ensures)
