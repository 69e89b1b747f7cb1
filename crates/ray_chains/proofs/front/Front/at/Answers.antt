use Rattle.std.proofs.Common.{◌∙◌, nat_lt, ap, sym}
use Rattle.ray_chains.proofs.Tables.{front-tells}
use Rattle.ray_chains.proofs.front.Front.at.Goals as goal

pub returns-clause-tells : goal.returns-clause-tells
returns-clause-tells c acts steps queue n i is =
    front-tells c.args.self c.args.stage acts steps queue n i is ∙ ap (nat_lt i) (sym c.number.ensures)
