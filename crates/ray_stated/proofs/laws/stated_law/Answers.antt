use Rattle.ray_stated.proofs.Decided.{stated_carried}
use Rattle.ray_stated.proofs.laws.stated_law.Goals as goal

pub returns : goal.returns
returns c = stated_carried c.args._items.now c.requires
