use Rattle.ray_prune.proofs.Corners.{IsShort-image}
use Rattle.ray_contents.proofs.kept.image_law.Goals as goal

pub returns : goal.returns
returns c = λ kept p held. IsShort-image c.args._m.now c.args._bounds.now p kept held
