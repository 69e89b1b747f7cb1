use Rattle.ray_top.proofs.Causes.{IsRead-read}
use Rattle.ray_top.proofs.laws.reading_law.Goals as goal

pub returns : goal.returns
returns c =
    IsRead-read c.args._used.now c.args._from.now c.structure_of-reference.result c.structure_of-reference.ensures.value c.structure_of-reference.ensures.inactive
    c.structure_of-reference.ensures.structure
