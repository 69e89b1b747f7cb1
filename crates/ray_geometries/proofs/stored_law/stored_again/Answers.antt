use Rattle.std.proofs.Common.{arith}
use Rattle.ray_geometries.proofs.Restoring.{element_bytes-stored}
use Rattle.ray_geometries.proofs.stored_law.stored_again.Goals as goal

pub returns : goal.returns
returns c =
    element_bytes-stored c.args._kind c.args._format c.args._size c.args._count c.args._elements.now
    (λ i. let f = c.type_inv._elements i in omega arith)
