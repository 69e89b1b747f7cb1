use Rattle.std.proofs.Common.{arith}
use Rattle.ray_primitives.proofs.StoredBack.{boxes_back}
use Rattle.ray_primitives.proofs.StoredAgain.{IfSome-boxes_again}
use Rattle.ray_primitives.proofs.StoredLimits.{IfSome-boxes}
use Rattle.ray_primitives.proofs.stored_laws.stored_boxes_law.Goals as goal

pub returns-clause-back : goal.returns-clause-back
returns-clause-back c = λ all. boxes_back c.args._boxes.now all

pub returns-clause-limits : goal.returns-clause-limits
returns-clause-limits c = (IfSome-boxes c.args._count c.args._bytes.now).1

pub returns-clause-count : goal.returns-clause-count
returns-clause-count c = (IfSome-boxes c.args._count c.args._bytes.now).0

pub returns-clause-again : goal.returns-clause-again
returns-clause-again c = λ long. IfSome-boxes_again c.args._count c.args._bytes.now (λ i. let f = c.type_inv._bytes i in omega arith) long
