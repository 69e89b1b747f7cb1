use Rattle.std.proofs.Common.{arith}
use Rattle.ray_serial.proofs.OtherHandles.{IsReplaced-form}
use Rattle.ray_serial.proofs.laws.replaced.Goals as goal

pub returns : goal.returns
returns c = λ many.
    IsReplaced-form c.args._bytes.now c.args._handles.now (record { each = λ i. let f = c.type_inv._bytes i in omega arith })
    (record { each = λ i. let f = c.type_inv._handles i in omega arith }) c.requires.form c.requires.top many
