-- Each field fits its type.
use Rattle.std.proofs.Common.{arith}
use Rattle.ray_bytes.proofs.HitLaws.{words_fit}
use Rattle.ray_bytes.proofs.hit_record.HitRecord.words.Goals as goal

pub returns-clause-fit : goal.returns-clause-fit
returns-clause-fit c =
    words_fit c.args.self
    (omega arith) (omega arith) (omega arith) (omega arith)
    (omega arith) (omega arith) (omega arith) (omega arith)
