-- Each field fits its type.
use Rattle.std.proofs.Common.{ℕ, ◌<◌, ◌^◌, arith}
use Rattle.std.proofs.lemmas.List.Elements.{All-cons, All-nil}
use Rattle.ray_bytes.proofs.hit_record.HitRecord.numbers.Goals as goal

pub returns-clause-fit : goal.returns-clause-fit
returns-clause-fit c =
    let Fits : ℕ → Type 0 = λ number. number < 2 ^ 64 in
    search (All-cons Fits, All-nil Fits, arith) depth 8
