use Rattle.std.proofs.Common.{arith}
use Rattle.std.proofs.lemmas.Bool.{ltb-true, lt-ltb}
use Rattle.ray_ranges.proofs.Shared.{are_meeting, meets_from, meets-shared, shared-meets}
use Rattle.ray_ranges.proofs.range.Range.meets.Goals as goal

pub returns-then-self-clause-shared : goal.returns-then-self-clause-shared
returns-then-self-clause-shared c = (
  λ h. shared-meets c.args.self c.args.other (meets_from c.args.self c.args.other (record {
    first = omega arith;
    second = omega arith;
    some = omega arith;
    other = ltb-true _ _ h;
  })),
  λ s. lt-ltb _ _ (are_meeting c.args.self c.args.other (meets-shared s.0 c.args.self c.args.other s.1 s.2)).other,
)
