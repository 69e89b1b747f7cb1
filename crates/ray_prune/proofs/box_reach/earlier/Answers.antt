use Rattle.std.proofs.Common.{arith}
use Rattle.std.proofs.lemmas.Bool.Decides.{nat_tests}
use Rattle.ray_geom.specs.Fraction.{IsAtMost}
use Rattle.ray_prune.proofs.Slabs.{earlier_left, earlier_right}
use Rattle.ray_prune.proofs.box_reach.earlier.Goals as goal

pub returns-then-lt-clause-value : goal.returns-then-lt-clause-value
returns-then-lt-clause-value c =
    let le : IsAtMost c.args.a.num c.args.a.den c.args.b.num c.args.b.den = grind (arith, nat_tests) in
    λ n d _. earlier_left c.args.a c.args.b le n d

pub returns-else-lt-clause-value : goal.returns-else-lt-clause-value
returns-else-lt-clause-value c =
    let le : IsAtMost c.args.b.num c.args.b.den c.args.a.num c.args.a.den = grind (arith, nat_tests) in
    λ n d _. earlier_right c.args.a c.args.b le n d
