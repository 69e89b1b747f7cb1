use Rattle.std.proofs.Common.{◌≤◌, ◌^◌, lit<, arith}
use Rattle.std.proofs.Math.Nat.{pow-le-pow_right}
use Rattle.ray_slabs.proofs.rounding.power.Goals as goal

pub returns-clause-short : goal.returns-clause-short
returns-clause-short c =
    let h : 2 ^ c.args.exponent ≤ 2 ^ 62 = pow-le-pow_right {n = 2} (lit< tt) {i = c.args.exponent} {j = 62} c.requires in
    omega arith
