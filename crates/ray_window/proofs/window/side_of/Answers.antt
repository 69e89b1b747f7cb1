use Rattle.std.proofs.Common.{rules, lit<, ◌≡◌, ◌∙◌, sym, ap₂, ℤ, pos, arith, to_z-of_z}
use Rattle.std.specs.Int.{int_min, int_max}
use Rattle.std.proofs.lemmas.Int.{ints, clamps}
use Rattle.ray_window.specs.Windows.{floor_of, ceiling_of, moved}
use Rattle.ray_window.proofs.Starts.{below_at_still, above_at_still, stands}
use Rattle.ray_window.proofs.window.side_of.Goals as goal

least_same : (z : ℤ) → int_min z z ≡ z
least_same z = omega (arith, ints, clamps)

greatest_same : (z : ℤ) → int_max z z ≡ z
greatest_same z = omega (arith, ints, clamps)

pub returns-then-m-eq0-clause-lo : goal.returns-then-m-eq0-clause-lo
returns-then-m-eq0-clause-lo c =
    let a = c.args in
    let here = moved (floor_of a.o a.det) in
    let is : c.start.result.lo ≡ here = search (rules, to_z-of_z) in
    let none : a.m ≡ pos 0 = search rules in
    let first = below_at_still (pos a.det) a.o a.m a.tmin 65536 (lit< tt) (stands a.tmin a.m none) in
    let last = below_at_still (pos a.det) a.o a.m a.n a.d c.requires.den (stands a.n a.m none) in
    is ∙ (sym (least_same here) ∙ ap₂ int_min (sym first) (sym last))

pub returns-then-m-eq0-clause-hi : goal.returns-then-m-eq0-clause-hi
returns-then-m-eq0-clause-hi c =
    let a = c.args in
    let here = moved (ceiling_of a.o a.det) in
    let is : c.start.result.hi ≡ here = search (rules, to_z-of_z) in
    let none : a.m ≡ pos 0 = search rules in
    let first = above_at_still (pos a.det) a.o a.m a.tmin 65536 (lit< tt) (stands a.tmin a.m none) in
    let last = above_at_still (pos a.det) a.o a.m a.n a.d c.requires.den (stands a.n a.m none) in
    is ∙ (sym (greatest_same here) ∙ ap₂ int_max (sym first) (sym last))
