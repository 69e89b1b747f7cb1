use Rattle.std.proofs.Common.{rules, lit<, ◌≡◌, ◌∙◌, sym, ap, pos, arith, to_z-of_z}
use Rattle.std.proofs.lemmas.Bool.Decides.{nat_tests}
use Rattle.ray_window.specs.Windows.{floor_of, ceiling_of, moved, below_at, above_at}
use Rattle.ray_window.proofs.Starts.{below_at_still, above_at_still, at_start}
use Rattle.ray_window.proofs.window.first_side.Goals as goal

pub returns-then-tmin-eq0-clause-lo : goal.returns-then-tmin-eq0-clause-lo
returns-then-tmin-eq0-clause-lo c =
    let a = c.args in
    let is : c.start.result.lo ≡ moved (floor_of a.o a.det) = search (rules, to_z-of_z) in
    let none : a.tmin ≡ 0 = grind (arith, nat_tests) in
    is ∙ (sym (below_at_still (pos a.det) a.o a.m 0 65536 (lit< tt) (at_start a.m)) ∙ ap (λ n. below_at (pos a.det) a.o a.m n 65536) (sym none))

pub returns-then-tmin-eq0-clause-hi : goal.returns-then-tmin-eq0-clause-hi
returns-then-tmin-eq0-clause-hi c =
    let a = c.args in
    let is : c.start.result.hi ≡ moved (ceiling_of a.o a.det) = search (rules, to_z-of_z) in
    let none : a.tmin ≡ 0 = grind (arith, nat_tests) in
    is ∙ (sym (above_at_still (pos a.det) a.o a.m 0 65536 (lit< tt) (at_start a.m)) ∙ ap (λ n. above_at (pos a.det) a.o a.m n 65536) (sym none))
