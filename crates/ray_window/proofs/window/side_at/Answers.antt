use Rattle.std.proofs.Common.{rules, ◌≡◌, sym, subst, pos, to_z, of_z, to_z-of_z}
use Rattle.std.specs.Int.{w128}
use Rattle.ray_window.specs.Lines.{SumFits}
use Rattle.ray_window.proofs.Sizes.{SumFits-line}
use Rattle.ray_window.proofs.window.side_at.Goals as goal

pub sum-spot-requires : goal.sum-spot-requires
sum-spot-requires c =
    let a = c.args in
    let o : to_z w128 (of_z w128 c.from.result) ≡ a.o = search (rules, to_z-of_z) in
    let m : to_z w128 (of_z w128 c.from-2.result) ≡ a.m = search (rules, to_z-of_z) in
    let n : to_z w128 (of_z w128 c.from-3.result) ≡ pos a.n = search (rules, to_z-of_z) in
    let d : to_z w128 (of_z w128 c.from-4.result) ≡ pos a.d = search (rules, to_z-of_z) in
    subst (λ p. p) (λ i. SumFits (sym o i) (sym m i) (sym n i) (sym d i))
    (SumFits-line (pos a.det) a.o a.m a.n a.d c.requires.line (search rules) (search rules))
