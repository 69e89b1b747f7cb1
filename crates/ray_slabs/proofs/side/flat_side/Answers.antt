use Rattle.std.proofs.Common.{rules, ◌≡◌, sym, subst, true, false, pos, to_z-of_z}
use Rattle.ray_slabs.specs.Sides.{flat_axis, still_axis, IsSide}
use Rattle.ray_slabs.proofs.Standing.{side_flat, side_still}
use Rattle.ray_slabs.proofs.side.flat_side.Goals as goal

pub returns-then-line-eq0-clause-made : goal.returns-then-line-eq0-clause-made
returns-then-line-eq0-clause-made c =
    let a = c.args in
    let line = c.args.line in
    let still : line.m ≡ pos 0 = search (rules, to_z-of_z) in
    let axis : c.still.result ≡ still_axis line.det line.o = search (rules, to_z-of_z) in
    λ shift base. subst (λ p. p) (λ i. IsSide line.det line.o (sym still i) shift base a.from a.to record { axis = sym axis i; exact = true })
    (side_still line.det line.o shift base a.from a.to c.requires.det_not_zero)

pub returns-then-line-eq0-clause-free : goal.returns-then-line-eq0-clause-free
returns-then-line-eq0-clause-free c =
    let line = c.args.line in
    let still : line.m ≡ pos 0 = search (rules, to_z-of_z) in
    let axis : c.still.result ≡ still_axis line.det line.o = search (rules, to_z-of_z) in
    λ exact shift base from to. subst (λ p. p) (λ i. IsSide line.det line.o (sym still i) shift base from to record { axis = sym axis i; exact = true })
    (side_still line.det line.o shift base from to c.requires.det_not_zero)

pub returns-else-line-eq0-clause-made : goal.returns-else-line-eq0-clause-made
returns-else-line-eq0-clause-made c =
    let a = c.args in
    let line = c.args.line in
    let axis : c.flat.result ≡ flat_axis a.from a.to = search (rules, to_z-of_z) in
    λ shift base. subst (λ x. IsSide line.det line.o line.m shift base a.from a.to record { axis = x; exact = false }) (sym axis)
    (side_flat line.det line.o line.m shift base a.from a.to)

pub returns-else-line-eq0-clause-free : goal.returns-else-line-eq0-clause-free
returns-else-line-eq0-clause-free c = λ exact. absurd (cc)
