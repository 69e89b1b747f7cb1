use Rattle.std.proofs.Common.{rules, ◌≡◌, subst, IfSome, to_z, of_z, w32, to_z-of_z}
use Rattle.ray_slabs.specs.Slopes.{IsSlope}
use Rattle.ray_slabs.specs.Sides.{IsSide}
use Rattle.ray_slabs.proofs.Standing.{side_sloped}
use Rattle.ray_slabs.proofs.side.side_of.Goals as goal

pub returns-in-Some-sloped-clause-made : goal.returns-in-Some-sloped-clause-made
returns-in-Some-sloped-clause-made c =
    let a = c.args in
    λ shift is.
    side_sloped a.line.det a.line.o a.line.m shift a.base a.from a.to c.in-Some.slope c.in-Some-sloped.axis
    (subst (λ s. IfSome s (IsSlope a.line.det a.line.o a.line.m shift)) c.in-Some.is is) c.in-Some-sloped.ensures

pub returns-in-Some-sloped-clause-free : goal.returns-in-Some-sloped-clause-free
returns-in-Some-sloped-clause-free c =
    let a = c.args in
    λ exact shift from to is.
    side_sloped a.line.det a.line.o a.line.m shift a.base from to c.in-Some.slope c.in-Some-sloped.axis
    (subst (λ s. IfSome s (IsSlope a.line.det a.line.o a.line.m shift)) c.in-Some.is is) c.in-Some-sloped.ensures

pub returns-in-None-sloped-clause-made : goal.returns-in-None-sloped-clause-made
returns-in-None-sloped-clause-made c =
    let a = c.args in
    let from : to_z w32 (of_z w32 a.from) ≡ a.from = search (rules, to_z-of_z) in
    let to : to_z w32 (of_z w32 a.to) ≡ a.to = search (rules, to_z-of_z) in
    λ shift is.
    subst (λ p. p) (λ i. IsSide a.line.det a.line.o a.line.m shift a.base (from i) (to i) c.flat_side.result) (c.flat_side.ensures.made shift a.base)

pub returns-in-None-sloped-clause-free : goal.returns-in-None-sloped-clause-free
returns-in-None-sloped-clause-free c = λ exact shift from to is. c.flat_side.ensures.free exact shift c.args.base from to

pub returns-in-None-clause-made : goal.returns-in-None-clause-made
returns-in-None-clause-made c =
    let a = c.args in
    let from : to_z w32 (of_z w32 a.from) ≡ a.from = search (rules, to_z-of_z) in
    let to : to_z w32 (of_z w32 a.to) ≡ a.to = search (rules, to_z-of_z) in
    λ shift is.
    subst (λ p. p) (λ i. IsSide a.line.det a.line.o a.line.m shift a.base (from i) (to i) c.flat_side-in-None.result) (c.flat_side-in-None.ensures.made shift a.base)

pub returns-in-None-clause-free : goal.returns-in-None-clause-free
returns-in-None-clause-free c = λ exact shift from to is. c.flat_side-in-None.ensures.free exact shift c.args.base from to
