use Rattle.std.proofs.Common.{rules, ◌≡◌, to_z, of_z, w64, arith, to_z-of_z}
use Rattle.std.specs.Int.{int_min, int_max}
use Rattle.std.proofs.lemmas.Int.{ints, clamps}
use Rattle.ray_slabs.proofs.range.within.Goals as goal

pub returns-clause-holds : goal.returns-clause-holds
returns-clause-holds c =
    let a = c.args in
    let first : to_z w64 (of_z w64 c.max.result) ≡ int_max a.range.first a.near = search (rules, to_z-of_z) in
    let last : to_z w64 (of_z w64 c.min.result) ≡ int_min a.range.last a.far = search (rules, to_z-of_z) in
    λ key is near far.
    let from = is.from in
    let to = is.to in
    record { from = omega (arith, ints, clamps); to = omega (arith, ints, clamps) }
