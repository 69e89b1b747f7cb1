use Rattle.std.proofs.Common.{rules, ◌≡◌, pos, to_z, w64, lit<, arith, to_z-of_z}
use Rattle.std.proofs.lemmas.Int.{ints}
use Rattle.ray_slabs.specs.Keys.{key_at}
use Rattle.ray_slabs.proofs.Rising.{key_rises}
use Rattle.ray_slabs.proofs.range.whole.Goals as goal

pub returns-clause-holds : goal.returns-clause-holds
returns-clause-holds c =
    let a = c.args in
    let first : to_z w64 c.part_key.result ≡ pos (key_at a.shift a.tmin 65536) = search (rules, to_z-of_z) in
    let last : to_z w64 c.last_key.result ≡ pos c.last_key.result = search (rules, to_z-of_z) in
    λ n d positive from to up.
    let rises = key_rises a.shift a.tmin 65536 n d (lit< tt) positive (omega arith) in
    let holds = c.last_key.ensures.holds n d positive to up in
    record { from = omega (arith, ints); to = omega (arith, ints) }
