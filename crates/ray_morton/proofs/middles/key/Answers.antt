use Rattle.std.proofs.Common.{rules, ◌≡◌, ◌∙◌, ◌+◌, ◌*◌, sym, arith}
use Rattle.ray_morton.specs.Keys.{middle_of}
use Rattle.ray_morton.specs.Entries.{spread}
use Rattle.ray_morton.proofs.Spread.{interleaved_is, interleaved_small}
use Rattle.ray_morton.proofs.middles.key.Goals as goal

pub returns-clause-value : goal.returns-clause-value
returns-clause-value c =
    let box = c.args.b.now in
    let x : c.spread_all-x.result ≡ spread 20 (middle_of box.lo.x box.hi.x) = search rules in
    let y : c.spread_all-y.result ≡ spread 20 (middle_of box.lo.y box.hi.y) = search rules in
    let z : c.spread_all-z.result ≡ spread 20 (middle_of box.lo.z box.hi.z) = search rules in
    (λ i. 4 * x i + (2 * y i + z i))
    ∙ sym (interleaved_is 20 (middle_of box.lo.x box.hi.x) (middle_of box.lo.y box.hi.y) (middle_of box.lo.z box.hi.z))

pub returns-clause-small : goal.returns-clause-small
returns-clause-small c =
    let box = c.args.b.now in
    omega (
      arith,
      returns-clause-value c,
      interleaved_small (middle_of box.lo.x box.hi.x) (middle_of box.lo.y box.hi.y) (middle_of box.lo.z box.hi.z),
    )
