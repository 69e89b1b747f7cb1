use Rattle.std.proofs.Common.{◌+◌, ◌/◌, ◌^◌, ◌<◌, subst, sym, arith}
use Rattle.std.specs.Int.{trailing_zeros, w32}
use Rattle.std.proofs.Math.Nat.{div-le_self}
use Rattle.ray_lanes.specs.Overlap.{HasBit}
use Rattle.ray_walk.proofs.Bits.{is-set, none-before, none-set}
use Rattle.ray_walk.proofs.set_bits.next_bit.Goals as goal

pub returns-then-rest-eq0-clause-clear : goal.returns-then-rest-eq0-clause-clear
returns-then-rest-eq0-clause-clear c k after below set =
    none-set c.from.result c.args.from k c.if-rest-eq0.true after (subst (λ n. HasBit n k) (sym c.from.ensures) set)

pub returns-else-rest-eq0-clause-set : goal.returns-else-rest-eq0-clause-set
returns-else-rest-eq0-clause-set c small =
    let n = c.from.result in
    let rest = n / 2 ^ c.args.from in
    let some : 0 < rest = (let not = c.if-rest-eq0.false in grind arith) in
    let less = div-le_self n (2 ^ c.args.from) in
    let is = c.min.ensures in
    let at = is-set n c.args.from some (omega (arith, less, c.from.type_inv)) in
    subst (λ m. HasBit c.args.number m) (omega (arith, is, small)) (subst (λ m. HasBit m (c.args.from + trailing_zeros w32 rest)) c.from.ensures at)

pub returns-else-rest-eq0-clause-clear : goal.returns-else-rest-eq0-clause-clear
returns-else-rest-eq0-clause-clear c k after below set =
    let n = c.from.result in
    let some : 0 < n / 2 ^ c.args.from = (let not = c.if-rest-eq0.false in grind arith) in
    let less = div-le_self n (2 ^ c.args.from) in
    let is = c.min.ensures in
    none-before n c.args.from k some (omega (arith, less, c.from.type_inv)) after (omega (arith, is, below))
    (subst (λ n. HasBit n k) (sym c.from.ensures) set)
