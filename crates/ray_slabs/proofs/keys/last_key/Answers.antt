use Rattle.std.proofs.Common.{◌*◌, ◌≤◌, sym, subst, lit<, arith}
use Rattle.ray_window.specs.Meets.{IsUpTo}
use Rattle.ray_slabs.specs.Keys.{key_at}
use Rattle.ray_slabs.proofs.Rising.{key_rises}
use Rattle.ray_slabs.proofs.keys.last_key.Goals as goal

pub returns-in-None-clause-holds : goal.returns-in-None-clause-holds
returns-in-None-clause-holds c =
    let a = c.args in
    λ n d positive to up.
    subst (λ k. key_at a.shift n d ≤ k) (sym c.part_key-most.ensures.value) (key_rises a.shift n d a.tmax 65536 positive (lit< tt) (omega arith))

pub returns-in-Some-clause-holds : goal.returns-in-Some-clause-holds
returns-in-Some-clause-holds c =
    let a = c.args in
    let limit = c.in-Some.limit in
    λ n d positive to up.
    let until : n * limit.den ≤ limit.num * d = subst (λ l. IsUpTo l n d) c.in-Some.is up in
    c.lesser.ensures.least (key_at a.shift n d)
    (subst (λ k. key_at a.shift n d ≤ k) (sym c.part_key-most.ensures.value) (key_rises a.shift n d a.tmax 65536 positive (lit< tt) (omega arith)))
    (subst (λ k. key_at a.shift n d ≤ k) (sym c.ratio_key.ensures) (key_rises a.shift n d limit.num limit.den positive limit.positive until))
