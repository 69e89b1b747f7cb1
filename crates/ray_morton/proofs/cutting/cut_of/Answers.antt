use Rattle.std.proofs.Common.{◌≡◌, ◌+◌, ◌-◌, length, get_or, refl, subst, arith}
use Rattle.ray_morton.specs.Cuts.{AreSame}
use Rattle.ray_morton.proofs.Rising.{same_between}
use Rattle.ray_morton.proofs.Turns.{cut_at_turn, cut_equal}
use Rattle.ray_morton.proofs.cutting.cut_of.Goals as goal

pub returns-then-bit-eq0 : goal.returns-then-bit-eq0
returns-then-bit-eq0 c =
    let keys = c.args.keys.now in
    let same = same_between keys c.same_from-bit.result (get_or keys 0 0) (get_or keys (length keys - 1) 0) (omega arith) c.requires.rising refl refl c.same_from-bit.ensures.same in
    cut_equal keys c.args.bits c.args.halvings _ c.requires.many c.requires.few c.requires.rising
    (subst (λ b. AreSame b keys) c.if-bit-eq0.true same) refl refl refl

pub turn-requires-clause-same : goal.turn-requires-clause-same
turn-requires-clause-same c =
    let keys = c.args.keys.now in
    let bit = c.same_from-bit.result in
    let up : bit ≡ bit - 1 + 1 = omega arith in
    subst (λ b. AreSame b keys) up
    (same_between keys bit (get_or keys 0 0) (get_or keys (length keys - 1) 0) (omega arith) c.requires.rising refl refl c.same_from-bit.ensures.same)

pub returns : goal.returns
returns c =
    cut_at_turn c.args.keys.now c.args.bits c.args.halvings (c.same_from-bit.result - 1) _ c.requires.short c.requires.many c.requires.few c.requires.rising
    (omega (arith, c.same_from-bit.ensures.within)) c.turn.ensures refl refl
