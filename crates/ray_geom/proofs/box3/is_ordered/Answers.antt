use Rattle.std.proofs.Common.{arith, rules}
use Rattle.std.proofs.lemmas.Int.{ints}
use Rattle.ray_geom.proofs.box3.is_ordered.Goals as goal
use Rattle.ray_geom.proofs.box3.is_ordered.Goals.{then-lo-hi, else-lo-hi}

pub returns-then-lo-hi-2 : goal.returns-then-lo-hi-2
returns-then-lo-hi-2 c =
    elim c.if-lo-hi.branch [
      | then-lo-hi w ↦ (λ t. (omega (arith, ints), grind (arith, ints), grind (arith, ints)), λ h. grind (arith, ints))
      | else-lo-hi w ↦ absurd (search rules)
    ]
