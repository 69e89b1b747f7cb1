use Rattle.std.proofs.Common.{arith}
use Rattle.std.proofs.lemmas.Int.{ints}
use Rattle.ray_geom.proofs.vec3.is_short.Goals as goal
use Rattle.ray_geom.proofs.vec3.is_short.Goals.{then-unsigned_abs-limit, else-unsigned_abs-limit}

pub returns-then-unsigned_abs-limit-2 : goal.returns-then-unsigned_abs-limit-2
returns-then-unsigned_abs-limit-2 c =
    elim c.if-unsigned_abs-limit.branch [
      | then-unsigned_abs-limit w ↦ grind (arith, ints)
      | else-unsigned_abs-limit w ↦ grind (arith, ints)
    ]
