use Rattle.std.proofs.Common.{arith}
use Rattle.ray_geometries.proofs.Counting.{count-le-total}
use Rattle.ray_bottom.proofs.bottom.Bottom.count.Goals as goal

pub overflow_cast-result : goal.overflow_cast-result
overflow_cast-result c =
    let fits = count-le-total c.args.self.now.geometries c.args.geometry c.geometry.result.now c.geometry.ensures in
    let total = c.total-limits.ensures.value in
    let limit = c.total-limits.ensures.limits.primitives in
    omega arith
