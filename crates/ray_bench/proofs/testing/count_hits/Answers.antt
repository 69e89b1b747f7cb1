use Rattle.std.proofs.Common.{◌∙◌}
use Rattle.ray_bench.specs.Field.{triangles}
use Rattle.ray_bench.specs.Rays.{rays}
use Rattle.ray_bench.proofs.Turns.{hits_of_rays-same}
use Rattle.ray_bench.proofs.testing.count_hits.Goals as goal

pub returns-in_ok-tris-in-Pairs : goal.returns-in_ok-tris-in-Pairs
returns-in_ok-tris-in-Pairs c =
    rw c.in-Pairs.is
    (hits_of_rays-same c.deref.result.now rays c.deref-in-Pairs.result.now triangles c.args.job.number
    c.count_of_rays.result
    (c.deref.ensures.value ∙ c.in_ok-rays-in-Pairs.ensures)
    (c.deref-in-Pairs.ensures.value ∙ c.in_ok-tris-in-Pairs.ensures)
    c.count_of_rays.ensures)
