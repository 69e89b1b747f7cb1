use Rattle.ray_prune.proofs.Corners.{KeepsCorners-test, IsShort-image}
use Rattle.ray_prune.proofs.images.keeps_corners.Goals as goal

pub returns-clause-corners : goal.returns-clause-corners
returns-clause-corners c =
    KeepsCorners-test c.args.m.now c.args.b.now c.corners.result c.are_kept.result c.corners.ensures.value c.are_kept.ensures

pub returns-clause-points : goal.returns-clause-points
returns-clause-points c =
    let kept = KeepsCorners-test c.args.m.now c.args.b.now c.corners.result c.are_kept.result c.corners.ensures.value c.are_kept.ensures in
    λ told p is. IsShort-image c.args.m.now c.args.b.now p (kept.0 told) is
