use Rattle.std.proofs.Common.{◌≡◌, ◌∙◌, length, ap, arith}
use Rattle.ray_lanes.specs.Masks.{axis_tests, mask_of}
use Rattle.ray_lanes.proofs.Compared.{axis_mask}
use Rattle.ray_lanes.proofs.overlap.overlap_axis.Goals as goal

pub returns-clause-mask : goal.returns-clause-mask
returns-clause-mask c =
    let lo = c.load-lo in
    let hi = c.load-hi in
    let lo_long : length c.args.lo.now ≡ 8 = omega arith in
    let hi_long : length c.args.hi.now ≡ 8 = omega arith in
    axis_mask c.args.from c.args.to c.ranges.from c.ranges.to 8 lo.result hi.result
    (ap length lo.ensures.same ∙ lo_long) (ap length hi.ensures.same ∙ hi_long) lo.ensures.fit hi.ensures.fit
    ∙ (λ i. mask_of (axis_tests c.args.from c.args.to (lo.ensures.same i) (hi.ensures.same i)))
