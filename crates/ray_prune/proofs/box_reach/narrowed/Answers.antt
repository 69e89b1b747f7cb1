use Rattle.std.proofs.Common.{◌≡◌, sym, subst, arith}
use Rattle.std.specs.Prelude.{IfNone}
use Rattle.std.proofs.lemmas.Bool.Decides.{nat_tests}
use Rattle.ray_geom.specs.Boxes.{IsBox, box_value}
use Rattle.ray_geom.specs.ObjectRay.{IsObjectRay, object_value}
use Rattle.ray_prune.specs.BoxSpan.{IsInside, IsReach}
use Rattle.ray_prune.specs.Slabs.{Never}
use Rattle.ray_prune.proofs.Reaches.{at_values, ray_of, box_of, IsNarrowed-held, IsReach-narrowed, Never-narrowed, Never-x, Never-y, Never-z}
use Rattle.ray_prune.proofs.box_reach.narrowed.Goals as goal

pub returns-in_err-x-clause-none : goal.returns-in_err-x-clause-none
returns-in_err-x-clause-none c =
    let ray =
    object_value c.origin-origin.result c.dir-dir.result c.det-det.result c.tmin.result
    c.tmax.result in
    let box = box_value c.lo-lo.result c.hi-hi.result in
    let ray_is : ray ≡ c.args.ray.now =
    ray_of c.args.ray.now c.origin-origin.ensures.value c.dir-dir.ensures.value c.det-det.ensures.value
    c.tmin.ensures.value c.tmax.ensures.value in
    let box_is : box ≡ c.args.b.now =
    box_of c.args.b.now c.lo-lo.ensures.value c.hi-hi.ensures.value in
    let ray_limits = subst IsObjectRay (sym ray_is) c.det-det.ensures.limits in
    let box_limits = subst IsBox (sym box_is) c.lo-lo.ensures.limits in
    at_values (λ r b. IfNone c.from_residual.result (Never (IsInside r b))) ray c.args.ray.now box c.args.b.now ray_is box_is
    (subst (λ o. IfNone o (Never (IsInside ray box))) (sym c.from_residual.ensures)
    (Never-x ray box ray_limits box_limits c.in_err-x.ensures.none))

pub returns-in_err-y-clause-none : goal.returns-in_err-y-clause-none
returns-in_err-y-clause-none c =
    let ray =
    object_value c.origin-origin.result c.dir-dir.result c.det-det.result c.tmin.result
    c.tmax.result in
    let box = box_value c.lo-lo.result c.hi-hi.result in
    let ray_is : ray ≡ c.args.ray.now =
    ray_of c.args.ray.now c.origin-origin.ensures.value c.dir-dir.ensures.value c.det-det.ensures.value
    c.tmin.ensures.value c.tmax.ensures.value in
    let box_is : box ≡ c.args.b.now =
    box_of c.args.b.now c.lo-lo.ensures.value c.hi-hi.ensures.value in
    let ray_limits = subst IsObjectRay (sym ray_is) c.det-det.ensures.limits in
    let box_limits = subst IsBox (sym box_is) c.lo-lo.ensures.limits in
    at_values (λ r b. IfNone c.from_residual-in_err-y.result (Never (IsInside r b))) ray c.args.ray.now box c.args.b.now ray_is box_is
    (subst (λ o. IfNone o (Never (IsInside ray box))) (sym c.from_residual-in_err-y.ensures)
    (Never-y ray box ray_limits box_limits c.in_err-y.ensures.none))

pub returns-in_err-z-clause-none : goal.returns-in_err-z-clause-none
returns-in_err-z-clause-none c =
    let ray =
    object_value c.origin-origin.result c.dir-dir.result c.det-det.result c.tmin.result
    c.tmax.result in
    let box = box_value c.lo-lo.result c.hi-hi.result in
    let ray_is : ray ≡ c.args.ray.now =
    ray_of c.args.ray.now c.origin-origin.ensures.value c.dir-dir.ensures.value c.det-det.ensures.value
    c.tmin.ensures.value c.tmax.ensures.value in
    let box_is : box ≡ c.args.b.now =
    box_of c.args.b.now c.lo-lo.ensures.value c.hi-hi.ensures.value in
    let ray_limits = subst IsObjectRay (sym ray_is) c.det-det.ensures.limits in
    let box_limits = subst IsBox (sym box_is) c.lo-lo.ensures.limits in
    at_values (λ r b. IfNone c.from_residual-in_err-z.result (Never (IsInside r b))) ray c.args.ray.now box c.args.b.now ray_is box_is
    (subst (λ o. IfNone o (Never (IsInside ray box))) (sym c.from_residual-in_err-z.ensures)
    (Never-z ray box ray_limits box_limits c.in_err-z.ensures.none))

pub returns-then-le-clause-some : goal.returns-then-le-clause-some
returns-then-le-clause-some c =
    let ray =
    object_value c.origin-origin.result c.dir-dir.result c.det-det.result c.tmin.result
    c.tmax.result in
    let box = box_value c.lo-lo.result c.hi-hi.result in
    let ray_is : ray ≡ c.args.ray.now =
    ray_of c.args.ray.now c.origin-origin.ensures.value c.dir-dir.ensures.value c.det-det.ensures.value
    c.tmin.ensures.value c.tmax.ensures.value in
    let box_is : box ≡ c.args.b.now =
    box_of c.args.b.now c.lo-lo.ensures.value c.hi-hi.ensures.value in
    let ray_limits = subst IsObjectRay (sym ray_is) c.det-det.ensures.limits in
    let box_limits = subst IsBox (sym box_is) c.lo-lo.ensures.limits in
    at_values (λ r b. IsReach r b c.in_ok-z.z) ray c.args.ray.now box c.args.b.now ray_is box_is
    (IsReach-narrowed ray box c.interval-all.result c.in_ok-x.x c.in_ok-y.y c.in_ok-z.z
    (IsNarrowed-held ray box c.interval-all.result c.in_ok-x.x c.in_ok-y.y c.in_ok-z.z ray_limits box_limits
    c.interval-all.ensures.covers c.in_ok-x.ensures.some c.in_ok-y.ensures.some c.in_ok-z.ensures.some)
    (grind (arith, nat_tests)))

pub returns-else-le-clause-none : goal.returns-else-le-clause-none
returns-else-le-clause-none c =
    let ray =
    object_value c.origin-origin.result c.dir-dir.result c.det-det.result c.tmin.result
    c.tmax.result in
    let box = box_value c.lo-lo.result c.hi-hi.result in
    let ray_is : ray ≡ c.args.ray.now =
    ray_of c.args.ray.now c.origin-origin.ensures.value c.dir-dir.ensures.value c.det-det.ensures.value
    c.tmin.ensures.value c.tmax.ensures.value in
    let box_is : box ≡ c.args.b.now =
    box_of c.args.b.now c.lo-lo.ensures.value c.hi-hi.ensures.value in
    let ray_limits = subst IsObjectRay (sym ray_is) c.det-det.ensures.limits in
    let box_limits = subst IsBox (sym box_is) c.lo-lo.ensures.limits in
    at_values (λ r b. Never (IsInside r b)) ray c.args.ray.now box c.args.b.now ray_is box_is
    (Never-narrowed ray box c.interval-all.result c.in_ok-x.x c.in_ok-y.y c.in_ok-z.z
    (IsNarrowed-held ray box c.interval-all.result c.in_ok-x.x c.in_ok-y.y c.in_ok-z.z ray_limits box_limits
    c.interval-all.ensures.covers c.in_ok-x.ensures.some c.in_ok-y.ensures.some c.in_ok-z.ensures.some)
    (λ le. grind (arith, nat_tests)))

pub returns-then-le-clause-limits : goal.returns-then-le-clause-limits
returns-then-le-clause-limits c =
    c.in_ok-z.ensures.limits (c.in_ok-y.ensures.limits (c.in_ok-x.ensures.limits c.interval-all.ensures.limits))
