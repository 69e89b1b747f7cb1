use Rattle.std.proofs.Common.{◌∷◌, []}
use Rattle.ray_certify.specs.Rays.{traced_ray}
use Rattle.ray_certify.specs.Scenes.{seen_in}
use Rattle.ray_certify.proofs.Verdicts.{goes_certified, goes_uncertified, stopped}
use Rattle.ray_certify.proofs.verifying.verify_ray.Goals as goal

pub returns-in-Uncertified : goal.returns-in-Uncertified
returns-in-Uncertified g c =
    stopped c.args.lines.now (traced_ray c.args.way (g.C.Client.meaning c.args.client.now) (seen_in c.args.seen.now) c.args.number ∷ []) c.args.checked c.in-Uncertified.command c.in-Uncertified.ray c.in-Uncertified.is

pub returns-then-branch : goal.returns-then-branch
returns-then-branch g c =
    let is = c.in_ok-is_next_certified-in-Certified in
    goes_certified c.args.lines.now (traced_ray c.args.way (g.C.Client.meaning c.args.client.now) (seen_in c.args.seen.now) c.args.number) c.args.checked c.in-Certified.is
    (is.ensures.value.0 c.if-branch.true) (is.ensures.law c.if-branch.true)

pub returns-else-branch : goal.returns-else-branch
returns-else-branch g c =
    let is = c.in_ok-is_next_certified-in-Certified in
    goes_uncertified c.args.lines.now (traced_ray c.args.way (g.C.Client.meaning c.args.client.now) (seen_in c.args.seen.now) c.args.number) c.args.checked c.in-Certified.is
    (λ there. let yes_ = is.ensures.value.1 there in let no_ = c.if-branch.false in cc)
