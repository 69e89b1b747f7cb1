use Rattle.std.proofs.Common.{◌≤◌, ◌<◌, ◌+◌, ◌∙◌, List, ℕ, Option, Ok, Err, ap, subst, sym, arith}
use Rattle.std.proofs.lemmas.Bool.Decides.{nat_tests}
use Rattle.ray_geom.specs.Scene.{RayValue}
use Rattle.ray_top.specs.Trees.{without_tree}
use Rattle.ray_candidates.specs.Standing.{structures_in}
use Rattle.ray_device.specs.Tracing.{IsHit}
use Rattle.ray_bytes.specs.declared.hit_record.HitRecord.{HitRecord}
use Rattle.ray_bytes.specs.Hits.{hit_bytes}
use Rattle.ray_device.specs.declared.output.Output.{Output}
use Rattle.ray_device.specs.Fetching.{OnAnswered}
use Rattle.ray_action.specs.Outcomes.{Gives, Bytes, hit_by}
use Rattle.ray_device.specs.Bounds.{most_by, most_in}
use Rattle.ray_device.proofs.Hits.{answered_more, rays_more, rays_told, summed_more}
use Rattle.ray_device.proofs.tracing.hits.Goals as goal

pub returns-in-Err-clause-value : goal.returns-in-Err-clause-value
returns-in-Err-clause-value g c =
    let k = c.loop-k.k in
    let within : k < c.args.count = (let t = c.loop-k-test.true in grind (arith, nat_tests)) in
    rays_told (without_tree c.args.top.now) (structures_in c.args.bottoms.now) (g.C.Client.meaning c.args.client.now) c.args.options.flags c.args.options.mask c.args.rays.now c.args.options.number
    k c.args.count c.loop-k.out.items c.in-Err.fault c.loop-k.invariant.given
    (subst (λ (r : Option RayValue). IsHit (hit_by (g.C.Client.meaning c.args.client.now) (without_tree c.args.top.now) (structures_in c.args.bottoms.now) c.args.options.flags c.args.options.mask (c.args.options.number + k) r) (Err c.in-Err.fault))
    c.ray-ray.ensures c.in-Err.ensures.value)
    within

pub returns-in-Err-clause-bound : goal.returns-in-Err-clause-bound
returns-in-Err-clause-bound g c =
    let top = c.args.top.now in
    let bottoms = c.args.bottoms.now in
    let meaning = g.C.Client.meaning c.args.client.now in
    let k = c.loop-k.k in
    let within : k < c.args.count = (let t = c.loop-k-test.true in grind (arith, nat_tests)) in
    answered_more HitRecord Output (most_in top bottoms meaning c.args.options.flags c.args.options.mask c.args.rays.now c.args.options.number) k c.args.count c.args.steps.now c.loop-k.steps c.hit.new.steps
    c.in-Err.fault c.loop-k.invariant.bound
    (subst (λ (r : Option RayValue). OnAnswered {X = HitRecord} (Err c.in-Err.fault) (c.hit.new.steps ≤ c.loop-k.steps + most_by top bottoms meaning c.args.options.flags c.args.options.mask (c.args.options.number + k) r))
    c.ray-ray.ensures c.in-Err.ensures.bound)
    within

pub loop-k-preserved : goal.loop-k-preserved
loop-k-preserved g c =
    let top = c.args.top.now in
    let bottoms = c.args.bottoms.now in
    let meaning = g.C.Client.meaning c.args.client.now in
    let flags = c.args.options.flags in
    let mask = c.args.options.mask in
    let first = c.args.options.number in
    let k = c.loop-k.k in
    let so_far = c.loop-k.invariant in
    record {
      given =
          rays_more (without_tree top) (structures_in bottoms) meaning flags mask c.args.rays.now first k c.loop-k.out.items (hit_bytes c.in-Ok.hit) so_far.given
          (subst (λ (r : Option RayValue). IsHit (hit_by meaning (without_tree top) (structures_in bottoms) flags mask (first + k) r) (Ok c.in-Ok.hit)) c.ray-ray.ensures
          c.in-Ok.ensures.value)
          ∙ ap (λ (b : List ℕ). Gives (Bytes b)) (sym c.in_ok-push-in-Ok.ensures);
      rising = (let before = so_far.rising in let now = c.hit.ensures.rising in omega (arith, before, now));
      bound =
          summed_more (most_in top bottoms meaning flags mask c.args.rays.now first) k c.args.steps.now c.loop-k.steps c.hit.new.steps so_far.bound
          (subst (λ (r : Option RayValue). c.hit.new.steps ≤ c.loop-k.steps + most_by top bottoms meaning flags mask (first + k) r) c.ray-ray.ensures c.in-Ok.ensures.bound);
    }
