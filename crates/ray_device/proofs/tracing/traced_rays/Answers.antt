use Rattle.std.proofs.Common.{subst, ◌∙◌}
use Rattle.ray_action.specs.Outcomes.{Outcome}
use Rattle.ray_top.specs.Trees.{without_tree}
use Rattle.ray_memory.specs.State.{memory_of}
use Rattle.ray_device.specs.Fetching.{IsFetched}
use Rattle.ray_action.specs.Traceable.{bottoms_of}
use Rattle.ray_device.specs.Tracing.{rays_outcome, traced_through}
use Rattle.ray_device.proofs.tracing.traced_rays.Goals as goal

pub returns-clause-value : goal.returns-clause-value
returns-clause-value g c =
    let a = c.args in
    let rays = c.in-Some-Some.rays.now in
    let top = without_tree c.in-Some-Some.top.now in
    subst (λ (o : Outcome). IsFetched o c.hits.result)
    ((λ i. rays_outcome top (λ id. c.bottoms-bottoms.ensures.value id i) (g.C.Client.meaning a.client.now) a.options.flags a.options.mask rays a.options.number a.count)
    ∙ (λ i. traced_through (bottoms_of (memory_of a.state.now)) (c.in-Some-Some.ensures i) (c.in-Some-Some.ensures'.value i) a.options.number a.count a.options.flags a.options.mask (g.C.Client.meaning a.client.now)))
    c.hits.ensures.value
