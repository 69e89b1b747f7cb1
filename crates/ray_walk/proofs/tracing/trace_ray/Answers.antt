use Rattle.std.proofs.Common.{subst, sym, ◌∙◌}
use Rattle.ray_walk.specs.Sound.{IsWalkable}
use Rattle.ray_walk.specs.Traced.{traced_by}
use Rattle.ray_walk.proofs.Answering.{other-answer}
use Rattle.ray_walk.proofs.WideAnswer.{is-wide-scene, trace-answer, trace-bound}
use Rattle.ray_walk.proofs.tracing.trace_ray.Goals as goal

pub walk-requires : goal.walk-requires
walk-requires g c = record { scene = is-wide-scene c.new-scene.result (subst IsWalkable (sym c.new-scene.ensures) c.known.ensures) }

pub returns-clause-answer : goal.returns-clause-answer
returns-clause-answer g c =
    let a = c.args in
    other-answer c.walk.result _ _
    (trace-answer c.new-scene.result (traced_by a.top.now a.bottoms.now a.ray.now a.options.flags a.options.mask)
    (subst IsWalkable (sym c.new-scene.ensures) c.known.ensures) (c.new-scene.ensures ∙ c.new-view.ensures)
    (g.C.Client.meaning a.client.now) a.options.number) c.walk.ensures.answer

pub returns-clause-bound : goal.returns-clause-bound
returns-clause-bound g c =
    let a = c.args in
    trace-bound c.new-scene.result (traced_by a.top.now a.bottoms.now a.ray.now a.options.flags a.options.mask)
    (subst IsWalkable (sym c.new-scene.ensures) c.known.ensures) (c.new-scene.ensures ∙ c.new-view.ensures)
    c.walk.result a.steps.now c.walk.new.steps c.walk.ensures.bound
