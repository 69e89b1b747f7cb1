use Rattle.std.proofs.Common.{◌≡◌, ◌+◌, subst}
use Rattle.std.proofs.lemmas.Result.{on_ok_weaker}
use Rattle.ray_walk.specs.Traced.{Traced, tests}
use Rattle.ray_walk.specs.WideScene.{narrow}
use Rattle.ray_walk.proofs.Pushing.{same-tests}
use Rattle.ray_walk.proofs.ray_scene.RaySceneScene.open.Goals as goal

pub returns-clause-steps : goal.returns-clause-steps
returns-clause-steps g c =
    let n = c.args.node in
    let now = c.args.steps.now in
    let later = c.open.new.steps in
    on_ok_weaker c.open.result
    (λ steps. same-tests c.args.self.now n now later (subst (λ (s : Traced). later ≡ now + tests s (narrow s n)) c.self.view_is steps)) c.open.ensures.steps
