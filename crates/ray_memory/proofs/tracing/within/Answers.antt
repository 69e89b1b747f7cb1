use Rattle.std.proofs.Common.{◌≡◌, ◌∙◌, ap}
use Rattle.ray_geom.specs.Scene.{RayValue, ray_value}
use Rattle.ray_geom.specs.Decided.{where_so, ray_decided}
use Rattle.ray_action.specs.Outcomes.{recorded_ray}
use Rattle.ray_memory.proofs.Rays.{where_so-SomeIff, within_is}
use Rattle.ray_memory.proofs.tracing.within.Goals as goal

pub returns : goal.returns
returns c =
    let r = c.args.read in
    let read : RayValue = ray_value c.from_words.result c.from_words-2.result r.tmin r.tmax in
    let same : read ≡ recorded_ray r = λ i. ray_value (c.from_words.ensures i) (c.from_words-2.ensures i) r.tmin r.tmax in
    where_so-SomeIff (ray_decided read) c.new.result read c.new.ensures
    ∙ (ap (λ (r : RayValue). where_so (ray_decided r) r) same
    ∙ within_is r)
