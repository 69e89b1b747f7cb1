use Rattle.std.proofs.Common.{◌∙◌}
use Rattle.std.proofs.lemmas.Result.{on_ok_weaker}
use Rattle.ray_hazards.specs.Carrying.{kept_of, put_all}
use Rattle.ray_hazards.proofs.Carrying.{carried-limited}
use Rattle.ray_hazards.proofs.carried.Carried.limit_to.Goals as goal

pub returns : goal.returns
returns c =
    on_ok_weaker c.put.result (λ put a source queue ids are event direct named chains is.
    carried-limited a source queue c.args.n c.args.self.now c.put.new.self c.in_ok-limits.limits.items c.args.makers.now ids _
    event named c.in_ok-limits.ensures.makers
    (c.in_ok-limits.ensures.limits a source queue ids are event direct named chains is) c.put.ensures.all
    (λ made. put made ∙ (λ i. put_all (c.as_slice.ensures.value i) (kept_of c.args.self.now) made)) is) c.put.ensures.put
