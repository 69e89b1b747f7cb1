use Rattle.std.proofs.Common.{ap}
use Rattle.ray_chains.specs.Queues.{acts_on_all, everywhere}
use Rattle.ray_hazards.specs.Carrying.{kept_of}
use Rattle.ray_hazards.proofs.Carrying.{kept-still}
use Rattle.ray_hazards.proofs.carried.Carried.begin.Goals as goal

pub returns : goal.returns
returns c = λ a source queue n waits are event met is. record {
  all =
      c.on_device-self.ensures.begin (everywhere a.events) a.events source queue n waits event (ap acts_on_all event) met
      is.all;
  kept = λ made. kept-still a source queue n made (kept_of c.args.self.now made) are (ap acts_on_all event) (is.kept made);
}
