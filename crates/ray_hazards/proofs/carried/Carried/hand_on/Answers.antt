use Rattle.std.proofs.Common.{None, ap, refl}
use Rattle.ray_chains.specs.Queues.{acts_on_all}
use Rattle.ray_hazards.specs.Carrying.{kept_of}
use Rattle.ray_hazards.proofs.Carrying.{kept-still}
use Rattle.ray_hazards.proofs.carried.Carried.hand_on.Goals as goal

pub returns : goal.returns
returns c = λ a source queue are event direct is. record {
  all = c.barrier_on_all-self.ensures.next a.events source queue None event refl direct is.all;
  kept = λ made.
      kept-still a source queue c.args.n made (kept_of c.args.self.now made) are (ap acts_on_all event) (is.kept made);
}
