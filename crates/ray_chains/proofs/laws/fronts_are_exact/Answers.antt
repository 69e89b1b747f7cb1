use Rattle.ray_chains.specs.Queues.{Node}
use Rattle.ray_chains.proofs.Fronts.{fronts-are-bounded, fronts-are-exact, fronts-go-through, later-steps-count}
use Rattle.ray_chains.proofs.laws.fronts_are_exact.Goals as goal

pub returns : goal.returns
returns c = record {
  exact = fronts-are-exact Node;
  bounded = fronts-are-bounded Node;
  through = fronts-go-through Node Node;
  later = later-steps-count Node;
}
