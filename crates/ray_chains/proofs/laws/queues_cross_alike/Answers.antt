use Rattle.ray_chains.proofs.Across.{crosses-alike, far-alike, sent-alike, signals-alike, signals-carry}
use Rattle.ray_chains.proofs.laws.queues_cross_alike.Goals as goal

pub returns : goal.returns
returns c = record {
  crosses = crosses-alike;
  far = far-alike;
  sent = sent-alike;
  signals = signals-alike;
  carry = signals-carry;
}
