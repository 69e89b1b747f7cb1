use Rattle.std.proofs.Common.{◌∙◌, sym}
use Rattle.ray_queues.proofs.sources.Sources.at.Goals as goal

pub returns : goal.returns
returns c = λ q from at n z. record {
  transfer = z.transfer.at c.args.to ∙ sym c.at.ensures.value;
  build = z.build.at c.args.to ∙ sym c.at-2.ensures.value;
  structure_copy = z.structure_copy.at c.args.to ∙ sym c.at-3.ensures.value;
  compute = z.compute.at c.args.to ∙ sym c.at-4.ensures.value;
}
