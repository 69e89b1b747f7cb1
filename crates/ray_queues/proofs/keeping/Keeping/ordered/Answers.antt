use Rattle.ray_queues.proofs.keeping.Keeping.ordered.Goals as goal

pub returns : goal.returns
returns c = λ low q n z. c.at.ensures q c.args.queue n (c.of.ensures low q n z.targets)
