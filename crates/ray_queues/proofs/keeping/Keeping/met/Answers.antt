use Rattle.ray_queues.proofs.keeping.Keeping.met.Goals as goal

pub returns : goal.returns
returns c = λ q n z. c.met_in.ensures q n z.marks
