use Rattle.ray_queue_check.proofs.kept.Kept.new.Goals as goal

pub returns : goal.returns
returns c = λ q starts. record {
  lanes = c.none.ensures q starts;
  everywhere = c.new.ensures q;
  keeping = c.new-2.ensures q;
}
