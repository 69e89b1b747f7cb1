use Rattle.ray_queues.proofs.Marking.{marks-none}
use Rattle.ray_queues.proofs.marks.Marks.new.Goals as goal

pub returns : goal.returns
returns c = λ q. marks-none q _ c.new.ensures.empty
