use Rattle.ray_queues.specs.Events.{timeline_point}
use Rattle.ray_queues.proofs.Marking.{met-mark, other-number}
use Rattle.ray_queues.proofs.marks.Marks.met_by.Goals as goal

pub returns-else-wait-eq0 : goal.returns-else-wait-eq0
returns-else-wait-eq0 c = λ q n are.
    met-mark q n (timeline_point c.args.wait.now) c.args.self.now _ c.numbers_in.result
    (other-number c.args.wait.now.value 0 c.if-wait-eq0.false) c.find.ensures c.numbers_in.ensures are
