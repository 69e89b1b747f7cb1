use Rattle.serde_json.specs.View.{items_view}
use Rattle.ray_submits.proofs.Queued.{answer-queued}
use Rattle.ray_submits.proofs.entries.submits.Goals as goal

pub returns-in-Some-clause-queues : goal.returns-in-Some-clause-queues
returns-in-Some-clause-queues c = answer-queued (items_view c.as_slice.result.now) c.entries.result c.entries.ensures
