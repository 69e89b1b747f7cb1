use Rattle.serde_json.specs.View.{items_view}
use Rattle.ray_cmd.proofs.Recorded.{is_json}
use Rattle.ray_cmd.proofs.reading.recording_of.Goals as goal

pub returns-in-Some-clause-json : goal.returns-in-Some-clause-json
returns-in-Some-clause-json c = is_json (items_view c.as_slice.result.now) c.recording.result c.recording.ensures
