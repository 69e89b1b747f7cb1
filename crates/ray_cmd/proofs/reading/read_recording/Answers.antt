use Rattle.ray_cmd.specs.Json.{json_of}
use Rattle.ray_cmd.proofs.Recorded.{recorded, refused}
use Rattle.ray_cmd.proofs.reading.read_recording.Goals as goal

pub returns-clause-ok : goal.returns-clause-ok
returns-clause-ok c = recorded (json_of c.args.bytes.now) _ c.reading.ensures

pub returns-clause-bad_shape : goal.returns-clause-bad_shape
returns-clause-bad_shape c = refused (json_of c.args.bytes.now) _ c.reading.ensures
