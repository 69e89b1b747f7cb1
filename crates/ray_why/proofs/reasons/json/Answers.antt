use Rattle.ray_cmd.proofs.Utf8Json.{json_some}
use Rattle.ray_why.proofs.Readings.{error_tells}
use Rattle.ray_why.proofs.reasons.json.Goals as goal

pub returns-in-Ok-clause-ok : goal.returns-in-Ok-clause-ok
returns-in-Ok-clause-ok c = json_some _ _ c.in-Ok.ensures.ok.0 c.in-Ok.ensures.ok.1

pub returns-in-Err-clause-err : goal.returns-in-Err-clause-err
returns-in-Err-clause-err c = error_tells c.told_by.result c.in-Err.error c.args.bytes.now c.told_by.ensures c.in-Err.ensures.err
