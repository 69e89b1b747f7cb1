use Rattle.std.proofs.Common.{ap}
use Rattle.ray_cmd.proofs.Utf8Json.{json_some, json_none}
use Rattle.ray_inputs.specs.Inputs.{or_no_json}
use Rattle.ray_inputs.proofs.json.json.Goals as goal

pub returns-in-Ok : goal.returns-in-Ok
returns-in-Ok c = ap or_no_json (json_some _ _ c.in-Ok.ensures.ok.0 c.in-Ok.ensures.ok.1)

pub returns-else-is_memory : goal.returns-else-is_memory
returns-else-is_memory c =
    ap or_no_json (json_none _ (c.in-Err.ensures.err (λ m. let t = c.is_memory.ensures.1 m in cc)))
