use Rattle.std.proofs.Common.{string_bytes}
use Rattle.ray_scene.proofs.Texts.{trace_text}
use Rattle.ray_scene.proofs.traces.add_trace.Goals as goal

pub returns : goal.returns
returns c =
    trace_text (string_bytes c.args.text.now) (string_bytes c.write.new.self) (string_bytes c.push_str.new.self)
    c.args.rays c.hits_offset-hits.result c.hits_offset-hits.ensures c.in_ok-write.ensures.bytes
    c.in_ok-push_str.ensures.bytes
