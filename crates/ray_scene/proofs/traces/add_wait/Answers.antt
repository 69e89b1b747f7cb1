use Rattle.std.proofs.Common.{◌∙◌, sym, string_bytes}
use Rattle.ray_scene.proofs.Texts.{wait_text}
use Rattle.ray_scene.proofs.traces.add_wait.Goals as goal

pub returns : goal.returns
returns c = c.in_ok-push_str.ensures.bytes ∙ sym (wait_text (string_bytes c.args.text.now))
