use Rattle.std.proofs.Common.{string_bytes}
use Rattle.ray_scene.proofs.Texts.{filled_buffer_text}
use Rattle.ray_scene.proofs.buffers.add_filled_buffer.Goals as goal

pub returns : goal.returns
returns c =
    filled_buffer_text c.args.text.now.items c.push.new.self.items c.extend_from_slice.new.self.items
    c.add_digits.new.text.items (string_bytes c.in_ok-end.end) c.as_bytes.result.now
    c.extend_from_slice-2.new.self.items
    c.args.before c.args.id c.args.size c.args.usage.now c.args.words.now c.requires
    c.in_ok-push.ensures.items c.in_ok-extend_from_slice.ensures.items c.in_ok-add_digits.ensures
    c.in_ok-end.ensures.ok c.as_bytes.ensures.value c.in_ok-extend_from_slice-2.ensures.items
