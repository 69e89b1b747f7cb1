use Rattle.std.proofs.Common.{string_bytes}
use Rattle.ray_scene.proofs.Texts.{empty_buffers_text}
use Rattle.ray_scene.proofs.buffers.add_empty_buffers.Goals as goal

pub returns : goal.returns
returns c =
    empty_buffers_text c.args.text.now.items (string_bytes c.new-buffers.result) (string_bytes c.write.new.self)
    (string_bytes c.write-2.new.self) c.as_bytes.result.now c.extend_from_slice.new.self.items
    c.args.structures c.args.scratch c.new-buffers.ensures.bytes c.in_ok-write.ensures.bytes
    c.in_ok-write-2.ensures.bytes c.as_bytes.ensures.value c.in_ok-extend_from_slice.ensures.items
