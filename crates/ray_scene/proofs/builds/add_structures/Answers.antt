use Rattle.std.proofs.Common.{string_bytes}
use Rattle.ray_scene.proofs.Texts.{structures_text}
use Rattle.ray_scene.proofs.builds.add_structures.Goals as goal

pub returns : goal.returns
returns c =
    structures_text (string_bytes c.args.text.now) (string_bytes c.write.new.self) (string_bytes c.write-2.new.self)
    c.args.bottom c.args.top c.in_ok-write.ensures.bytes c.in_ok-write-2.ensures.bytes
