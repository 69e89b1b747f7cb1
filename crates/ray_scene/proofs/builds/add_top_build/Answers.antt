use Rattle.std.proofs.Common.{string_bytes}
use Rattle.ray_scene.proofs.Texts.{top_build_text}
use Rattle.ray_scene.proofs.builds.add_top_build.Goals as goal

pub returns : goal.returns
returns c =
    top_build_text (string_bytes c.args.text.now) (string_bytes c.write.new.self) (string_bytes c.push_str.new.self)
    (string_bytes c.push_str-2.new.self) c.args.side c.args.layers c.instance_offset-data.result
    c.instance_offset-data.ensures c.in_ok-write.ensures.bytes c.in_ok-push_str.ensures.bytes
    c.in_ok-push_str-2.ensures.bytes
