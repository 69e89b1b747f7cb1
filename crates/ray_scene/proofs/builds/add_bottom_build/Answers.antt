use Rattle.std.proofs.Common.{string_bytes}
use Rattle.ray_scene.proofs.Texts.{bottom_build_text}
use Rattle.ray_scene.proofs.builds.add_bottom_build.Goals as goal

pub returns : goal.returns
returns c =
    bottom_build_text (string_bytes c.args.text.now) (string_bytes c.push_str.new.self)
    (string_bytes c.add_triangles.new.text) (string_bytes c.add_further_triangles.new.text)
    (string_bytes c.push_str-2.new.self) c.args.side c.args.layers c.requires.begins
    c.in_ok-push_str.ensures.bytes c.in_ok-add_triangles.ensures c.in_ok-add_further_triangles.ensures
    c.in_ok-push_str-2.ensures.bytes
