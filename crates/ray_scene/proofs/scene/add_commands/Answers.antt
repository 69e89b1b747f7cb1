use Rattle.std.proofs.Common.{string_bytes}
use Rattle.ray_scene.proofs.Texts.{commands_text}
use Rattle.ray_scene.proofs.scene.add_commands.Goals as goal

pub returns : goal.returns
returns c =
    commands_text c.args.text.now.items (string_bytes c.new-commands.result)
    (string_bytes c.add_structures.new.text) (string_bytes c.add_builds.new.text)
    (string_bytes c.add_traces.new.text) c.as_bytes.result.now c.extend_from_slice.new.self.items
    c.args.side c.args.layers c.args.rays c.bottom_size.result c.top_size.result
    c.bottom_size.ensures.value c.top_size.ensures.value
    c.new-commands.ensures.bytes c.in_ok-add_structures.ensures c.in_ok-add_builds.ensures
    c.in_ok-add_traces.ensures c.as_bytes.ensures.value c.in_ok-extend_from_slice.ensures.items
