use Rattle.std.proofs.Common.{string_bytes}
use Rattle.ray_scene.proofs.Texts.{triangles_text}
use Rattle.ray_scene.proofs.builds.add_triangles.Goals as goal

pub returns : goal.returns
returns c =
    triangles_text (string_bytes c.args.text.now) (string_bytes c.write.new.self) (string_bytes c.write-2.new.self)
    (string_bytes c.write-3.new.self) (string_bytes c.write-4.new.self) c.args.comma.now
    c.args.side c.args.layers c.args.layer
    c.triangle_count-count.result c.index_offset-index.result c.vertex_count.result c.index_offset-vertex.result
    c.triangle_count-count.ensures c.index_offset-index.ensures c.vertex_count.ensures c.index_offset-vertex.ensures
    c.in_ok-write.ensures.bytes c.in_ok-write-2.ensures.bytes c.in_ok-write-3.ensures.bytes
    c.in_ok-write-4.ensures.bytes
