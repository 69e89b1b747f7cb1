use Rattle.std.proofs.Common.{◌++◌, ◌∷◌, ◌∙◌, ap, sym, string_bytes}
use Rattle.ray_scene.proofs.Texts.{read_text}
use Rattle.ray_scene.proofs.traces.add_read.Goals as goal

pub returns : goal.returns
returns c =
    c.in_ok-write.ensures.bytes
    ∙ ap (λ t. string_bytes c.args.text.now ++ 44 ∷ t)
    (sym (read_text c.args.rays c.hits_offset-offset.result c.hits_offset-offset.ensures))
