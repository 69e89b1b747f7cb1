use Rattle.std.proofs.Common.{◌++◌, ◌∷◌, ◌∙◌, ap, sym, string_bytes}
use Rattle.ray_scene.proofs.Texts.{full_barrier_text}
use Rattle.ray_scene.proofs.builds.add_full_barrier.Goals as goal

pub returns : goal.returns
returns c =
    c.in_ok-push_str.ensures.bytes ∙ ap (λ t. string_bytes c.args.text.now ++ 44 ∷ t) (sym full_barrier_text)
