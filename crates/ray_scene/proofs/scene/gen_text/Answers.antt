use Rattle.std.proofs.Common.{◌+◌, ◌++◌, ◌∷◌, ◌∙◌, ap, codes}
use Rattle.serde_json.specs.Data.{Data}
use Rattle.serde_json.specs.Written.{compact_text}
use Rattle.ray_scene.specs.Grid.{input_words, rays_words}
use Rattle.ray_scene.specs.Recording.{bottom_size, filled_buffer, inputs_size, rays_size, scene_text, scratch_size, top_size}
use Rattle.ray_scene.specs.Text.{added, commands, empty_buffers, next}
use Rattle.ray_scene.proofs.Texts.{whole_text}
use Rattle.ray_scene.proofs.scene.gen_text.Goals as goal

pub returns : goal.returns
unfolding scene_text
returns c =
    let side = c.args.side in
    let layers = c.args.layers in
    let rays = c.args.rays in
    let first : Data = filled_buffer 0 (inputs_size side layers) (codes "input") (input_words side layers) in
    let filled : Data = filled_buffer 3 (rays_size rays) (codes "storage") (rays_words side rays) in
    let inputs = c.in_ok-add_inputs.ensures ∙ ap (λ t. t ++ 91 ∷ compact_text first) c.new-text.ensures.items in
    let empty =
    c.in_ok-add_empty_buffers.ensures
    ∙ (λ i. added (inputs i) (empty_buffers
    (c.bottom_size.ensures.value i + c.top_size.ensures.value i) (c.scratch_size.ensures i))) in
    let buffers = c.in_ok-add_rays_and_hits.ensures ∙ ap (λ t. t ++ next filled) empty in
    let all = c.in_ok-add_commands.ensures ∙ ap (λ t. added t (commands side layers rays)) buffers in
    c.in_ok-extend_from_slice.ensures.items
    ∙ (ap (λ t. t ++ codes "]\n") all
    ∙ whole_text first (empty_buffers (bottom_size side layers + top_size) (scratch_size side layers)
    ++ (filled ∷ commands side layers rays)))
