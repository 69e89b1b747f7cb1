use Rattle.std.proofs.Common.{ℕ, ◌<◌, ◌^◌, sym, ap, subst, ◌∙◌}
use Rattle.ray_serial.specs.Written.{form_size}
use Rattle.ray_serial.specs.TopWritten.{top_payload}
use Rattle.ray_serial.proofs.TopSteps.{top_few}
use Rattle.ray_serial.proofs.top_writing.top_form.Goals as goal

pub form_bytes-requires : goal.form_bytes-requires
form_bytes-requires c =
    let first = c.as_slice.ensures.value ∙ c.in_ok-handles.ensures.value in
    let handles = c.as_slice-2.ensures.value ∙ c.in_ok-handles.ensures.value in
    let payload = c.as_slice-3.ensures.value ∙ (c.in_ok-payload.ensures ∙ ap (λ hs. top_payload hs c.args.top.now.contents) first) in
    let P : ℕ → Type 0 = λ n. n < 2 ^ 64 in
    subst P (sym (λ i. form_size (handles i) (payload i))) (top_few c.args.top.now.contents c.len.ensures.limits.count)
