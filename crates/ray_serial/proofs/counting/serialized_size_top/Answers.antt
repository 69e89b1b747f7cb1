use Rattle.std.proofs.Common.{sym, ◌∙◌, ◌+◌, ◌*◌}
use Rattle.ray_serial.proofs.TopSteps.{length-top_form}
use Rattle.ray_serial.proofs.counting.serialized_size_top.Goals as goal

pub returns : goal.returns
returns c =
    let handles = c.from.ensures ∙ c.handle_count.ensures in
    let len = c.from-2.ensures ∙ c.len.ensures.value in
    (λ i. 104 + 8 * handles i + 64 * len i) ∙ sym (length-top_form c.args.top.now.contents)
