use Rattle.std.proofs.Common.{◌∙◌, [], ap, sym}
use Rattle.std.specs.Prelude.{unwrap_or}
use Rattle.ray_action.specs.Memory.{bytes_at}
use Rattle.ray_memory.specs.State.{memory_of}
use Rattle.vkray.specs.Counting.{shown_by}
use Rattle.vkray.proofs.counting.shown_by.Goals as goal

pub returns-in-Read : goal.returns-in-Read
returns-in-Read c =
    let m = memory_of c.args.state.now in
    c.bytes_if.ensures
    ∙ (ap (λ o. unwrap_or o [])
    (c.bytes.ensures ∙ (λ i. bytes_at m (record { buffer = c.in-Read.buffer; from = c.from.ensures i; size = c.from-in-Read.ensures i })))
    ∙ ap (shown_by m) (sym c.in-Read.is))
