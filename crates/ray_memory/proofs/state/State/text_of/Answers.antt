use Rattle.std.proofs.Common.{[], ◌≡◌, sym, ap, subst, ◌∙◌}
use Rattle.std.specs.Prelude.{IsSome, unwrap_or}
use Rattle.ray_rules.specs.declared.byte_range.ByteRange.{ByteRange}
use Rattle.ray_rules.specs.Ranges.{range}
use Rattle.ray_action.specs.Memory.{bytes_at}
use Rattle.ray_action.specs.Clients.{Meaning}
use Rattle.ray_action.specs.Outcomes.{outcome_of}
use Rattle.ray_action.specs.Pieces.{host_action}
use Rattle.ray_action.specs.Running.{text_with}
use Rattle.ray_action.specs.Text.{bytes_text}
use Rattle.ray_memory.specs.State.{memory_of}
use Rattle.ray_memory.proofs.Texts.{read-ready, read-text, if-ok}
use Rattle.ray_memory.proofs.state.State.text_of.Goals as goal

pub read-requires : goal.read-requires
read-requires c =
    let m = memory_of c.args.self.now in
    let r : range c.in-Read.buffer c.in-Read.offset c.in-Read.size ≡ record { buffer = c.in-Read.buffer; from = c.from.result; size = c.from-in-Read.result } =
    λ i. record { buffer = c.in-Read.buffer; from = sym c.from.ensures i; size = sym c.from-in-Read.ensures i } in
    subst (λ (s : ByteRange). IsSome (bytes_at m s)) r
    (read-ready c.args.command.now c.in-Read.buffer c.in-Read.offset c.in-Read.size c.in-Read.form m c.in-Read.is c.requires)

pub returns-in-Read : goal.returns-in-Read
returns-in-Read c =
    let m = memory_of c.args.self.now in
    let r : range c.in-Read.buffer c.in-Read.offset c.in-Read.size ≡ record { buffer = c.in-Read.buffer; from = c.from.result; size = c.from-in-Read.result } =
    λ i. record { buffer = c.in-Read.buffer; from = sym c.from.ensures i; size = sym c.from-in-Read.ensures i } in
    let text = λ (meaning : Meaning). read-text meaning c.args.command.now c.in-Read.buffer c.in-Read.offset c.in-Read.size c.in-Read.form m c.in-Read.is c.requires in
    if-ok c.read.result
    (λ t. t.items ≡ bytes_text c.in-Read.form (unwrap_or (bytes_at m (record { buffer = c.in-Read.buffer; from = c.from.result; size = c.from-in-Read.result })) []))
    (λ t. (meaning : Meaning) → t.items ≡ text_with (host_action c.args.command.now) (outcome_of meaning (host_action c.args.command.now) m))
    (λ t is meaning. is ∙ sym (text meaning ∙ ap (λ (s : ByteRange). bytes_text c.in-Read.form (unwrap_or (bytes_at m s) [])) r))
    c.read.ensures
