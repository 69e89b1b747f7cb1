use Rattle.std.proofs.Common.{◌∙◌, ◌-◌, ◌≤◌, sym, ap, subst}
use Rattle.std.specs.List.{sum_by}
use Rattle.std.specs.Map.{values_of}
use Rattle.ray_rules.specs.declared.live_buffer.LiveBuffer.{LiveBuffer}
use Rattle.ray_status.proofs.Sums.{sum-remove}
use Rattle.ray_status.proofs.status.Status.destroy_buffer.Goals as goal

pub overflow_sub-self : goal.overflow_sub-self
overflow_sub-self c =
    let removed = sum-remove (λ (b : LiveBuffer). b.size) c.self.inside.buffers.entries c.args.id c.in-Some.buffer c.in-Some.ensures.value in
    subst (λ n. c.in-Some.buffer.size ≤ n) (sym c.self.invariant) removed.0

pub invariant_of-self : goal.invariant_of-self
invariant_of-self c =
    let removed = sum-remove (λ (b : LiveBuffer). b.size) c.self.inside.buffers.entries c.args.id c.in-Some.buffer c.in-Some.ensures.value in
    ap (λ n. n - c.in-Some.buffer.size) c.self.invariant
    ∙ (removed.1 ∙ ap (λ es. sum_by (λ (b : LiveBuffer). b.size) (values_of es)) (sym c.in-Some.ensures.entries))
