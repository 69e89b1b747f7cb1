use Rattle.std.proofs.Common.{◌+◌, ◌∙◌, sym, ap}
use Rattle.std.specs.List.{sum_by}
use Rattle.std.specs.Map.{values_of}
use Rattle.ray_rules.specs.declared.live_buffer.LiveBuffer.{LiveBuffer}
use Rattle.ray_rules.specs.Ids.{look}
use Rattle.ray_rules.specs.Status.{Status}
use Rattle.ray_status.proofs.Sums.{sum-insert}
use Rattle.ray_status.proofs.status.Status.make_buffer.Goals as goal

pub invariant_of-self-2 : goal.invariant_of-self-2
invariant_of-self-2 c =
    let old = c.self.inside.buffers in
    ap (λ n. n + c.args.made.size) c.self.invariant
    ∙ (sum-insert (λ (b : LiveBuffer). b.size) old.entries c.args.id c.args.made c.insert.ensures.was_ordered (ap (λ (z : Status). look z.buffers c.args.id) c.self.view_is ∙ c.requires.free)
    ∙ ap (λ es. sum_by (λ (b : LiveBuffer). b.size) (values_of es)) (sym c.in_ok-insert.ensures.entries))
