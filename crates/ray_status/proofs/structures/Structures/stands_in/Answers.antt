use Rattle.std.proofs.Common.{◌∙◌, ap}
use Rattle.std.specs.List.{list_any}
use Rattle.std.specs.Map.{values_of}
use Rattle.std.specs.Prelude.{◌==◌}
use Rattle.ray_ranges.specs.Places.{holds_any}
use Rattle.ray_rules.specs.Buffers.{stands_in}
use Rattle.ray_status.proofs.Placing.{any-places}
use Rattle.ray_status.proofs.structures.Structures.stands_in.Goals as goal

pub returns : goal.returns
returns c =
    c.holds_any.ensures
    ∙ (ap (λ ps. holds_any ps c.args.buffer) c.self.invariant
    ∙ (any-places (λ p. p.space == c.args.buffer) c.self.inside.named.entries
    ∙ ap (λ es. list_any (stands_in c.args.buffer) (values_of es)) c.self.view_is))
