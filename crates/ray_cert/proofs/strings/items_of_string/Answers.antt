use Rattle.std.proofs.Common.{◌∙◌, ap}
use Rattle.ray_tree.specs.Trees.{shape_at}
use Rattle.ray_cert.specs.Checking.{behind, is_met_in, taken_of}
use Rattle.ray_cert.proofs.Taking.{whole-left}
use Rattle.ray_cert.proofs.strings.items_of_string.Goals as goal

pub returns-then-after-digits-clause-value : goal.returns-then-after-digits-clause-value
returns-then-after-digits-clause-value g c =
    let a = c.args in
    let taken = taken_of (is_met_in a.object.now a.limit.now a.tree.now) a.tree.now.order (shape_at a.tree.now 0) a.digits.now in
    whole-left c.take_root.new.items.items a.digits.now c.in_ok-take_root.field-0 c.in-Some.after taken
    (c.in_ok-take_root.ensures.value ∙ ap (λ zs. behind zs taken) c.new-items.ensures.items) c.in-Some.is c.if-after-digits.true
