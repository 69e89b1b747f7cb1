use Rattle.std.proofs.Common.{◌≤◌, length, subst, sym, arith}
use Rattle.ray_action.specs.Clients.{scripts}
use Rattle.ray_ready.specs.Accepted.{refused_from}
use Rattle.ray_rules.specs.Order.{barriers}
use Rattle.vkray.proofs.certificates.certify_all.Goals as goal

pub certify-requires-clause-rules : goal.certify-requires-clause-rules
certify-requires-clause-rules g c κs inside =
    let rec = c.args.recording.now in
    let kept = c.unrefused_break_no_rule.ensures (barriers rec) (scripts rec) (length rec) (subst (λ r. length rec ≤ refused_from (length rec) r) (sym c.requires) (omega arith)) in
    record { each = λ i command less is. (kept.accepted.each i command less is).rules }
