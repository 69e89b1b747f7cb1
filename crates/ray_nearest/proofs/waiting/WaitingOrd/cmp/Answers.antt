use Rattle.std.proofs.Common.{rules, ◌≡◌, ◌∙◌, sym, ap}
use Rattle.std.specs.Ordering.{ordering_then}
use Rattle.std.specs.declared.cmp.Ordering.TheVariants.{Equal}
use Rattle.ray_geom.specs.Ratio.{ratio_cmp}
use Rattle.ray_nearest.specs.Turns.{turn_at}
use Rattle.ray_nearest.specs.TurnLaws.{tie_cmp, tie_of, turn_of}
use Rattle.ray_nearest.proofs.SameDistance.{same-waiting, then-first}
use Rattle.ray_nearest.proofs.waiting.WaitingOrd.cmp.Goals as goal

pub returns-in-Equal : goal.returns-in-Equal
returns-in-Equal c =
    let s = c.args.self.now in
    let o = c.args.other.now in
    let tie = tie_cmp (tie_of (turn_of o)) (tie_of (turn_of s)) in
    let told : c.cmp-in-Equal.result ≡ tie = search rules in
    let even : ratio_cmp o.at s.at ≡ Equal = search rules in
    told ∙ ap (λ r. ordering_then r tie) (sym (sym (same-waiting o s) ∙ even))

pub returns-in_default : goal.returns-in_default
returns-in_default c =
    let s = c.args.self.now in
    let o = c.args.other.now in
    let tie = tie_cmp (tie_of (turn_of o)) (tie_of (turn_of s)) in
    let told : c.cmp.result ≡ ratio_cmp o.at s.at = search rules in
    let at = told ∙ same-waiting o s in
    at ∙ sym (then-first (ratio_cmp (turn_at (turn_of o)) (turn_at (turn_of s))) tie (λ e. c.in_default.not-Equal (at ∙ e)))
