use Rattle.std.proofs.Common.{◌≡◌, ◌∙◌, ◌+◌, Some, None, ap, drop, subst, sym}
use Rattle.std.specs.Prelude.{IfNone}
use Rattle.ray_rules.specs.Refusals.{AreKept, static_refusal_from, static_refusal_of, static_table}
use Rattle.ray_valid.specs.Parts.{AreFresh}
use Rattle.ray_valid.proofs.Going.{stops, goes_on, not_some}
use Rattle.ray_valid.proofs.Staying.{v21-kept}
use Rattle.ray_valid.proofs.checking.check_static.Goals as goal

pub returns-in-Some-clause-value : goal.returns-in-Some-clause-value
returns-in-Some-clause-value c =
    let l = c.loop-i in
    let refused : static_refusal_of c.args.rec.now l.i l.status c.command-command.result.now ≡ Some c.in-Some.refusal = sym c.in_ok-refusal.ensures.value ∙ c.in-Some.is in
    sym (stops c.args.rec.now l.i l.status c.command-command.result.now c.in-Some.refusal c.command-command.ensures refused) ∙ l.invariant.rest

pub loop-i-preserved : goal.loop-i-preserved
loop-i-preserved c =
    let l = c.loop-i in
    let rec = c.args.rec.now in
    let command = c.command-command.result.now in
    let none = not_some _ c.in_default.not-Some in
    let kept : static_refusal_of rec l.i l.status command ≡ None = sym c.in_ok-refusal.ensures.value ∙ none in
    let all : AreKept (static_table rec l.status command) =
    subst (λ o. IfNone o (AreKept (static_table rec l.status command))) none c.in_ok-refusal.ensures.kept
    in
    record {
      rest = ap (λ z. static_refusal_from rec (l.i + 1) z (drop (l.i + 1) rec)) c.in_ok-step.ensures
          ∙ (sym (goes_on rec l.i l.status command c.command-command.ensures kept) ∙ l.invariant.rest);
      fresh = subst (λ z. AreFresh rec z c.pass.new.self.tops.keys) (sym c.in_ok-step.ensures)
          (c.in_ok-pass.ensures rec l.status l.i (v21-kept rec l.status command all) l.invariant.fresh);
    }
