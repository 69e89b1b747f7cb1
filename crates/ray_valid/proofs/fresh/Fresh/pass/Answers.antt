use Rattle.std.proofs.Common.{◌≡◌, ◌∙◌, None, ap, subst, sym}
use Rattle.std.proofs.lemmas.Result.{on_ok_weaker}
use Rattle.ray_rules.specs.Sources.{first_stale, v21}
use Rattle.ray_rules.specs.Status.{after, built_at}
use Rattle.ray_valid.specs.Parts.{AreFresh}
use Rattle.ray_valid.proofs.Staying.{fresh-more}
use Rattle.ray_valid.proofs.fresh.Fresh.pass.Goals as goal

pub returns-in-Trace : goal.returns-in-Trace
unfolding v21 after
returns-in-Trace c =
    let t = c.in-Trace in
    let old = c.args.self.now.tops.keys in
    let new = c.put.new.ids.keys in
    on_ok_weaker c.put.result (λ added rec z n kept are.
    let here : first_stale rec z (built_at z t.top) ≡ None = sym (ap (v21 rec z) t.is) ∙ kept in
    subst (λ s. AreFresh rec s new) (sym (ap (λ k. after n k z) t.is)) (fresh-more rec z old new t.top added here are))
    c.put.ensures
