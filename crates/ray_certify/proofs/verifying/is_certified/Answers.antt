use Rattle.std.proofs.Common.{Option, Some, ap, sym, subst, ◌∙◌}
use Rattle.std.specs.Prelude.{IfOk, IsTrue, ◌↔◌, option_map}
use Rattle.ray_certify.specs.declared.seen.Seen.{Seen}
use Rattle.ray_certify.specs.Rays.{SeenRay, traced_ray}
use Rattle.ray_certify.specs.Scenes.{ray_seen, seen_in}
use Rattle.ray_certify.specs.Verified.{IsCertified, IsCertifiedIn}
use Rattle.ray_certify.proofs.verifying.is_certified.Goals as goal

pub returns-in-Some-ray_at-clause-value : goal.returns-in-Some-ray_at-clause-value
returns-in-Some-ray_at-clause-value g c =
    let a = c.args in
    let meaning = g.C.Client.meaning a.client.now in
    subst (λ (o : Option Seen). IfOk c.certifies.result (λ is. IsTrue is ↔ IsCertified (traced_ray a.way meaning (seen_in o) a.number) a.line.now)) (sym c.in-Some.is)
    (subst (λ (q : Option SeenRay). IfOk c.certifies.result (λ is. IsTrue is ↔ IsCertifiedIn (traced_ray a.way meaning (seen_in (Some c.in-Some.seen)) a.number) q a.line.now))
    (sym (ap (option_map (ray_seen c.in-Some.seen)) (sym c.ray_at.ensures ∙ c.in-Some-ray_at.is))) c.certifies.ensures.value)
