use Rattle.std.proofs.Common.{ℕ, List, Option, subst}
use Rattle.std.specs.Prelude.{IfOk, IsSomeAnd, IsTrue, ◌↔◌}
use Rattle.ray_certify.specs.Rays.{traced_ray}
use Rattle.ray_certify.specs.Scenes.{seen_in}
use Rattle.ray_certify.specs.Verified.{IsCertified}
use Rattle.ray_certify.proofs.verifying.is_next_certified.Goals as goal

pub returns-in-Some-clause-value : goal.returns-in-Some-clause-value
returns-in-Some-clause-value g c =
    let a = c.args in
    subst (λ (o : Option (List ℕ)). IfOk c.is_certified.result (λ is. IsTrue is ↔ IsSomeAnd o (IsCertified (traced_ray a.way (g.C.Client.meaning a.client.now) (seen_in a.seen.now) a.number))))
    c.in-Some.ensures.value c.is_certified.ensures.value
