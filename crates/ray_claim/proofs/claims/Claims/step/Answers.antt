use Rattle.std.proofs.Common.{rules, ◌∙◌, ap, sym}
use Rattle.ray_claim.proofs.Steps.{draws_at}
use Rattle.ray_claim.proofs.claims.Claims.step.Goals as goal

pub fetch_add-found-requires : goal.fetch_add-found-requires
fetch_add-found-requires g c = (
  search rules,
  search rules,
  draws_at _ _ _ _ _ (c.requires.limit ∙ sym (c.self.invariant.2 ∙ ap (λ v. v.n) c.self.view_is)) (search rules) (search rules) (search rules),
)
