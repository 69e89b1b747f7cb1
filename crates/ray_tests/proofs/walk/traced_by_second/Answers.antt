use Rattle.std.proofs.Common.{rules, ◌≡◌, ◌==◌, true, refl}
use Rattle.std.specs.Prelude.{if◌then◌else◌}
use mathlib.Core.Logic.{inl, inr}
use Rattle.ray_query.specs.declared.candidate.Candidate.{Candidate}
use Rattle.ray_query.specs.declared.decision.Decision.TheVariants.{Confirm, Ignore}
use Rattle.ray_query.specs.Deciding.{GivesOne, MayGive, fits}
use Rattle.ray_tests.proofs.walk.traced_by_second.OwnLists as lists
use Rattle.ray_tests.proofs.walk.traced_by_second.Goals as goal

-- what the function of each entry gives is one decision
abbrev DecidesAt : (v : lists.own-1.I) → (lists.own-1.entry v).0.Denot → Type 0
DecidesAt v w = (c : Candidate) → fits c ≡ true → GivesOne (MayGive (λ p d. (lists.own-1.entry v).1.post w (p, tt) d) c)

decides_at : (v : lists.own-1.I) (w : (lists.own-1.entry v).0.Denot) → DecidesAt v w
decides_at (inl x) w = λ c fit. record {
  decision = if c.nth == 1 then Confirm else Ignore;
  given = ∣ (record { ref_ptr = (0, 0); now = c }, refl, search rules) ∣₁;
  only = λ d (p, at, says). search rules;
}
decides_at (inr x) w = absurd x

pub new-client-requires-clause-decides : goal.new-client-requires-clause-decides
new-client-requires-clause-decides g c = decides_at c.into_dyn_box.result.vtable c.into_dyn_box.result.value
