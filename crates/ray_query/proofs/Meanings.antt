-- What a function means that decides on each candidate.
use Rattle.std.proofs.Common.{◌≡◌, ◌∙◌, Bor, refl, sym, ap, Bool, true, false}
use Rattle.std.proofs.Math.Bool.{Bool-set}
use Rattle.ray_query.specs.declared.candidate.Candidate.{Candidate}
use Rattle.ray_query.specs.declared.decision.Decision.{Decision}
use Rattle.ray_query.specs.declared.decision.Decision.TheVariants.{Ignore}
use Rattle.ray_query.specs.Deciding.{DecidesEach, IsMeaning, MayGive, decision_by, fits, meaning_of}

module _ {promises : Bor Candidate → Decision → Type 0} (one : DecidesEach promises) (c : Candidate) where
  -- where the candidate fits
  fitting : (b : Bool) (e : fits c ≡ b) (fit : fits c ≡ true) → b ≡ true → decision_by one c b e ≡ (one c fit).decision
  fitting true e fit p = ap (λ h. (one c h).decision) (Bool-set (fits c) true e fit)
  fitting false e fit p = absurd cc

  -- and where it doesn't
  failing : (b : Bool) (e : fits c ≡ b) → b ≡ false → decision_by one c b e ≡ Ignore
  failing true e p = absurd cc
  failing false e p = refl

  -- what is given is what is meant
  pub meaning_of-given : (d : Decision) → fits c ≡ true → MayGive promises c d → d ≡ meaning_of one c
  unfolding meaning_of
  meaning_of-given d fit given = (one c fit).only d given ∙ sym (fitting (fits c) refl fit fit)

-- that is its meaning
pub meaning_of-is : {promises : Bor Candidate → Decision → Type 0} (one : DecidesEach promises) → IsMeaning promises (meaning_of one)
unfolding meaning_of
meaning_of-is one = record {
  given = λ c d. meaning_of-given one c d;
  elsewhere = λ c. failing one c (fits c) refl;
}
