-- What a function has to promise so that it may be a client, and what it means then.
use Rattle.std.specs.Prelude.{◌≡◌, ◌^◌, ◌&&◌, Bool, true, false, nat_lt}
use Rattle.std.proofs.Common.{Bor, refl}
use Rattle.std.proofs.Math.Logic.{∥∥₁_elim, ∥∥₁_prop}
use mathlib.Core.HLevel.{is_prop→PathP}
use base.Stored.{Coded-set}
use Rattle.ray_query.specs.contracts.decision.Decision as decision
use Rattle.ray_query.specs.declared.candidate.Candidate.{Candidate}
use Rattle.ray_query.specs.declared.decision.Decision.{Decision}
use Rattle.ray_query.specs.declared.decision.Decision.TheVariants.{Ignore}

-- the numbers of a candidate fit their types. Its fractions are within their limits and in lowest
-- terms, since every `Frac` is (own)
abbrev pub fits : Candidate → Bool
fits c =
    (nat_lt c.ray (2 ^ 32) && nat_lt c.nth (2 ^ 64))
    && ((nat_lt c.found.instance (2 ^ 32) && nat_lt c.found.geometry (2 ^ 32))
    && ((nat_lt c.found.primitive (2 ^ 32) && nat_lt c.found.custom (2 ^ 32))
    && nat_lt c.found.sbt (2 ^ 32)))

-- a function whose calls need this of a reference may be called on each candidate that fits (own)
abbrev pub IsCallable : (Bor Candidate → Type 0) → Type 0
IsCallable needs = (p : Bor Candidate) → fits p.now ≡ true → needs p

-- a function whose calls promise this of a reference and a decision may give a decision on a
-- candidate (own)
abbrev pub MayGive : (Bor Candidate → Decision → Type 0) → Candidate → Decision → Type 0
MayGive promises c d = (p : Bor Candidate) × (p.now ≡ c) × promises p d

-- exactly one decision may be given (own)
pub record GivesOne (gives : Decision → Type 0) : Type 0 where
  pub decision : Decision
  pub given : ∥ gives decision ∥₁
  pub only : (d : Decision) → gives d → d ≡ decision

-- what a function promises allows exactly one decision on each candidate that fits (own)
abbrev pub DecidesEach : (Bor Candidate → Decision → Type 0) → Type 0
DecidesEach promises = (c : Candidate) → fits c ≡ true → GivesOne (MayGive promises c)

-- the decision of such a function on a candidate, by whether that fits
abbrev pub decision_by : {promises : Bor Candidate → Decision → Type 0} → DecidesEach promises
    → (c : Candidate) (b : Bool) → fits c ≡ b → Decision
decision_by one c true fit = (one c fit).decision
decision_by one c false fit = Ignore

-- what such a function means: on a candidate that fits, the one decision that it may give; on any
-- other, which no call can pass, Ignore (own)
unfoldable pub meaning_of : {promises : Bor Candidate → Decision → Type 0} → DecidesEach promises
    → Candidate → Decision
meaning_of one c = decision_by one c (fits c) refl

-- a function means this: what it may give on a candidate that fits; else Ignore (own)
pub record IsMeaning (promises : Bor Candidate → Decision → Type 0) (meaning : Candidate → Decision) : Type 0 where
  pub given : (c : Candidate) (d : Decision) → fits c ≡ true → MayGive promises c d → d ≡ meaning c
  pub elsewhere : (c : Candidate) → fits c ≡ false → meaning c ≡ Ignore

-- ---- for the invariant of `ByFn` alone: that this has one proof

Decision-set : IsSet Decision
Decision-set = Coded-set (decision.the_row).coded

GivesOne-prop : (gives : Decision → Type 0) → IsProp (GivesOne gives)
GivesOne-prop gives x y =
    let same : x.decision ≡ y.decision =
    ∥∥₁_elim x.given (Decision-set x.decision y.decision) (λ g. y.only x.decision g) in
    λ i. record {
      decision = same i;
      given = is_prop→PathP (λ j. ∥ gives (same j) ∥₁) (λ j. ∥∥₁_prop) x.given y.given i;
      only = is_prop→PathP (λ j. (d : Decision) → gives d → d ≡ same j)
          (λ j u v k d g. Decision-set d (same j) (u d g) (v d g) k) x.only y.only i;
    }

pub DecidesEach-prop : (promises : Bor Candidate → Decision → Type 0) → IsProp (DecidesEach promises)
DecidesEach-prop promises x y = λ i c fit. GivesOne-prop (MayGive promises c) (x c fit) (y c fit) i
