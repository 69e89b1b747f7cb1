-- The candidates are what the ray finds, in rising order of keys, and no other list is.
use Rattle.std.proofs.Common.{List}
use Rattle.ray_query.specs.declared.found.Found.{Found}
use Rattle.ray_candidates.specs.Candidates.{candidates, found_in}
use Rattle.ray_query.specs.KeyOrder.{in_key_order}
use Rattle.ray_candidates.specs.Laws.{AreCandidates, CandidatesAreSo, CandidatesAreOne}
use Rattle.ray_query.proofs.Members.{Member-from_Contains, Contains-from_Member}
use Rattle.ray_query.proofs.Rising.{Rises-in_key_order, in_key_order-has, in_key_order-keeps, rising_same}
use Rattle.ray_candidates.proofs.Order.{KeysRise-from_Rises, Rises-from_KeysRise}
use Rattle.ray_candidates.proofs.Apart.{AreApart-found}
use Rattle.ray_candidates.proofs.Findings.{IsFound-member, Member-found}

pub candidates-so : CandidatesAreSo
unfolding candidates
candidates-so top bottoms ray flags mask =
    let found : List Found = found_in top bottoms ray flags mask in
    record {
      rising = KeysRise-from_Rises (in_key_order found) (Rises-in_key_order found (AreApart-found top bottoms ray flags mask));
      members = λ f. (
        λ h. IsFound-member top bottoms ray flags mask f (in_key_order-has found f (Member-from_Contains (in_key_order found) f h)),
        λ h. Contains-from_Member (in_key_order found) f (in_key_order-keeps found f (Member-found top bottoms ray flags mask f h)),
      );
    }

pub candidates-one : CandidatesAreOne
candidates-one top bottoms ray flags mask fs are =
    let so : AreCandidates top bottoms ray flags mask (candidates top bottoms ray flags mask) = candidates-so top bottoms ray flags mask in
    rising_same fs (candidates top bottoms ray flags mask) (Rises-from_KeysRise fs are.rising) (Rises-from_KeysRise (candidates top bottoms ray flags mask) so.rising)
    (λ x m. Member-from_Contains (candidates top bottoms ray flags mask) x ((so.members x).1 ((are.members x).0 (Contains-from_Member fs x m))))
    (λ x m. Member-from_Contains fs x ((are.members x).1 ((so.members x).0 (Contains-from_Member (candidates top bottoms ray flags mask) x m))))
