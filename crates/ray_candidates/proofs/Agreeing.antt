-- The candidates depend on the structures of active instances alone.
use Rattle.std.proofs.Common.{◌≡◌, refl, ap, ℕ, if◌then◌else◌, Option, Some, None, IfSome, option_and_then, List, [], slice_get, length}
use Rattle.ray_geom.specs.Scene.{RayValue}
use Rattle.ray_flags.specs.declared.ray_flags.RayFlags.{RayFlags}
use Rattle.ray_geometries.specs.Contents.{ContentsValue as BottomContents}
use Rattle.ray_top.specs.Instances.{InstanceValue}
use Rattle.ray_top.specs.Contents.{ContentsValue as TopContents}
use Rattle.ray_candidates.specs.Candidates.{Structures, active_instance, candidates, found_in, found_in_instance, found_in_structure, is_seen, joined}
use Rattle.ray_query.specs.KeyOrder.{in_key_order}
use Rattle.ray_candidates.specs.Laws.{AgreeFor, CandidatesAgree}
use Rattle.ray_candidates.proofs.Placing.{All-at}

joined-same : {X : Type 0} (each other : ℕ → List X) (n : ℕ) → ((k : ℕ) → each k ≡ other k) → joined each n ≡ joined other n
joined-same each other n same = λ i. joined (λ k. same k i) n

module _ (top : TopContents) (bottoms others : Structures) (ray : RayValue) (flags : RayFlags) (mask : ℕ) (agree : AgreeFor top bottoms others) where
  by_instance : (n : ℕ) (o : Option (Option InstanceValue)) → slice_get top.instances n ≡ o
      → found_in_instance bottoms ray flags mask n (option_and_then (λ i. i) o) ≡ found_in_instance others ray flags mask n (option_and_then (λ i. i) o)
  by_instance n None at = refl
  by_instance n (Some None) at = refl
  by_instance n (Some (Some i)) at =
      ap (λ (o : Option BottomContents). if is_seen mask i then found_in_structure ray flags n i o else [])
      (All-at (λ (j : Option InstanceValue). IfSome j (λ (k : InstanceValue). bottoms k.id ≡ others k.id)) top.instances n (Some i) agree.each at)

  found_in-same : found_in top bottoms ray flags mask ≡ found_in top others ray flags mask
  found_in-same =
      joined-same (λ n. found_in_instance bottoms ray flags mask n (active_instance top n)) (λ n. found_in_instance others ray flags mask n (active_instance top n))
      (length top.instances) (λ n. by_instance n (slice_get top.instances n) refl)

pub candidates-agree : CandidatesAgree
unfolding candidates
candidates-agree top bottoms others ray flags mask agree = ap in_key_order (found_in-same top bottoms others ray flags mask agree)
