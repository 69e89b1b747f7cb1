-- The play of what was gathered and put in order is the answer of the trace.
use Rattle.std.proofs.Common.{◌≡◌, ◌∙◌, refl, sym, ap, subst, ℕ, Option, List}
use Rattle.ray_geom.specs.Scene.{RayValue}
use Rattle.ray_flags.specs.declared.ray_flags.RayFlags.{RayFlags}
use Rattle.ray_top.specs.Contents.{ContentsValue as TopContents}
use Rattle.ray_query.specs.declared.candidate.Candidate.{Candidate}
use Rattle.ray_query.specs.declared.commit.Commit.{Commit}
use Rattle.ray_query.specs.declared.decision.Decision.{Decision}
use Rattle.ray_query.specs.declared.found.Found.{Found}
use Rattle.ray_query.specs.Machine.{QueryValue, query_of}
use Rattle.ray_query.specs.Play.{play}
use Rattle.ray_candidates.specs.Candidates.{Structures, candidates, found_in, trace_answer}
use Rattle.ray_query.specs.KeyOrder.{AreApart, in_key_order}
use Rattle.ray_candidates.proofs.Apart.{AreApart-found}

candidates-is : (top : TopContents) (bottoms : Structures) (ray : RayValue) (flags : RayFlags) (mask : ℕ)
    → in_key_order (found_in top bottoms ray flags mask) ≡ candidates top bottoms ray flags mask
unfolding candidates
candidates-is top bottoms ray flags mask = refl

module _ (top : TopContents) (bottoms : Structures) (ray : RayValue) (flags : RayFlags) (mask : ℕ) (found : List Found) (is : found ≡ found_in top bottoms ray flags mask) where
  pub apart_gathered : AreApart found
  apart_gathered = subst AreApart (sym is) (AreApart-found top bottoms ray flags mask)

  pub played : (meaning : Candidate → Decision) (number : ℕ) (query after : QueryValue) (ordered slice : List Found) (committed : Option Commit)
      → query ≡ query_of number flags → ordered ≡ in_key_order found → slice ≡ ordered
      → after ≡ record query { state = play meaning query.ray query.flags query.state slice } → committed ≡ after.state.committed
      → committed ≡ trace_answer meaning top bottoms ray number flags mask
  played meaning number query after ordered slice committed begun sorted lent done told =
      let all : slice ≡ candidates top bottoms ray flags mask = lent ∙ (sorted ∙ (ap in_key_order is ∙ candidates-is top bottoms ray flags mask)) in
      told ∙ (ap (λ (q : QueryValue). q.state.committed) done ∙ (λ i. (play meaning (begun i).ray (begun i).flags (begun i).state (all i)).committed))
