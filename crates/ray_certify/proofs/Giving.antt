-- What a trace that gives hits has seen: its rays, each within the limits, and its top structure.
use Rattle.std.proofs.Common.{ℕ, ◌≡◌, ◌<◌, ◌+◌, List, Option, Some, None, IsSome, Result, Ok, Err, refl, arith}
use Rattle.ray_geom.specs.Scene.{RayValue}
use Rattle.ray_contents.specs.Gathering.{gathered}
use Rattle.ray_contents.proofs.Gathered.{gathered_all}
use Rattle.ray_flags.specs.declared.ray_flags.RayFlags.{RayFlags}
use Rattle.ray_top.specs.Contents.{TopValue}
use Rattle.ray_candidates.specs.Candidates.{Structures}
use Rattle.ray_action.specs.Action.{Tracing}
use Rattle.ray_action.specs.Clients.{Meaning}
use Rattle.ray_action.specs.Outcomes.{Fault, Gives, Output, bottoms_in, hit_at, hit_by, hits_outcome, ray_in, trace_outcome}
use Rattle.ray_action.specs.Seeing.{SeenBytes, SeenStructures}
use Rattle.ray_permitted.proofs.Truth.{item_at}

-- rays that are seen, and a top structure
pub record AreSeen (count : ℕ) (rays : SeenBytes) (found : Option TopValue) : Type 0 where
  pub bytes : List ℕ
  pub are_bytes : rays ≡ Some bytes
  pub top : TopValue
  pub is_top : found ≡ Some top
  pub each : (k : ℕ) → k < count → IsSome (ray_in bytes k)

-- a ray that has a hit is there
hit_there : (meaning : Meaning) (top : TopValue) (bottoms : Structures) (flags : RayFlags) (mask number : ℕ) (ray : Option RayValue) (hit : List ℕ)
    → hit_by meaning top bottoms flags mask number ray ≡ Ok hit → IsSome ray
hit_there meaning top bottoms flags mask number None hit e = absurd cc
hit_there meaning top bottoms flags mask number (Some ray) hit e = refl

hits_there : (meaning : Meaning) (trace : Tracing) (top : TopValue) (uses : SeenStructures) (rays : List ℕ) (r : Result (List (List ℕ)) Fault) (output : Output)
    → gathered (hit_at meaning trace top uses rays) trace.count ≡ r → hits_outcome r ≡ Gives output → (k : ℕ) → k < trace.count → IsSome (ray_in rays k)
hits_there meaning trace top uses rays (Ok hits) output is gives k below =
    let all = gathered_all (hit_at meaning trace top uses rays) trace.count hits is in
    let many = all.as_many in
    let hit = item_at hits k (omega (arith, below, many)) in
    hit_there meaning top (bottoms_in uses) trace.flags trace.mask (trace.first + k) (ray_in rays k) hit.0 (all.each k hit.0 hit.1)
hits_there meaning trace top uses rays (Err fault) output is gives k below = absurd cc

pub giving_sees : (meaning : Meaning) (trace : Tracing) (uses : SeenStructures) (rays : SeenBytes) (found : Option TopValue) (output : Output)
    → trace_outcome meaning trace uses rays found ≡ Gives output → AreSeen trace.count rays found
giving_sees meaning trace uses None found output e = absurd cc
giving_sees meaning trace uses (Some bytes) None output e = absurd cc
giving_sees meaning trace uses (Some bytes) (Some top) output e = record {
  bytes = bytes;
  are_bytes = refl;
  top = top;
  is_top = refl;
  each = hits_there meaning trace top uses bytes (gathered (hit_at meaning trace top uses bytes) trace.count) output refl e;
}
