-- The hits of rays, one after the other.
use Rattle.std.proofs.Common.{arith, ℕ, zero, suc, ◌-◌, ◌≡◌, ◌+◌, ◌≤◌, ◌<◌, ◌++◌, List, [], Option, Some, None, Result, Ok, Err, refl, ap, sym, ◌∙◌}
use Rattle.std.specs.List.{flat_map}
use Rattle.std.proofs.lemmas.List.{flat_map_more}
use Rattle.ray_flags.specs.declared.ray_flags.RayFlags.{RayFlags}
use Rattle.ray_contents.specs.Gathering.{gathered}
use Rattle.ray_contents.proofs.Gathered.{gathered_none, gathered_more, gathered_fault}
use Rattle.ray_top.specs.Contents.{TopValue}
use Rattle.ray_candidates.specs.Candidates.{Structures}
use Rattle.ray_action.specs.Clients.{Meaning}
use Rattle.ray_action.specs.Outcomes.{Fault, Gives, Breaks, Bytes, hits_outcome}
use Rattle.ray_device.specs.declared.fetch_fault.FetchFault.{FetchFault}
use Rattle.ray_device.specs.declared.fetch_fault.FetchFault.TheVariants.{Data, NoMemory}
use Rattle.ray_device.specs.Bounds.{summed}
use Rattle.ray_device.specs.Fetching.{IsFetched, OnAnswered}
use Rattle.ray_device.specs.Tracing.{hit_in, rays_outcome, IsHit}

bytes-of : (hits : List (List ℕ)) (bytes : List ℕ) → hits_outcome (Ok hits) ≡ Gives (Bytes bytes) → flat_map (λ hit. hit) hits ≡ bytes
bytes-of hits bytes e = cc

-- one hit more
more : (r : Result (List (List ℕ)) Fault) (element : ℕ → Result (List ℕ) Fault) (n : ℕ) (bytes hit : List ℕ)
    → gathered element n ≡ r → hits_outcome r ≡ Gives (Bytes bytes) → element n ≡ Ok hit → hits_outcome (gathered element (n + 1)) ≡ Gives (Bytes (bytes ++ hit))
more (Err fault) element n bytes hit is e at = absurd cc
more (Ok hits) element n bytes hit is e at =
    ap hits_outcome (gathered_more element n hits hit is at)
    ∙ ap (λ (b : List ℕ). Gives (Bytes b))
    (sym (flat_map_more (λ (h : List ℕ). h) [] hits hit) ∙ ap (λ (b : List ℕ). b ++ hit) (bytes-of hits bytes e))

fault : (r : Result (List (List ℕ)) Fault) (element : ℕ → Result (List ℕ) Fault) (n count : ℕ) (bytes : List ℕ) (f : Fault)
    → gathered element n ≡ r → hits_outcome r ≡ Gives (Bytes bytes) → element n ≡ Err f → n < count → hits_outcome (gathered element count) ≡ Breaks f
fault (Err g) element n count bytes f is e at within = absurd cc
fault (Ok hits) element n count bytes f is e at within = ap hits_outcome (gathered_fault element n count hits f is at within)

module _ (top : TopValue) (bottoms : Structures) (meaning : Meaning) (flags : RayFlags) (mask : ℕ) (rays : List ℕ) (first : ℕ) where
  pub rays_none : rays_outcome top bottoms meaning flags mask rays first 0 ≡ Gives (Bytes [])
  unfolding rays_outcome
  rays_none = ap hits_outcome (gathered_none (hit_in top bottoms meaning flags mask rays first))

  pub rays_more : (n : ℕ) (bytes hit : List ℕ) → rays_outcome top bottoms meaning flags mask rays first n ≡ Gives (Bytes bytes)
      → hit_in top bottoms meaning flags mask rays first n ≡ Ok hit → rays_outcome top bottoms meaning flags mask rays first (n + 1) ≡ Gives (Bytes (bytes ++ hit))
  unfolding rays_outcome
  rays_more n bytes hit e at =
      more (gathered (hit_in top bottoms meaning flags mask rays first) n) (hit_in top bottoms meaning flags mask rays first) n bytes hit refl e at

  pub rays_fault : (n count : ℕ) (bytes : List ℕ) (f : Fault) → rays_outcome top bottoms meaning flags mask rays first n ≡ Gives (Bytes bytes)
      → hit_in top bottoms meaning flags mask rays first n ≡ Err f → n < count → rays_outcome top bottoms meaning flags mask rays first count ≡ Breaks f
  unfolding rays_outcome
  rays_fault n count bytes f e at within =
      fault (gathered (hit_in top bottoms meaning flags mask rays first) n) (hit_in top bottoms meaning flags mask rays first) n count bytes f refl e at within

  pub rays_told : (n count : ℕ) (bytes : List ℕ) (e : FetchFault) → rays_outcome top bottoms meaning flags mask rays first n ≡ Gives (Bytes bytes)
      → IsHit (hit_in top bottoms meaning flags mask rays first n) (Err e) → n < count → IsFetched (rays_outcome top bottoms meaning flags mask rays first count) (Err e)
  rays_told n count bytes (Data rule place) e at within = rays_fault n count bytes (record { rule = rule; place = place }) e at within
  rays_told n count bytes NoMemory e at within = tt

-- ---- steps

summed-next : (f : ℕ → ℕ) (k : ℕ) → summed f (suc k) ≡ summed f k + f k
unfolding summed
summed-next f k = refl

-- the bound of one ray more
pub summed_more : (f : ℕ → ℕ) (k before steps later : ℕ) → steps ≤ before + summed f k → later ≤ steps + f k → later ≤ before + summed f (k + 1)
summed_more f k before steps later one other =
    let next : k + 1 ≡ suc k = omega arith in
    let same : summed f (k + 1) ≡ summed f k + f k = ap (summed f) next ∙ summed-next f k in
    omega (arith, one, other, same)

summed-later : (f : ℕ → ℕ) (n m : ℕ) → summed f n ≤ summed f (n + m)
summed-later f n zero = omega (arith, ap (summed f) (plus-zero n))
  where
    plus-zero : (k : ℕ) → k + 0 ≡ k
    plus-zero k = omega arith
summed-later f n (suc m) =
    let before : summed f n ≤ summed f (n + m) = summed-later f n m in
    let next : n + suc m ≡ suc (n + m) = omega arith in
    let same : summed f (n + suc m) ≡ summed f (n + m) + f (n + m) = ap (summed f) next ∙ summed-next f (n + m) in
    omega (arith, before, same)

-- the sum up to a number is at most that over all
summed-within : (f : ℕ → ℕ) (k count : ℕ) → k < count → summed f k + f k ≤ summed f count
summed-within f k count within =
    let rest : count ≡ suc k + (count - suc k) = omega (arith, within) in
    let most : summed f (suc k) ≤ summed f (suc k + (count - suc k)) = summed-later f (suc k) (count - suc k) in
    let same : summed f count ≡ summed f (suc k + (count - suc k)) = ap (summed f) rest in
    omega (arith, most, same, summed-next f k)

-- the bound where a ray is refused: those behind it weren't traced
pub answered_more : (X Y : Type 0) (f : ℕ → ℕ) (k count before steps later : ℕ) (e : FetchFault) → steps ≤ before + summed f k
    → OnAnswered {X = X} (Err e) (later ≤ steps + f k) → k < count → OnAnswered {X = Y} (Err e) (later ≤ before + summed f count)
answered_more X Y f k count before steps later (Data rule place) one other within = omega (arith, one, other, summed-within f k count within)
answered_more X Y f k count before steps later NoMemory one other within = tt

-- what holds whatever a fetch comes to
pub on_answered : {X : Type 0} {P : Type 0} (r : Result X FetchFault) → P → OnAnswered r P
on_answered (Ok x) p = p
on_answered (Err (Data rule place)) p = p
on_answered (Err NoMemory) p = tt
