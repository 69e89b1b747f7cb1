-- What a turn of the rays adds to the hits.
use Rattle.std.proofs.Common.{◌≡◌, ℕ, ◌+◌, ◌*◌, ◌<◌, ◌≤◌, ◌/◌, ◌%◌, List, length, take, get_or, count_by, refl, add-one, arith}
use Rattle.std.proofs.lemmas.Option.{slice_get_read}
use Rattle.std.proofs.lemmas.List.Sums.{count_by-le-length}
use Rattle.std.proofs.Math.Nat.{mod-lt}
use Rattle.ray_geom.specs.Scene.{RayValue, TriValue}
use Rattle.ray_bench.specs.Tested.{is_hit, hits_in_turn, hits_in_turns, hits_of_rays}

-- the hits of a turn are those of its ray
hits_in_turn-get_or : (rs : List RayValue) (ts : List TriValue) (turn : ℕ) (ray : RayValue)
    → 0 < length rs → ray ≡ get_or rs (turn % length rs) ray
    → hits_in_turn rs ts turn ≡ count_by (is_hit ray) ts
hits_in_turn-get_or rs ts turn ray h e =
    rw (slice_get_read rs (length rs) (turn % length rs) ray refl (mod-lt turn h) e) refl

-- the hits with those of one turn more
pub hits_in_turns-more : (rs : List RayValue) (ts : List TriValue) (turn : ℕ) (ray : RayValue) (hits more : ℕ)
    → 0 < length rs → ray ≡ get_or rs (turn % length rs) ray
    → hits ≡ hits_in_turns rs ts turn → more ≡ count_by (is_hit ray) ts
    → hits + more ≡ hits_in_turns rs ts (turn + 1)
hits_in_turns-more rs ts turn ray hits more h e so_far now =
    rw (add-one, so_far, now, hits_in_turn-get_or rs ts turn ray h e) refl

-- a turn adds at most the number of triangles
pub hits_in_turns-below : (ray : RayValue) (ts : List TriValue) (turn hits more : ℕ)
    → hits ≤ turn * length ts → more ≡ count_by (is_hit ray) ts → hits + more ≤ (turn + 1) * length ts
hits_in_turns-below ray ts turn hits more h now =
    let most = count_by-le-length (is_hit ray) ts in omega arith

-- the hits of whole turns with those of the rest
pub hits_of_rays-last : (rs : List RayValue) (ts : List TriValue) (number turn : ℕ) (ray : RayValue) (hits more : ℕ)
    → 0 < length rs → turn ≡ number / length ts → ray ≡ get_or rs (number / length ts % length rs) ray
    → hits ≡ hits_in_turns rs ts turn → more ≡ count_by (is_hit ray) (take (number % length ts) ts)
    → hits + more ≡ hits_of_rays rs ts number
hits_of_rays-last rs ts number turn ray hits more h last e so_far now =
    rw (so_far, last, now, hits_in_turn-get_or rs (take (number % length ts) ts) (number / length ts) ray h e) refl

-- the same of equal lists
pub hits_of_rays-same : (rs us : List RayValue) (ts vs : List TriValue) (number hits : ℕ)
    → rs ≡ us → ts ≡ vs → hits ≡ hits_of_rays rs ts number → hits ≡ hits_of_rays us vs number
hits_of_rays-same rs us ts vs number hits p q h = rw (← p, ← q) h
