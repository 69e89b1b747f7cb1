-- Which pairs the works test, and how many of them are hits.
use Rattle.std.specs.Prelude.{ℕ, zero, suc, ◌≡◌, Bool, List, ◌+◌, ◌*◌, ◌/◌, ◌%◌, length, is_some, count_by, map, take, slice_get}
use Rattle.std.specs.List.{range_with_len}
use Rattle.std.specs.Option.{option_map_or}
use Rattle.ray_geom.specs.Scene.{RayValue, TriValue}
use Rattle.ray_geom.specs.HitValue.{hit_of}
use Rattle.ray_bench.specs.declared.pair.Pair.{Pair}
use Rattle.ray_bench.specs.declared.work.Work.{Work}
use Rattle.ray_bench.specs.declared.work.Work.TheVariants.{Pairs, Hits, BoxSpans, BoxReaches}
use Rattle.ray_bench.specs.Field.{triangle_of, triangles}
use Rattle.ray_bench.specs.Rays.{aimed_of, rays}
use Rattle.ray_bench.specs.Spots.{AreMet}

-- whether the ray hits the triangle
abbrev pub is_hit : RayValue → TriValue → Bool
is_hit ray tri = is_some (hit_of ray tri)

-- whether a pair is a hit
abbrev pub is_hit_pair : Pair → Bool
is_hit_pair pair = is_hit pair.ray pair.tri

-- the triangle k with the ray that is aimed at it (own)
abbrev pub pair_of : ℕ → Pair
pair_of k = record { ray = aimed_of k; tri = triangle_of k }

-- the pairs that are all hits (own)
abbrev pub pairs : List Pair
pairs = map pair_of (range_with_len 0 128)

-- how many of the triangles the ray of this turn hits, where the rays begin anew at their end
abbrev pub hits_in_turn : List RayValue → List TriValue → ℕ → ℕ
hits_in_turn rs ts turn =
    option_map_or (λ ray. count_by (is_hit ray) ts) (slice_get rs (turn % length rs)) 0

-- the hits of the first n turns
abbrev pub hits_in_turns : List RayValue → List TriValue → ℕ → ℕ
hits_in_turns rs ts zero = 0
hits_in_turns rs ts (suc n) = hits_in_turns rs ts n + hits_in_turn rs ts n

-- the hits of the first n pairs: ray after ray, each with every triangle (own)
abbrev pub hits_of_rays : List RayValue → List TriValue → ℕ → ℕ
hits_of_rays rs ts n =
    let turns = n / length ts in
    hits_in_turns rs ts turns + hits_in_turn rs (take (n % length ts) ts) turns

-- the hits of the first n pairs, which begin anew at their end (own)
abbrev pub hits_of_pairs : List Pair → ℕ → ℕ
hits_of_pairs ps n =
    n / length ps * count_by is_hit_pair ps + count_by is_hit_pair (take (n % length ps) ps)

-- a work that is done so often has so many hits: for boxes, so many are met (own)
abbrev pub AreHits : Work → ℕ → ℕ → Type 0
AreHits Pairs n hits = hits ≡ hits_of_rays rays triangles n
AreHits Hits n hits = hits ≡ hits_of_pairs pairs n
AreHits BoxSpans n hits = AreMet n hits
AreHits BoxReaches n hits = AreMet n hits
