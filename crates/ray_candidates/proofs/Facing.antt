-- A hit tells the face that is seen.
use Rattle.std.proofs.Common.{◌≡◌, ◌≢◌, ◌↔◌, ◌<ℤ◌, ◌*ℤ◌, refl, sym, ap, subst, zero, suc, ℤ, pos, negsuc, IsTrue, Some, arith}
use Rattle.std.proofs.lemmas.Int.{ints}
use Rattle.ray_geom.specs.Scene.{RayValue, TriValue}
use Rattle.ray_geom.specs.Decided.{where_so, hit_decided}
use Rattle.ray_geom.specs.HitValue.{HitValue, is_negative, told_of}
use Rattle.ray_geom.specs.Transform.{MatrixValue, det_of, world_tri}
use Rattle.ray_geom.specs.TriangleHit.{IsHit, den_of}
use Rattle.ray_prune.specs.Facing.{IsFront, is_front}
use Rattle.ray_candidates.specs.Laws.{FacesAreSo}

-- the truth value is the sign of the product
front_test : (den det : ℤ) → den ≢ pos 0 → det ≢ pos 0 → IsTrue (is_front (is_negative den) det) ↔ ((den *ℤ det) <ℤ pos 0)
front_test (pos zero) det p q = absurd (p refl)
front_test den (pos zero) p q = absurd (q refl)
front_test (pos (suc n)) (pos (suc k)) p q = (λ never. absurd (cc), λ below. absurd (grind (arith, ints)))
front_test (pos (suc n)) (negsuc k) p q = (λ _. grind (arith, ints), λ _. refl)
front_test (negsuc n) (pos (suc k)) p q = (λ _. grind (arith, ints), λ _. refl)
front_test (negsuc n) (negsuc k) p q = (λ never. absurd (cc), λ below. absurd (grind (arith, ints)))

-- what is told of a hit, where there is one
record IsTold (ray : RayValue) (tri : TriValue) (hit : HitValue) : Type 0 where
  pub hits : IsHit ray tri
  pub is_it : told_of ray tri ≡ hit

told_by : (ray : RayValue) (tri : TriValue) (hit : HitValue) (d : Dec (IsHit ray tri)) → where_so d (told_of ray tri) ≡ Some hit → IsTold ray tri hit
told_by ray tri hit (yes h) same = record { hits = h; is_it = cc }
told_by ray tri hit (no misses) same = absurd (cc)

faced : (m : MatrixValue) (tri : TriValue) (ray : RayValue) (hit : HitValue) → IsTold ray (world_tri m tri) hit → det_of m ≢ pos 0
    → IsTrue (is_front hit.den_negative (det_of m)) ↔ IsFront ray m tri
faced m tri ray hit told crosses =
    let test = front_test (den_of ray (world_tri m tri)) (det_of m) told.hits.crosses crosses in
    let same : is_front (is_negative (den_of ray (world_tri m tri))) (det_of m) ≡ is_front hit.den_negative (det_of m) =
    ap (λ (h : HitValue). is_front h.den_negative (det_of m)) told.is_it in (
      λ h. record { opposite = test.0 (subst IsTrue (sym same) h) },
      λ h. subst IsTrue same (test.1 h.opposite),
    )

pub sees_front-so : FacesAreSo
sees_front-so at ray tri hit met crosses =
    faced at.instance.matrix tri ray hit
    (told_by ray (world_tri at.instance.matrix tri) hit (hit_decided ray (world_tri at.instance.matrix tri)) met) crosses
