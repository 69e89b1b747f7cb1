-- What is computed of a ray and a triangle decides the hit, and tells what the hit tells.
use Rattle.std.proofs.Common.{◌≡◌, ap, sym, subst, ◌∙◌, arith}
use Rattle.std.specs.Prelude.{ℕ, ℤ, pos, ◌*◌, ◌↔◌, ◌*ℤ◌, ◌≤ℤ◌, ◌<ℤ◌, unsigned_abs, IsTrue}
use Rattle.std.proofs.lemmas.Int.{ints}
use Rattle.ray_geom.specs.declared.vec3.Vec3.{Vec3}
use Rattle.ray_geom.specs.declared.edge.Edge.{Edge}
use Rattle.ray_geom.specs.declared.measured.Measured.{Measured}
use Rattle.ray_geom.specs.declared.tri_hit.TriHit.{TriHit}
use Rattle.ray_geom.specs.Vector.{sign_of}
use Rattle.ray_geom.specs.Scene.{RayValue, TriValue}
use Rattle.ray_geom.specs.EdgeVolume.{volume_of}
use Rattle.ray_geom.specs.TriangleHit.{num_of, den_of, second_volume, third_volume, over_size, IsFrom, IsTo, IsHit, IsRatio, Tells}
use Rattle.ray_geom.specs.Measures.{IsEdge, IsMeasured, AreInside}
use Rattle.ray_geom.proofs.Signs.{over_size-side}

-- a weight isn't negative where its edge's side is the sign of the determinant
over_size-IsEdge : (ray : RayValue) (a b : Vec3) (edge : Edge) (den : ℤ) →
    IsEdge ray a b edge → edge.side ≡ sign_of den → pos 0 ≤ℤ over_size edge.volume den
over_size-IsEdge ray a b edge den e same =
    subst (λ volume. pos 0 ≤ℤ over_size volume den) (sym e.volume)
    (over_size-side (volume_of ray a b) den _ (sym e.side ∙ same))

-- nor is the distance where it isn't before the ray's interval
pub over_size-IsFrom : (least : ℕ) (num den : ℤ) → IsFrom least num den → pos 0 ≤ℤ over_size num den
over_size-IsFrom least num den from = no_less (least * unsigned_abs den) (over_size num den) from.at_least
  where
    no_less : (n : ℕ) (x : ℤ) → pos n ≤ℤ (pos 65536 *ℤ x) → pos 0 ≤ℤ x
    no_less n x h = omega (arith, ints)

-- neither weight is negative
pub record AreWeights (m : Measured) : Type 0 where
  pub second : pos 0 ≤ℤ over_size m.second.volume m.den
  pub third : pos 0 ≤ℤ over_size m.third.volume m.den

pub AreWeights-from : (ray : RayValue) (tri : TriValue) (m : Measured) →
    IsMeasured ray tri m → AreInside m → AreWeights m
AreWeights-from ray tri m e inside = record {
  second = over_size-IsEdge ray tri.v2 tri.v0 m.second m.den e.second inside.second;
  third = over_size-IsEdge ray tri.v0 tri.v1 m.third m.den e.third inside.third;
}

-- num / den is from least to most, in 1/65536
abbrev pub IsFromTo : ℕ → ℕ → ℤ → ℤ → Type 0
IsFromTo least most num den = IsFrom least num den × IsTo most num den

-- there is a hit where the measured numbers say so
pub IsHit-from : (ray : RayValue) (tri : TriValue) (m : Measured) →
    IsMeasured ray tri m → AreInside m → IsFromTo ray.tmin ray.tmax m.num m.den → IsHit ray tri
IsHit-from ray tri m e inside between =
    let moved = subst (λ den. IsFromTo ray.tmin ray.tmax (num_of ray tri) den) e.den
    (subst (λ num. IsFromTo ray.tmin ray.tmax num m.den) e.num between) in
    record {
      crosses = λ zero_den. inside.crosses (e.den ∙ zero_den);
      first = sym e.first.side ∙ (inside.first ∙ ap sign_of e.den);
      second = sym e.second.side ∙ (inside.second ∙ ap sign_of e.den);
      third = sym e.third.side ∙ (inside.third ∙ ap sign_of e.den);
      from = moved.0;
      to = moved.1;
    }

-- and only there: inside the edges
pub IsHit-inside : (ray : RayValue) (tri : TriValue) (m : Measured) →
    IsMeasured ray tri m → IsHit ray tri → AreInside m
IsHit-inside ray tri m e hit = record {
  crosses = λ zero_den. hit.crosses (sym e.den ∙ zero_den);
  first = e.first.side ∙ (hit.first ∙ ap sign_of (sym e.den));
  second = e.second.side ∙ (hit.second ∙ ap sign_of (sym e.den));
  third = e.third.side ∙ (hit.third ∙ ap sign_of (sym e.den));
}

-- and within the interval
pub IsHit-between : (ray : RayValue) (tri : TriValue) (m : Measured) →
    IsMeasured ray tri m → IsHit ray tri → IsFromTo ray.tmin ray.tmax m.num m.den
IsHit-between ray tri m e hit =
    subst (λ den. IsFromTo ray.tmin ray.tmax m.num den) (sym e.den)
    (subst (λ num. IsFromTo ray.tmin ray.tmax num (den_of ray tri)) (sym e.num) (hit.from, hit.to))

-- the fractions of the measured numbers are what a hit tells
pub Tells-from : (ray : RayValue) (tri : TriValue) (m : Measured) (hit : TriHit) →
    IsMeasured ray tri m →
    IsRatio hit.t m.num m.den → IsRatio hit.u m.second.volume m.den →
    IsRatio hit.v m.third.volume m.den → IsTrue hit.den_negative ↔ (m.den <ℤ pos 0) → Tells ray tri hit
Tells-from ray tri m hit e t u v negative = record {
  distance = subst (λ den. IsRatio hit.t (num_of ray tri) den) e.den
      (subst (λ num. IsRatio hit.t num m.den) e.num t);
  second_weight = subst (λ den. IsRatio hit.u (second_volume ray tri) den) e.den
      (subst (λ num. IsRatio hit.u num m.den) e.second.volume u);
  third_weight = subst (λ den. IsRatio hit.v (third_volume ray tri) den) e.den
      (subst (λ num. IsRatio hit.v num m.den) e.third.volume v);
  negative = subst (λ den. IsTrue hit.den_negative ↔ (den <ℤ pos 0)) e.den negative;
}
