-- That what is inside a box is decided: a distance either is, or isn't. A reader of the public contracts needs it not.
-- (Own.)
use Rattle.std.specs.Prelude.{ℕ, ℤ, ◌*◌}
use Rattle.ray_geom.specs.Boxes.{BoxValue}
use Rattle.ray_geom.specs.ObjectRay.{ObjectRayValue}
use Rattle.ray_geom.specs.Decided.{both, same_as, at_most, at_most_int}
use Rattle.ray_prune.specs.BoxSpan.{IsBetween, IsInside}

between_decided : (near far o m : ℤ) (n d : ℕ) → Dec (IsBetween near far o m n d)
between_decided near far o m n d =
    same_as (λ h. record { above = h.0; below = h.1 }) (λ h. (h.above, h.below)) (both (at_most_int _ _) (at_most_int _ _))

pub inside_decided : (object : ObjectRayValue) (box : BoxValue) (n d : ℕ) → Dec (IsInside object box n d)
inside_decided object box n d = same_as
    (λ h. record { x = h.0; y = h.1.0; z = h.1.1.0; from = h.1.1.1.0; to = h.1.1.1.1 })
    (λ h. (h.x, (h.y, (h.z, (h.from, h.to)))))
    (both (between_decided _ _ object.origin.x object.dir.x n d)
    (both (between_decided _ _ object.origin.y object.dir.y n d)
    (both (between_decided _ _ object.origin.z object.dir.z n d)
    (both (at_most (object.tmin * d) (65536 * n)) (at_most (65536 * n) (object.tmax * d))))))
