-- A box that holds what is inside another nests it.
use Rattle.std.proofs.Common.{ℕ}
use Rattle.ray_geom.specs.Boxes.{BoxValue, IsPart}
use Rattle.ray_geom.specs.ObjectRay.{ObjectRayValue}
use Rattle.ray_prune.specs.BoxSpan.{IsInside}
use Rattle.ray_prune.proofs.Inside.{IsInside-part}
use Rattle.ray_nearest.specs.Parts.{Nests}
use Rattle.ray_candidates.specs.Placements.{entry_in}
use Rattle.ray_candidates.proofs.Opened.{IsEntered, inside_open, open_inside}

-- what is inside one box, for one ray, is inside another, for another
abbrev pub Carries : ObjectRayValue → BoxValue → ObjectRayValue → BoxValue → Type 0
Carries object inner other outer = (n d : ℕ) → IsInside object inner n d → IsInside other outer n d

-- then the other nests the one
pub nests_carried : (object other : ObjectRayValue) (inner outer : BoxValue) → Carries object inner other outer
    → Nests (entry_in other outer) (entry_in object inner)
nests_carried object other inner outer carries t met =
    let e : IsEntered object inner t = inside_open object inner t met in
    open_inside other outer e.at.num e.at.den e.at.positive (carries e.at.num e.at.den e.inside) t e.before

-- as a box nests its parts
pub nests_part : (object : ObjectRayValue) (inner outer : BoxValue) → IsPart inner outer → Nests (entry_in object outer) (entry_in object inner)
nests_part object inner outer part = nests_carried object object inner outer (λ n d i. IsInside-part object inner outer part n d i)
