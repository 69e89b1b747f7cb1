-- Words of private calls alone, which a reader of the public contracts needs not: what is known of where a ray enters eight boxes, before
-- they are tested exactly.
use Rattle.std.specs.Prelude.{ℕ, pos, neg_ℤ, ◌≡◌, ◌+◌, ◌*◌, ◌<◌, ◌^◌, ◌≤◌, Option, Some, None, slice_index_or}
use Rattle.ray_geom.specs.declared.ratio.Ratio.{Ratio}
use Rattle.ray_geom.specs.Boxes.{BoxValue, IsBox, box_value}
use Rattle.ray_geom.specs.Vector.{vec3}
use Rattle.ray_geom.specs.ObjectRay.{ObjectRayValue}
use Rattle.ray_lanes.specs.declared.lanes.Lanes8.{Lanes8}
use Rattle.ray_lanes.specs.Overlap.{HasBit}
use Rattle.ray_slabs.specs.declared.slabs.Slabs.{Slabs}
use Rattle.ray_slabs.specs.Eights.{AreBoundsAt}
use Rattle.ray_wide.specs.Wides.{lane_box}
use Rattle.ray_nearest.specs.Adding.{IsLow}
use Rattle.ray_candidates.specs.Placements.{entry_in}
use Rattle.ray_walk.specs.declared.bounding.Eight.{Eight}

-- the box of all coordinates
abbrev pub whole : BoxValue
whole =
    box_value (vec3 (neg_ℤ (pos (2 ^ 19))) (neg_ℤ (pos (2 ^ 19))) (neg_ℤ (pos (2 ^ 19)))) (vec3 (pos (2 ^ 19)) (pos (2 ^ 19)) (pos (2 ^ 19)))

-- a distance that is no greater than that of a key
pub record IsFromKey (base key shift : ℕ) (low : Ratio) : Type 0 where
  pub num : low.num ≤ (base + key) * 2 ^ shift
  pub den : low.den ≡ 2 ^ 38

-- what slabs tell of eight boxes, with how their keys are counted
pub record IsMadeBy (slabs : Slabs) (lanes : Lanes8) (eight : Eight) : Type 0 where
  pub bounds : AreBoundsAt slabs lanes record { met = eight.met; keys = eight.keys }
  pub base : eight.base ≡ slabs.base
  pub shift : eight.shift ≡ slabs.shift

-- what is told of box k of eight is so: it isn't met where its bit isn't set, and not entered before its key
pub record IsEightAt (object : ObjectRayValue) (box : BoxValue) (k : ℕ) (eight : Eight) : Type 0 where
  pub missed : (HasBit eight.met k → ⊥) → entry_in object box ≡ None
  pub low : (low : Ratio) → IsFromKey eight.base (slice_index_or eight.keys k 0) eight.shift low → IsLow (entry_in object box) low

-- and of each lane that has a box
abbrev pub IsEight : ObjectRayValue → Lanes8 → Eight → Type 0
IsEight object lanes eight = (k : ℕ) → k < 8 → IsBox (lane_box lanes k) → IsEightAt object (lane_box lanes k) k eight

-- what slabs tell of eight boxes, with the bits of those that may be met
abbrev pub AreTold : Slabs → Lanes8 → Option Eight → ℕ → Type 0
AreTold slabs lanes None left = ⊥
AreTold slabs lanes (Some eight) left = IsMadeBy slabs lanes eight × (left ≡ eight.met)
