-- The boxes that rays are tested against: one over each cell of the height field, as an instance has them.
use Rattle.std.specs.Prelude.{ℕ, zero, suc, pos, negsuc, ◌≡◌, ◌+◌, ◌*◌, ◌/◌, ◌%◌, ◌<◌, ◌⊎◌, List, map}
use Rattle.std.specs.List.{range_with_len}
use Rattle.ray_geom.specs.Vector.{vec3}
use Rattle.ray_geom.specs.Transform.{MatrixValue, matrix_value}
use Rattle.ray_geom.specs.Boxes.{BoxValue, box_value}
use Rattle.ray_geom.specs.ObjectRay.{object_of}
use Rattle.ray_prune.specs.BoxSpan.{IsInside}
use Rattle.ray_bench.specs.declared.spot.Spot.{Spot}
use Rattle.ray_bench.specs.Rays.{aimed_of}

-- the instance's transform: (x, y, z) to (2 x, 2 y, 6 - z) (own)
abbrev pub transform : MatrixValue
transform =
    matrix_value (vec3 (pos 2) (pos 0) (pos 0)) (vec3 (pos 0) (pos 2) (pos 0)) (vec3 (pos 0) (pos 0) (negsuc 0))
    (vec3 (pos 0) (pos 0) (pos 6))

-- the box of a cell: from (4 i, 4 j, 0) to (4 i + 4, 4 j + 4, 6) for column i and row j; in the world it
-- lies over the cell, up to the height 6 (own)
abbrev pub box_of : ℕ → BoxValue
box_of cell =
    let x = 4 * (cell % 8) in
    let y = 4 * (cell / 8) in
    box_value (vec3 (pos x) (pos y) (pos 0)) (vec3 (pos (x + 4)) (pos (y + 4)) (pos 6))

-- the spot k: the ray aimed at the triangle k, with the box of its cell where k is even, and with that of
-- the next cell where k is odd (own)
abbrev pub spot_of : ℕ → Spot
spot_of k = record { ray = object_of (aimed_of k) transform; box3 = box_of ((k / 2 + k % 2) % 64) }

-- the spots before they begin anew (own)
abbrev pub all_spots : List Spot
all_spots = map spot_of (range_with_len 0 128)

-- the ray meets the box: some distance n / d is inside
pub record IsMet (spot : Spot) : Type 0 where
  pub n : ℕ
  pub d : ℕ
  pub d_positive : 0 < d
  pub inside : IsInside spot.ray spot.box3 n d

-- so many of the first n spots are met, where the 128 spots begin anew at their end (own)
abbrev pub AreMet : ℕ → ℕ → Type 0
AreMet zero met = met ≡ 0
AreMet (suc n) met =
    (IsMet (spot_of (n % 128)) × ((before : ℕ) × AreMet n before × (met ≡ before + 1))) ⊎
    ((¬ IsMet (spot_of (n % 128))) × AreMet n met)
