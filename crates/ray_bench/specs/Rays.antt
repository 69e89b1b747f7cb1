-- The rays that are tested.
use Rattle.std.specs.Prelude.{ℕ, pos, negsuc, ◌+◌, ◌*◌, ◌/◌, ◌%◌, ◌^◌, ◌==◌, List, map, if◌then◌else◌}
use Rattle.std.specs.List.{range_with_len}
use Rattle.ray_geom.specs.Vector.{vec3}
use Rattle.ray_geom.specs.Scene.{RayValue, ray_value}

-- the ray straight down from (x, y, 4096), for distances up to 2^29 / 65536 (own)
abbrev pub down_from : ℕ → ℕ → RayValue
down_from x y = ray_value (vec3 (pos x) (pos y) (pos 4096)) (vec3 (pos 0) (pos 0) (negsuc 0)) 0 (2 ^ 29)

-- the generator's ray r: from above ((37 r + 3) mod 72, (53 r + 1) mod 72) (own)
abbrev pub ray_of : ℕ → RayValue
ray_of r = down_from ((37 * r + 3) % 72) ((53 * r + 1) % 72)

-- the ray aimed at the triangle k of the field: from above the place of its cell that is (5, 3) in the
-- lower triangle and (3, 5) in the upper one (own)
abbrev pub aimed_of : ℕ → RayValue
aimed_of k =
    let x = 8 * (k / 2 % 8) in
    let y = 8 * (k / 2 / 8) in
    if k % 2 == 0 then down_from (x + 5) (y + 3) else down_from (x + 3) (y + 5)

-- the rays of the generator before they begin anew (own)
abbrev pub rays : List RayValue
rays = map ray_of (range_with_len 0 1024)
