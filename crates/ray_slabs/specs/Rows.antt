-- Eight numbers at once, of which no clause of a public call speaks.
use Rattle.std.specs.Prelude.{ℕ, ℤ, pos, ◌+◌, ◌-◌, ◌*◌, ◌/◌, ◌%◌, ◌^◌, ◌+ℤ◌, nat_le, nat_lt, ◌&&◌, cond, List, map}
use Rattle.std.specs.Simd.Lanes.{zip2}
use Rattle.std.specs.Int.{w32, cast_unsigned}
use Rattle.ray_prune.specs.BoxReach.{natural_part}

-- a key with 2^31 more
abbrev pub lifted : ℤ → ℕ
lifted key = natural_part (key +ℤ pos (2 ^ 31))

-- a plane as how far it is from -2^19
abbrev pub plane_of_word : ℤ → ℕ
plane_of_word p = (2 ^ 19 + cast_unsigned w32 p) % 2 ^ 32

-- how far it is from the plane at -2^19, in keys
abbrev pub high_of_word : ℕ → ℕ → ℕ
high_of_word factor plane = (plane * factor % 2 ^ 64 / 2 ^ 22) % 2 ^ 32

abbrev pub high_row : List ℕ → ℕ → List ℕ
high_row planes factor = map (high_of_word factor) planes

abbrev pub keys_over : ℕ → List ℕ → List ℕ
keys_over start row = map (λ a. (start + a) % 2 ^ 32) row

abbrev pub keys_under : ℕ → List ℕ → List ℕ
keys_under start row = map (λ a. (start + (2 ^ 32 - a)) % 2 ^ 32) row

abbrev pub greater_row : List ℕ → List ℕ → List ℕ
greater_row a b = zip2 (λ x y. cond (nat_lt x y) y x) a b

abbrev pub lesser_row : List ℕ → List ℕ → List ℕ
lesser_row a b = zip2 (λ x y. cond (nat_lt x y) x y) a b

-- a plane as it is stored, with 2^31 more
abbrev pub stored_word : ℕ → ℕ
stored_word p = (p * 1024 % 2 ^ 32 + 2 ^ 31) % 2 ^ 32

abbrev pub overlap_row : List ℕ → List ℕ → ℕ → ℕ → ℕ → List ℕ
overlap_row lo hi from to other = zip2 (λ l h. cond (nat_le (stored_word l) to && nat_le from (stored_word h)) 0 other) lo hi

-- eight planes
abbrev pub planes_row : List ℤ → List ℕ
planes_row row = keys_over (2 ^ 19) (map (cast_unsigned w32) row)
