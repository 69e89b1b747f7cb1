-- A corner of a box in one number, and back; the lesser and the greater of two go coordinate by coordinate.
use Rattle.std.proofs.Common.{◌≡◌, ℕ, ◌^◌, ◌<◌, ℤ, pos, negsuc, ◌+ℤ◌, ◌-ℤ◌, ◌≤ℤ◌, min, max, refl, sym, ap, ◌∙◌, arith}
use Rattle.std.specs.Int.{int_min, int_max}
use Rattle.std.proofs.lemmas.Int.{ints, clamps}
use Rattle.ray_geom.specs.declared.vec3.Vec3.{Vec3}
use Rattle.ray_geom.specs.Vector.{IsWithin, IsShort, vec3}
use Rattle.ray_geom.specs.LeastBoxes.{lesser_of, greater_of}
use Rattle.ray_prune.specs.BoxReach.{natural_part}
use Rattle.ray_climb.specs.Halves.{packed, x_of, y_of, z_of, raised, half_of, lesser_half, greater_half, corner_of}

natural : (z : ℤ) → pos 0 ≤ℤ z → pos (natural_part z) ≡ z
natural (pos n) h = refl
natural (negsuc n) h = absurd (omega (arith, ints))

-- a coordinate counted from the least one
raised_is : (c : ℤ) → IsWithin (2 ^ 19) c → pos (raised c) ≡ c +ℤ pos (2 ^ 19)
raised_is c w = let a = w.above in let b = w.below in natural (c +ℤ pos (2 ^ 19)) (omega (arith, ints))

pub raised_small : (c : ℤ) → IsWithin (2 ^ 19) c → raised c < 2 ^ 21
raised_small c w = let e = raised_is c w in let a = w.above in let b = w.below in omega (arith, ints)

pub raised_back : (c : ℤ) → IsWithin (2 ^ 19) c → pos (raised c) -ℤ pos (2 ^ 19) ≡ c
raised_back c w = let e = raised_is c w in omega (arith, ints)

raised_min : (a b : ℤ) → IsWithin (2 ^ 19) a → IsWithin (2 ^ 19) b → raised (int_min a b) ≡ min (raised a) (raised b)
raised_min a b p q =
    let x = raised_is a p in
    let y = raised_is b q in
    let z = raised_is (int_min a b) (record { above = let u = p.above in let v = q.above in omega (arith, ints, clamps); below = let u = p.below in let v = q.below in omega (arith, ints, clamps) }) in
    omega (arith, ints, clamps)

raised_max : (a b : ℤ) → IsWithin (2 ^ 19) a → IsWithin (2 ^ 19) b → raised (int_max a b) ≡ max (raised a) (raised b)
raised_max a b p q =
    let x = raised_is a p in
    let y = raised_is b q in
    let z = raised_is (int_max a b) (record { above = let u = p.above in let v = q.above in omega (arith, ints, clamps); below = let u = p.below in let v = q.below in omega (arith, ints, clamps) }) in
    omega (arith, ints, clamps)

-- three numbers in one, and each again
pub x_packed : (x y z : ℕ) → y < 2 ^ 21 → z < 2 ^ 21 → x_of (packed x y z) ≡ x
x_packed x y z p q = omega arith

pub y_packed : (x y z : ℕ) → y < 2 ^ 21 → z < 2 ^ 21 → y_of (packed x y z) ≡ y
y_packed x y z p q = omega arith

pub z_packed : (x y z : ℕ) → y < 2 ^ 21 → z < 2 ^ 21 → z_of (packed x y z) ≡ z
z_packed x y z p q = omega arith

module _ (v : Vec3) (short : IsShort (2 ^ 19) v) where
  pub x_half : x_of (half_of v) ≡ raised v.x
  unfolding half_of
  x_half = x_packed (raised v.x) (raised v.y) (raised v.z) (raised_small v.y short.y_within) (raised_small v.z short.z_within)

  pub y_half : y_of (half_of v) ≡ raised v.y
  unfolding half_of
  y_half = y_packed (raised v.x) (raised v.y) (raised v.z) (raised_small v.y short.y_within) (raised_small v.z short.z_within)

  pub z_half : z_of (half_of v) ≡ raised v.z
  unfolding half_of
  z_half = z_packed (raised v.x) (raised v.y) (raised v.z) (raised_small v.y short.y_within) (raised_small v.z short.z_within)

-- the corner again
pub corner_again : (v : Vec3) → IsShort (2 ^ 19) v → corner_of (half_of v) ≡ v
corner_again v short =
    let x : pos (x_of (half_of v)) -ℤ pos (2 ^ 19) ≡ v.x = ap (λ n. pos n -ℤ pos (2 ^ 19)) (x_half v short) ∙ raised_back v.x short.x_within in
    let y : pos (y_of (half_of v)) -ℤ pos (2 ^ 19) ≡ v.y = ap (λ n. pos n -ℤ pos (2 ^ 19)) (y_half v short) ∙ raised_back v.y short.y_within in
    let z : pos (z_of (half_of v)) -ℤ pos (2 ^ 19) ≡ v.z = ap (λ n. pos n -ℤ pos (2 ^ 19)) (z_half v short) ∙ raised_back v.z short.z_within in
    λ i. vec3 (x i) (y i) (z i)

-- the lesser of two corners
pub lesser_packed : (a b : Vec3) → IsShort (2 ^ 19) a → IsShort (2 ^ 19) b → half_of (lesser_of a b) ≡ lesser_half (half_of a) (half_of b)
unfolding half_of lesser_half
lesser_packed a b p q = λ i. packed
    ((raised_min a.x b.x p.x_within q.x_within ∙ (λ j. min (sym (x_half a p) j) (sym (x_half b q) j))) i)
    ((raised_min a.y b.y p.y_within q.y_within ∙ (λ j. min (sym (y_half a p) j) (sym (y_half b q) j))) i)
    ((raised_min a.z b.z p.z_within q.z_within ∙ (λ j. min (sym (z_half a p) j) (sym (z_half b q) j))) i)

pub greater_packed : (a b : Vec3) → IsShort (2 ^ 19) a → IsShort (2 ^ 19) b → half_of (greater_of a b) ≡ greater_half (half_of a) (half_of b)
unfolding half_of greater_half
greater_packed a b p q = λ i. packed
    ((raised_max a.x b.x p.x_within q.x_within ∙ (λ j. max (sym (x_half a p) j) (sym (x_half b q) j))) i)
    ((raised_max a.y b.y p.y_within q.y_within ∙ (λ j. max (sym (y_half a p) j) (sym (y_half b q) j))) i)
    ((raised_max a.z b.z p.z_within q.z_within ∙ (λ j. max (sym (z_half a p) j) (sym (z_half b q) j))) i)

-- a half has 63 bits
pub half_small : (v : Vec3) → IsShort (2 ^ 19) v → half_of v < 2 ^ 63
unfolding half_of
half_small v short =
    let x = raised_small v.x short.x_within in
    let y = raised_small v.y short.y_within in
    let z = raised_small v.z short.z_within in
    omega arith
