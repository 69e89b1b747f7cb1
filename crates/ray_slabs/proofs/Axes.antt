-- The two bounds of a slope bound the key wherever the ray is between the planes, and are not far from it.
use Rattle.std.proofs.Common.{ℕ, ◌≡◌, ◌+◌, ◌*◌, ◌^◌, ◌≤◌, ◌<◌, refl, sym, subst, Bool, true, false, lit<, arith}
use Rattle.std.specs.Prelude.{ℤ, pos, ◌+ℤ◌, ◌-ℤ◌, ◌*ℤ◌, ◌≤ℤ◌, unsigned_abs}
use Rattle.std.proofs.lemmas.Int.{ints}
use Rattle.std.proofs.Math.IntN.{*ℤ_comm}
use Rattle.std.proofs.Math.Nat.{one-le-pow}
use Rattle.ray_geom.proofs.Ring.{+ℤ-*ℤ, sub_ℤ-*ℤ}
use Rattle.ray_geom.specs.Vector.{IsWithin}
use Rattle.ray_prune.specs.BoxSpan.{IsOnAxis}
use Rattle.ray_prune.proofs.Scaling.{times_rises}
use Rattle.ray_slabs.specs.declared.slope.Slope.{Slope}
use Rattle.ray_slabs.specs.Keys.{key_at, plane_of, high_half, IsFrom}
use Rattle.ray_slabs.specs.Axes.{crossed_by, first_by, last_by}
use Rattle.ray_slabs.specs.Slopes.{start_of, offset_of, IsFloor, IsSlope}
use Rattle.ray_slabs.proofs.Products.{lifted_short, high_below, high_above}
use Rattle.ray_slabs.proofs.Crossings.{key_below, key_above, reached, not_passed}
use Rattle.ray_slabs.proofs.Ways.{way_to, lifted, under_way, on_axis}

-- a slope without its axis: size is |det|, speed |m| 2^shift, way that to the plane at -2^19
pub record IsLinear (falling : Bool) (factor size speed : ℕ) (start way : ℤ) : Type 0 where
  pub factor_below : factor * speed ≤ size * 2 ^ 60
  pub factor_above : size * 2 ^ 60 ≤ (factor + 1) * speed
  pub offset : IsFloor (way *ℤ pos (2 ^ 38)) speed (offset_of falling start)

-- what is crossed is at most the way there, and at most 3 less
pub record IsNear (falling : Bool) (factor size speed : ℕ) (start way : ℤ) (l : ℕ) : Type 0 where
  pub below : (crossed_by falling factor start (l * 1024) *ℤ pos speed) ≤ℤ (way_to falling size way l *ℤ pos (2 ^ 38))
  pub above : (way_to falling size way l *ℤ pos (2 ^ 38)) ≤ℤ ((crossed_by falling factor start (l * 1024) +ℤ pos 3) *ℤ pos speed)

pub near_it : (falling : Bool) (factor size speed : ℕ) (start way : ℤ) (l : ℕ) → IsLinear falling factor size speed start way → l ≤ 2 ^ 20 →
    IsNear falling factor size speed start way l
near_it false factor size speed start way l is short =
    let h = is.offset.below in
    let k = is.offset.above in
    let v = high_half (l * 1024) factor in
    let p = high_below l factor size speed is.factor_below in
    let q = high_above l factor size speed short is.factor_above in
    let e = +ℤ-*ℤ start (pos v) (pos speed) in
    let e3 = +ℤ-*ℤ (start +ℤ pos v) (pos 3) (pos speed) in
    let f = +ℤ-*ℤ way (pos (l * size)) (pos (2 ^ 38)) in
    record { below = omega (arith, ints); above = omega (arith, ints) }
near_it true factor size speed start way l is short =
    let h = is.offset.below in
    let k = is.offset.above in
    let v = high_half (l * 1024) factor in
    let p = high_below l factor size speed is.factor_below in
    let q = high_above l factor size speed short is.factor_above in
    let e = sub_ℤ-*ℤ start (pos v) (pos speed) in
    let e2 = +ℤ-*ℤ start (pos 2) (pos speed) in
    let e3 = +ℤ-*ℤ (start -ℤ pos v) (pos 3) (pos speed) in
    let f = sub_ℤ-*ℤ way (pos (l * size)) (pos (2 ^ 38)) in
    record { below = omega (arith, ints); above = omega (arith, ints) }

pub one_below : (shift : ℕ) → 0 < 2 ^ shift
one_below shift = one-le-pow shift 2 (lit< tt)

linear : (det o m : ℤ) (shift : ℕ) (slope : Slope) → IsSlope det o m shift slope →
    IsLinear slope.falling slope.factor (unsigned_abs det) (unsigned_abs m * 2 ^ shift) slope.start (start_of det o m)
linear det o m shift slope is = record { factor_below = is.factor_below; factor_above = is.factor_above; offset = is.offset }

-- the planes of a box, by the way of a slope
first_short : (falling : Bool) (lo hi : ℤ) → IsWithin (2 ^ 19) lo → IsWithin (2 ^ 19) hi → first_by falling (lifted lo) (lifted hi) ≤ 2 ^ 20
first_short false lo hi a b = lifted_short lo a
first_short true lo hi a b = lifted_short hi b

last_short : (falling : Bool) (lo hi : ℤ) → IsWithin (2 ^ 19) lo → IsWithin (2 ^ 19) hi → last_by falling (lifted lo) (lifted hi) ≤ 2 ^ 20
last_short false lo hi a b = lifted_short hi b
last_short true lo hi a b = lifted_short lo a

first_stored : (falling : Bool) (lo hi : ℕ) → first_by falling (lo * 1024) (hi * 1024) ≡ first_by falling lo hi * 1024
first_stored false lo hi = refl
first_stored true lo hi = refl

last_stored : (falling : Bool) (lo hi : ℕ) → last_by falling (lo * 1024) (hi * 1024) ≡ last_by falling lo hi * 1024
last_stored false lo hi = refl
last_stored true lo hi = refl

-- the keys of a slope
abbrev pub slope_near : Slope → ℤ → ℤ → ℤ
slope_near slope lo hi = crossed_by slope.falling slope.factor slope.start (first_by slope.falling (plane_of lo) (plane_of hi))

abbrev pub slope_far : Slope → ℤ → ℤ → ℤ
slope_far slope lo hi = crossed_by slope.falling slope.factor slope.start (last_by slope.falling (plane_of lo) (plane_of hi)) +ℤ pos 3

-- where the ray is between two planes, the key is between the bounds
pub slope_bounds : (det o m : ℤ) (shift : ℕ) (slope : Slope) → IsSlope det o m shift slope → (lo hi : ℤ) (n d : ℕ) →
    IsWithin (2 ^ 19) lo → IsWithin (2 ^ 19) hi → 0 < d → IsOnAxis det lo hi o m n d →
    IsFrom (slope_near slope lo hi) (slope_far slope lo hi) (pos (key_at shift n d))
slope_bounds det o m shift slope is lo hi n d a b positive h =
    let under = under_way det lo hi o m n d a b h in
    let first = near_it slope.falling slope.factor (unsigned_abs det) (unsigned_abs m * 2 ^ shift) slope.start (start_of det o m)
    (first_by slope.falling (lifted lo) (lifted hi)) (linear det o m shift slope is) (first_short slope.falling lo hi a b) in
    let last = near_it slope.falling slope.factor (unsigned_abs det) (unsigned_abs m * 2 ^ shift) slope.start (start_of det o m)
    (last_by slope.falling (lifted lo) (lifted hi)) (linear det o m shift slope is) (last_short slope.falling lo hi a b) in
    let entered : (way_to slope.falling (unsigned_abs det) (start_of det o m) (first_by slope.falling (lifted lo) (lifted hi)) *ℤ pos d) ≤ℤ pos (n * unsigned_abs m) =
    subst (λ f. (way_to f (unsigned_abs det) (start_of det o m) (first_by f (lifted lo) (lifted hi)) *ℤ pos d) ≤ℤ pos (n * unsigned_abs m)) (sym is.way) under.entered in
    let not_left : pos (n * unsigned_abs m) ≤ℤ (way_to slope.falling (unsigned_abs det) (start_of det o m) (last_by slope.falling (lifted lo) (lifted hi)) *ℤ pos d) =
    subst (λ f. pos (n * unsigned_abs m) ≤ℤ (way_to f (unsigned_abs det) (start_of det o m) (last_by f (lifted lo) (lifted hi)) *ℤ pos d)) (sym is.way) under.not_left in
    record {
      at_least = rw first_stored (key_below (crossed_by slope.falling slope.factor slope.start (first_by slope.falling (lifted lo) (lifted hi) * 1024)) _ n d (unsigned_abs m) (2 ^ 38) (2 ^ shift)
          is.moves positive (lit< tt) (one_below shift) first.below entered);
      at_most = rw last_stored (key_above (crossed_by slope.falling slope.factor slope.start (last_by slope.falling (lifted lo) (lifted hi) * 1024) +ℤ pos 3) _ n d (unsigned_abs m) (2 ^ 38) (2 ^ shift)
          is.moves positive (lit< tt) (one_below shift) last.above not_left);
    }

rises : (a b : ℤ) (k : ℕ) → a ≤ℤ b → (a *ℤ pos k) ≤ℤ (b *ℤ pos k)
rises a b k h =
    let e = times_rises k a b h in
    omega (arith, ints, *ℤ_comm a (pos k), *ℤ_comm b (pos k))

-- a key with a margin of 3 on both sides is that of a distance at which the ray is between the planes
pub slope_sure : (det o m : ℤ) (shift : ℕ) (slope : Slope) → IsSlope det o m shift slope → (lo hi : ℤ) (k : ℕ) →
    IsWithin (2 ^ 19) lo → IsWithin (2 ^ 19) hi → (slope_near slope lo hi +ℤ pos 3) ≤ℤ pos k → (pos k +ℤ pos 3) ≤ℤ slope_far slope lo hi →
    IsOnAxis det lo hi o m (k * 2 ^ shift) (2 ^ 38)
slope_sure det o m shift slope is lo hi k a b after before =
    let near = crossed_by slope.falling slope.factor slope.start (first_by slope.falling (lifted lo) (lifted hi) * 1024) in
    let far = crossed_by slope.falling slope.factor slope.start (last_by slope.falling (lifted lo) (lifted hi) * 1024) in
    let speed = unsigned_abs m * 2 ^ shift in
    let way_in = way_to slope.falling (unsigned_abs det) (start_of det o m) (first_by slope.falling (lifted lo) (lifted hi)) in
    let way_out = way_to slope.falling (unsigned_abs det) (start_of det o m) (last_by slope.falling (lifted lo) (lifted hi)) in
    let first = near_it slope.falling slope.factor (unsigned_abs det) speed slope.start (start_of det o m)
    (first_by slope.falling (lifted lo) (lifted hi)) (linear det o m shift slope is) (first_short slope.falling lo hi a b) in
    let last = near_it slope.falling slope.factor (unsigned_abs det) speed slope.start (start_of det o m)
    (last_by slope.falling (lifted lo) (lifted hi)) (linear det o m shift slope is) (last_short slope.falling lo hi a b) in
    let later : (near +ℤ pos 3) ≤ℤ pos k = rw (← first_stored slope.falling (lifted lo) (lifted hi)) after in
    let sooner : pos k ≤ℤ far =
    let s : (pos k +ℤ pos 3) ≤ℤ (far +ℤ pos 3) = rw (← last_stored slope.falling (lifted lo) (lifted hi)) before in omega (arith, ints) in
    let first_done = rises (near +ℤ pos 3) (pos k) speed later in
    let last_ahead = rises (pos k) far speed sooner in
    let first_way = first.above in
    let last_way = last.below in
    let x : (way_in *ℤ pos (2 ^ 38)) ≤ℤ pos (k * 2 ^ shift * unsigned_abs m) =
    reached k way_in (unsigned_abs m) (2 ^ 38) (2 ^ shift) (omega (arith, ints)) in
    let y : pos (k * 2 ^ shift * unsigned_abs m) ≤ℤ (way_out *ℤ pos (2 ^ 38)) =
    not_passed k way_out (unsigned_abs m) (2 ^ 38) (2 ^ shift) (omega (arith, ints)) in
    on_axis det lo hi o m (k * 2 ^ shift) (2 ^ 38) a b
    record {
      entered = subst (λ f. (way_to f (unsigned_abs det) (start_of det o m) (first_by f (lifted lo) (lifted hi)) *ℤ pos (2 ^ 38)) ≤ℤ pos (k * 2 ^ shift * unsigned_abs m)) is.way x;
      not_left = subst (λ f. pos (k * 2 ^ shift * unsigned_abs m) ≤ℤ (way_to f (unsigned_abs det) (start_of det o m) (last_by f (lifted lo) (lifted hi)) *ℤ pos (2 ^ 38))) is.way y;
    }
