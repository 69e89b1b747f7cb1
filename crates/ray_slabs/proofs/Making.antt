-- That the parts of a slope make it stand for its axis.
use Rattle.std.proofs.Common.{ℕ, ◌≡◌, ◌+◌, ◌*◌, ◌^◌, ◌≤◌, ◌<◌, sym, subst, ap, ◌∙◌, Bool, Option, Some, None, IfSome}
use Rattle.std.specs.Prelude.{ℤ, pos, ◌*ℤ◌, unsigned_abs}
use Rattle.ray_slabs.specs.declared.slope.Slope.{Slope}
use Rattle.ray_slabs.specs.Slopes.{is_falling, start_of, way_of, back_of, offset_of, IsFloor, IsMade, IsSlope}

-- the numbers of which a slope is made
pub record AreParts (det o m : ℤ) (shift : ℕ) (falling : Bool) (factor speed size : ℕ) (way back offset : ℤ) : Type 0 where
  pub moves : 0 < unsigned_abs m
  pub falling_is : falling ≡ is_falling det m
  pub size_is : size ≡ unsigned_abs det
  pub speed_is : speed ≡ unsigned_abs m * 2 ^ shift
  pub way_is : way ≡ way_of falling size back
  pub back_is : back ≡ back_of o m
  pub below : factor * speed ≤ size * 2 ^ 60
  pub above : size * 2 ^ 60 ≤ (factor + 1) * speed
  pub floor : IsFloor (way *ℤ pos (2 ^ 38)) speed offset

pub slope_made : (det o m : ℤ) (shift : ℕ) (falling : Bool) (factor speed size : ℕ) (way back offset : ℤ) (found : Option Slope) →
    AreParts det o m shift falling factor speed size way back offset → IfSome found (IsMade falling factor offset) → IfSome found (IsSlope det o m shift)
slope_made det o m shift falling factor speed size way back offset None parts made = tt
slope_made det o m shift falling factor speed size way back offset (Some slope) parts made =
    let start : way ≡ start_of det o m = parts.way_is ∙ (λ i. way_of (parts.falling_is i) (parts.size_is i) (parts.back_is i)) in
    let offset_is : offset_of slope.falling slope.start ≡ offset = ap (λ f. offset_of f slope.start) made.falling_is ∙ made.offset_is in
    let floor : IsFloor (start_of det o m *ℤ pos (2 ^ 38)) (unsigned_abs m * 2 ^ shift) (offset_of slope.falling slope.start) =
    subst (λ p. p) (λ i. IsFloor (start i *ℤ pos (2 ^ 38)) (parts.speed_is i) (sym offset_is i)) parts.floor in
    let below : slope.factor * (unsigned_abs m * 2 ^ shift) ≤ unsigned_abs det * 2 ^ 60 =
    subst (λ p. p) (λ i. (sym made.factor_is i * parts.speed_is i) ≤ (parts.size_is i * 2 ^ 60)) parts.below in
    let above : unsigned_abs det * 2 ^ 60 ≤ (slope.factor + 1) * (unsigned_abs m * 2 ^ shift) =
    subst (λ p. p) (λ i. (parts.size_is i * 2 ^ 60) ≤ ((sym made.factor_is i + 1) * parts.speed_is i)) parts.above in
    record {
      moves = parts.moves;
      way = made.falling_is ∙ parts.falling_is;
      factor_below = below;
      factor_above = above;
      offset = floor;
      start_short = made.start_short;
      factor_short = made.factor_short;
    }
