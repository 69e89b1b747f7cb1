-- The sides of entries are the least and the greatest of their sums along each axis.
use Rattle.std.proofs.Common.{◌≡◌, ◌∙◌, ◌+◌, ◌-◌, ◌*◌, ◌^◌, ◌<◌, ◌≤◌, ℕ, zero, suc, List, min, max, refl, sym, ap, ap₂, subst, arith}
use Rattle.std.specs.Prelude.{slice_index_or}
use Rattle.std.specs.List.{All, fold}
use Rattle.std.proofs.lemmas.List.Folds.{fold_along}
use Rattle.ray_stated.specs.declared.entry.Entry.{Entry}
use Rattle.ray_stated.specs.declared.reach.Side.{Side}
use Rattle.ray_stated.specs.declared.reach.Sides.{Sides}
use Rattle.ray_stated.specs.declared.reach.Reach.{Reach}
use Rattle.ray_stated.specs.Order.{greatest, least, width, widest}
use Rattle.ray_stated.specs.Entries.{IsSmall, entry_sum, entry_key}
use Rattle.ray_stated.specs.Reaches.{no_sides, widened, side_along, AreWithin}
use Rattle.ray_stated.proofs.Extremes.{greatest-all, least-all}

-- one side
pub record IsSide (f : Entry → ℕ) (es : List Entry) (side : Side) : Type 0 where
  pub lo : side.lo ≡ least f es
  pub hi : side.hi ≡ greatest f es

side_x : (es : List Entry) → IsSide (entry_sum 0) es (fold widened no_sides es).x
side_x es = record {
  lo = fold_along widened (λ a e. min a (entry_sum 0 e)) (λ (s : Sides) n. s.x.lo ≡ n) (λ s n e h. ap (λ m. min m (entry_sum 0 e)) h) no_sides (2 ^ 21) es refl;
  hi = fold_along widened (λ a e. max a (entry_sum 0 e)) (λ (s : Sides) n. s.x.hi ≡ n) (λ s n e h. ap (λ m. max m (entry_sum 0 e)) h) no_sides 0 es refl;
}

side_y : (es : List Entry) → IsSide (entry_sum 1) es (fold widened no_sides es).y
side_y es = record {
  lo = fold_along widened (λ a e. min a (entry_sum 1 e)) (λ (s : Sides) n. s.y.lo ≡ n) (λ s n e h. ap (λ m. min m (entry_sum 1 e)) h) no_sides (2 ^ 21) es refl;
  hi = fold_along widened (λ a e. max a (entry_sum 1 e)) (λ (s : Sides) n. s.y.hi ≡ n) (λ s n e h. ap (λ m. max m (entry_sum 1 e)) h) no_sides 0 es refl;
}

side_z : (es : List Entry) → IsSide (entry_sum 2) es (fold widened no_sides es).z
side_z es = record {
  lo = fold_along widened (λ a e. min a (entry_sum 2 e)) (λ (s : Sides) n. s.z.lo ≡ n) (λ s n e h. ap (λ m. min m (entry_sum 2 e)) h) no_sides (2 ^ 21) es refl;
  hi = fold_along widened (λ a e. max a (entry_sum 2 e)) (λ (s : Sides) n. s.z.hi ≡ n) (λ s n e h. ap (λ m. max m (entry_sum 2 e)) h) no_sides 0 es refl;
}

-- the way between its ends is the width
way_is : (f : Entry → ℕ) (es : List Entry) (side : Side) (n : ℕ) → IsSide f es side → n ≡ side.hi - side.lo → n ≡ width f es
way_is f es side n is e = e ∙ ap₂ (λ a b. a - b) is.hi is.lo

pub far_is : (es : List Entry) (sides : Sides) (x y z far : ℕ) → sides ≡ fold widened no_sides es → x ≡ sides.x.hi - sides.x.lo → y ≡ sides.y.hi - sides.y.lo
    → z ≡ sides.z.hi - sides.z.lo → far ≡ max (max x y) z → far ≡ max (max (width (entry_sum 0) es) (width (entry_sum 1) es)) (width (entry_sum 2) es)
far_is es sides x y z far is ex ey ez e =
    let wx = way_is (entry_sum 0) es sides.x x (subst (λ (s : Sides). IsSide (entry_sum 0) es s.x) (sym is) (side_x es)) ex in
    let wy = way_is (entry_sum 1) es sides.y y (subst (λ (s : Sides). IsSide (entry_sum 1) es s.y) (sym is) (side_y es)) ey in
    let wz = way_is (entry_sum 2) es sides.z z (subst (λ (s : Sides). IsSide (entry_sum 2) es s.z) (sym is) (side_z es)) ez in
    e ∙ (λ i. max (max (wx i) (wy i)) (wz i))

pub axis_is : (es : List Entry) (sides : Sides) (x y z axis : ℕ) → sides ≡ fold widened no_sides es → x ≡ sides.x.hi - sides.x.lo → y ≡ sides.y.hi - sides.y.lo
    → z ≡ sides.z.hi - sides.z.lo → axis ≡ widest x y z → axis ≡ widest (width (entry_sum 0) es) (width (entry_sum 1) es) (width (entry_sum 2) es)
axis_is es sides x y z axis is ex ey ez e =
    let wx = way_is (entry_sum 0) es sides.x x (subst (λ (s : Sides). IsSide (entry_sum 0) es s.x) (sym is) (side_x es)) ex in
    let wy = way_is (entry_sum 1) es sides.y y (subst (λ (s : Sides). IsSide (entry_sum 1) es s.y) (sym is) (side_y es)) ey in
    let wz = way_is (entry_sum 2) es sides.z z (subst (λ (s : Sides). IsSide (entry_sum 2) es s.z) (sym is) (side_z es)) ez in
    e ∙ (λ i. widest (wx i) (wy i) (wz i))

side_at : (es : List Entry) (axis : ℕ) → axis < 3 → IsSide (entry_sum axis) es (side_along axis (fold widened no_sides es))
side_at es zero lt = side_x es
side_at es (suc zero) lt = side_y es
side_at es (suc (suc zero)) lt = side_z es
side_at es (suc (suc (suc n))) lt = absurd (omega arith)

-- no key is beyond the ends of the reach along an axis
pub reach_holds : (es : List Entry) (sides : Sides) (side : Side) (axis : ℕ) (reach : Reach) → sides ≡ fold widened no_sides es → axis < 3
    → side ≡ side_along axis sides → reach.axis ≡ axis → reach.lo ≡ side.lo * 2 ^ 20 → reach.hi ≡ side.hi * 2 ^ 20 + (2 ^ 20 - 1) → All IsSmall es
    → AreWithin reach es
reach_holds es sides side axis reach is lt its at lo hi small =
    let whole : IsSide (entry_sum axis) es side =
    subst (IsSide (entry_sum axis) es) (sym (its ∙ ap (side_along axis) is)) (side_at es axis lt) in
    λ k d low.
    let e = slice_index_or es k d in
    let same : entry_key reach.axis e ≡ entry_key axis e = ap (λ a. entry_key a e) at in
    let above : least (entry_sum axis) es ≤ entry_sum axis e = least-all (entry_sum axis) es k d low in
    let below : entry_sum axis e ≤ greatest (entry_sum axis) es = greatest-all (entry_sum axis) es k d low in
    let number : e.item < 2 ^ 20 = small k d low in
    record {
      above = omega (arith, same, lo, whole.lo, above);
      below = omega (arith, same, hi, whole.hi, below, number);
    }
