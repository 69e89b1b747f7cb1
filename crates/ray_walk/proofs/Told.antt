-- What slabs tell of where a ray enters a box.
use Rattle.std.proofs.Common.{ℕ, ℤ, pos, ◌≡◌, ◌+◌, ◌*◌, ◌^◌, ◌≤◌, ◌+ℤ◌, ◌≤ℤ◌, Option, Some, None, option_map, refl, sym, ap, subst, slice_index_or, arith}
use Rattle.std.specs.Prelude.{IfSome}
use Rattle.std.specs.Int.{int_max}
use Rattle.std.proofs.lemmas.Int.{clamps, ints}
use Rattle.std.proofs.Math.Nat.{mul-le-mul_right, div-mul-le_self}
use Rattle.ray_geom.specs.declared.ratio.Ratio.{Ratio}
use Rattle.ray_geom.specs.Boxes.{BoxValue, IsBox, IsPart}
use Rattle.ray_geom.specs.ObjectRay.{ObjectRayValue}
use Rattle.ray_prune.specs.declared.reach.Reach.{Reach}
use Rattle.ray_prune.specs.BoxReach.{reach_of}
use Rattle.ray_prune.specs.BoxSpan.{IsReach}
use Rattle.ray_prune.proofs.Entries.{reach_of-some}
use Rattle.ray_lanes.specs.declared.lanes.Lanes8.{Lanes8}
use Rattle.ray_slabs.specs.declared.slabs.Slabs.{Slabs}
use Rattle.ray_slabs.specs.Bounds.{AreBounds, IsKept, entry_key, exit_key, planes_of}
use Rattle.ray_slabs.specs.Eights.{IsBoundAt, any_key}
use Rattle.ray_slabs.specs.Keys.{key_at, local_key}
use Rattle.ray_wide.specs.Wides.{lane_box}
use Rattle.ray_nearest.specs.declared.node.WalkNode.{WalkNode}
use Rattle.ray_nearest.specs.declared.node.WalkNode.TheVariants.{TopInner, TopLeaf, Inner, Leaf}
use Rattle.ray_nearest.specs.Adding.{IsLow, MayWait}
use Rattle.ray_candidates.proofs.Opened.{le_tells}
use Rattle.ray_walk.specs.declared.bounding.Eight.{Eight}
use Rattle.ray_walk.specs.Bounding.{IsEight, IsEightAt, IsFromKey, IsMadeBy, whole}

-- each box is in the box of all coordinates
part-of-whole : (box : BoxValue) → IsBox box → IsPart box whole
part-of-whole box is = record {
  above = record { x = is.lo_short.x_within.above; y = is.lo_short.y_within.above; z = is.lo_short.z_within.above };
  below = record { x = is.hi_short.x_within.below; y = is.hi_short.y_within.below; z = is.hi_short.z_within.below };
}

-- ---- a bound

key_not_below : (a b c : ℤ) → pos 0 ≤ℤ int_max (int_max (int_max (pos 0) a) b) c
key_not_below a b c = omega (arith, ints, clamps)

short-key : (base key : ℕ) → local_key base key ≤ℤ any_key
short-key base key = omega (arith, ints, clamps)

-- where the key of n / d is no less than a number, a distance of that number is no greater than n / d
below-key : (shift n d number : ℕ) (low : Ratio) → number ≤ key_at shift n d → low.num ≤ number * 2 ^ shift → low.den ≡ 2 ^ 38
    → low.num * d ≤ n * low.den
below-key shift n d number low below num den = by (key_at shift n d) below (div-mul-le_self (n * 2 ^ 38) (d * 2 ^ shift))
  where
    by : (k : ℕ) → number ≤ k → k * (d * 2 ^ shift) ≤ n * 2 ^ 38 → low.num * d ≤ n * low.den
    by k h whole_ =
        let first = mul-le-mul_right (d * 2 ^ shift) h in
        let second = mul-le-mul_right d num in
        let third : n * low.den ≡ n * 2 ^ 38 = ap (λ x. n * x) den in
        omega (arith, first, second, third, whole_)

-- ---- what is told

module _ (object : ObjectRayValue) (box : BoxValue) (is : IsBox box) (slabs : Slabs) (bounds : AreBounds object whole None slabs) where
  abbrev in-key : ℤ
  in-key = entry_key slabs (planes_of box)

  kept : (r : Reach) → IsReach object box r → IsKept slabs box r.entry.num r.entry.den
  kept r some = bounds.kept box r.entry.num r.entry.den is (part-of-whole box is) r.entry.positive some.entry tt

  missed-by : (o : Option Reach) → IfSome o (IsReach object box) → (in-key ≤ℤ exit_key slabs any_key (planes_of box) → ⊥)
      → option_map (λ (r : Reach). r.entry) o ≡ None
  missed-by None some not = refl
  missed-by (Some r) some not =
      absurd (not ((kept r some).kept any_key (short-key slabs.base (key_at slabs.shift r.entry.num r.entry.den))))

  low-by : (o : Option Reach) → IfSome o (IsReach object box) → (key : ℕ) → pos key ≡ in-key → (low : Ratio) → IsFromKey slabs.base key slabs.shift low
      → IsLow (option_map (λ (r : Reach). r.entry) o) low
  low-by None some key is_key low from = tt
  low-by (Some r) some key is_key low from =
      let below : (pos slabs.base +ℤ pos key) ≤ℤ pos (key_at slabs.shift r.entry.num r.entry.den) =
      subst (λ z. (pos slabs.base +ℤ z) ≤ℤ pos (key_at slabs.shift r.entry.num r.entry.den)) (sym is_key) (kept r some).lower in
      le_tells (low.num * r.entry.den) (r.entry.num * low.den)
      (below-key slabs.shift r.entry.num r.entry.den (slabs.base + key) low (natural slabs.base key (key_at slabs.shift r.entry.num r.entry.den) below) from.num from.den)
    where
      natural : (b x k : ℕ) → (pos b +ℤ pos x) ≤ℤ pos k → b + x ≤ k
      natural b x k h = omega (arith, ints)

  pub eight-at : (k : ℕ) (eight : Eight) → IsBoundAt slabs box k record { met = eight.met; keys = eight.keys } → eight.base ≡ slabs.base → eight.shift ≡ slabs.shift
      → IsEightAt object box k eight
  eight-at k eight told base shift = record {
    missed = λ not. missed-by (reach_of object box) (reach_of-some object box) (λ h. not (told.kept.1 h));
    low = λ low from. low-by (reach_of object box) (reach_of-some object box) (slice_index_or eight.keys k 0) told.key low
        (subst (λ b. IsFromKey b (slice_index_or eight.keys k 0) slabs.shift low) base
        (subst (λ s. IsFromKey eight.base (slice_index_or eight.keys k 0) s low) shift from));
  }

-- of all eight
pub eight-is : (object : ObjectRayValue) (slabs : Slabs) → AreBounds object whole None slabs → (lanes : Lanes8) (eight : Eight) → IsMadeBy slabs lanes eight
    → IsEight object lanes eight
eight-is object slabs bounds lanes eight made k few is =
    eight-at object (lane_box lanes k) is slabs bounds k eight (made.bounds k few is) made.base made.shift

-- ---- where nodes wait

-- what isn't a leaf may wait before its entry
pub low-waits : (n : WalkNode) (entry : Option Ratio) (e : Ratio) → IsLow entry e → ((i m : ℕ) → n ≡ Leaf i m → ⊥) → MayWait entry n e
low-waits (TopInner n) entry e low not = low
low-waits (TopLeaf n) entry e low not = low
low-waits (Inner i n) entry e low not = low
low-waits (Leaf i n) entry e low not = absurd (not i n refl)
