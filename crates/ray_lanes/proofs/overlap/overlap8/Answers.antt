use Rattle.std.proofs.Common.{rules, ◌≡◌, ◌∙◌, ◌<◌, ℕ, zero, suc, ℤ, List, [], length, get_or, arith, to_z, of_z, to_z-of_z, FitsSigned, w32}
use Rattle.ray_lanes.specs.declared.lanes.Lanes8.{Lanes8}
use Rattle.ray_lanes.specs.declared.lanes.Window.{Window}
use Rattle.ray_lanes.specs.Overlap.{on_axis}
use Rattle.ray_lanes.specs.Masks.{axis_tests, mask_of}
use Rattle.ray_lanes.proofs.Bits.{AreLong, IsMask, all-fits, all-bits}
use Rattle.ray_lanes.proofs.overlap.overlap8.Goals as goal

-- a mask by a window's numbers as they were handed over
mask_by : (lanes : Lanes8) (window : Window) (axis : ℕ) (mask : List ℤ)
    → FitsSigned w32 (on_axis window.lo axis) → FitsSigned w32 (on_axis window.hi axis)
    → mask ≡ mask_of (axis_tests (to_z w32 (of_z w32 (on_axis window.lo axis))) (to_z w32 (of_z w32 (on_axis window.hi axis))) (get_or lanes.lo axis []) (get_or lanes.hi axis []))
    → IsMask lanes window axis mask
mask_by lanes window axis mask f g e = e ∙ (λ i. mask_of (axis_tests (to_z-of_z f i) (to_z-of_z g i) (get_or lanes.lo axis []) (get_or lanes.hi axis [])))

long_by : (lanes : Lanes8)
    → length (get_or lanes.lo 0 []) ≡ 8 → length (get_or lanes.lo 1 []) ≡ 8 → length (get_or lanes.lo 2 []) ≡ 8
    → length (get_or lanes.hi 0 []) ≡ 8 → length (get_or lanes.hi 1 []) ≡ 8 → length (get_or lanes.hi 2 []) ≡ 8 → AreLong lanes
long_by lanes a b c d e f = record { lo = lo; hi = hi }
  where
    lo : (axis : ℕ) → axis < 3 → length (get_or lanes.lo axis []) ≡ 8
    lo zero h = a
    lo (suc zero) h = b
    lo (suc (suc zero)) h = c
    lo (suc (suc (suc n))) h = absurd (omega arith)

    hi : (axis : ℕ) → axis < 3 → length (get_or lanes.hi axis []) ≡ 8
    hi zero h = d
    hi (suc zero) h = e
    hi (suc (suc zero)) h = f
    hi (suc (suc (suc n))) h = absurd (omega arith)

pub overflow_cast-result : goal.overflow_cast-result
overflow_cast-result c =
    let lanes = c.args.lanes.now in
    let window = c.args.window.now in
    all-fits lanes window c.overlap_axis-x.result c.overlap_axis-y.result c.overlap_axis-z.result
    (long_by lanes c.overlap_axis-x.ensures.lo c.overlap_axis-y.ensures.lo c.overlap_axis-z.ensures.lo
    c.overlap_axis-x.ensures.hi c.overlap_axis-y.ensures.hi c.overlap_axis-z.ensures.hi)
    (mask_by lanes window 0 _ (search rules) (search rules) c.overlap_axis-x.ensures.mask)
    (mask_by lanes window 1 _ (search rules) (search rules) c.overlap_axis-y.ensures.mask)
    (mask_by lanes window 2 _ (search rules) (search rules) c.overlap_axis-z.ensures.mask)

pub returns : goal.returns
returns c =
    let lanes = c.args.lanes.now in
    let window = c.args.window.now in
    all-bits lanes window c.overlap_axis-x.result c.overlap_axis-y.result c.overlap_axis-z.result
    (long_by lanes c.overlap_axis-x.ensures.lo c.overlap_axis-y.ensures.lo c.overlap_axis-z.ensures.lo
    c.overlap_axis-x.ensures.hi c.overlap_axis-y.ensures.hi c.overlap_axis-z.ensures.hi)
    (mask_by lanes window 0 _ (search rules) (search rules) c.overlap_axis-x.ensures.mask)
    (mask_by lanes window 1 _ (search rules) (search rules) c.overlap_axis-y.ensures.mask)
    (mask_by lanes window 2 _ (search rules) (search rules) c.overlap_axis-z.ensures.mask)
