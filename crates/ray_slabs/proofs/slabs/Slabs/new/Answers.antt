use Rattle.std.proofs.Common.{rules, ◌≡◌, ◌^◌, sym, subst, unsigned_abs, pos, ◌≤ℤ◌, ◌<ℤ◌, arith, to_z, of_z, w64, to_z-of_z}
use Rattle.std.proofs.lemmas.Int.{ints}
use Rattle.ray_window.specs.Lines.{AreLines}
use Rattle.ray_slabs.specs.Keys.{key_at}
use Rattle.ray_slabs.specs.Ranges.{AreSlopes, HoldsByPlanes}
use Rattle.ray_slabs.proofs.Joining.{ray_lines}
use Rattle.ray_slabs.proofs.Whole.{holds_keys, last_fits, last_below, until_is, none_held, not_before_first, bounds_made}
use Rattle.ray_slabs.proofs.slabs.Slabs.new.Goals as goal

pub slopes_of-slopes-requires-clause-lines : goal.slopes_of-slopes-requires-clause-lines
slopes_of-slopes-requires-clause-lines c =
    let ray = c.args.ray.now in
    let det : to_z w64 (of_z w64 c.det-2.result) ≡ ray.det = search (rules, to_z-of_z) in
    subst (λ m. m) (λ i. AreLines (sym det i) (sym c.origin.ensures.value i) (sym c.dir-2.ensures.value i)) (ray_lines ray c.det.ensures.limits)

pub until-requires-clause-last : goal.until-requires-clause-last
until-requires-clause-last c =
    let ray = c.args.ray.now in
    let range = c.range_of-range.result in
    let known = c.range_of-range.ensures.known in
    let first_known = known.first_known in
    let last_known = known.last_known in
    let last_held : to_z w64 (of_z w64 range.last) ≡ range.last = search (rules, to_z-of_z) in
    let first_held : to_z w64 (of_z w64 range.first) ≡ range.first = search (rules, to_z-of_z) in
    let ordered : range.first ≤ℤ range.last = not_before_first range.last range.first _ _ last_held first_held c.if-range.false in
    let last : to_z w64 (of_z w64 range.last) ≡ range.last = search (rules, to_z-of_z) in
    let k = unsigned_abs (to_z w64 (of_z w64 range.last)) in
    let limits = c.det.ensures.limits in
    last_fits c.shift_of-shift.result ray.tmax k limits.tmax_limit (omega (arith, ints))

pub made-requires-clause-slopes : goal.made-requires-clause-slopes
made-requires-clause-slopes c =
    let ray = c.args.ray.now in
    let det : to_z w64 (of_z w64 c.det-2.result) ≡ ray.det = search (rules, to_z-of_z) in
    subst (λ m. m) (λ i. AreSlopes (det i) (c.origin.ensures.value i) (c.dir-2.ensures.value i) c.shift_of-shift.result c.slopes_of-slopes.result) c.slopes_of-slopes.ensures.slopes

pub made-requires-clause-range : goal.made-requires-clause-range
made-requires-clause-range c =
    let ray = c.args.ray.now in
    let range = c.range_of-range.result in
    let known = c.range_of-range.ensures.known in
    let first_known = known.first_known in
    let last_known = known.last_known in
    let last_held : to_z w64 (of_z w64 range.last) ≡ range.last = search (rules, to_z-of_z) in
    let first_held : to_z w64 (of_z w64 range.first) ≡ range.first = search (rules, to_z-of_z) in
    let ordered : range.first ≤ℤ range.last = not_before_first range.last range.first _ _ last_held first_held c.if-range.false in
    let limits = c.det.ensures.limits in
    let most = last_below c.shift_of-shift.result ray.tmax (unsigned_abs range.last) limits.tmax_limit (omega (arith, ints)) in
    record { not_before = omega (arith, ints); ordered = ordered; last_short = omega (arith, ints) }

pub returns-then-range-clause-none : goal.returns-then-range-clause-none
returns-then-range-clause-none c =
    let ray = c.args.ray.now in
    let root = c.args.root.now in
    let range = c.range_of-range.result in
    let det : to_z w64 (of_z w64 c.det-2.result) ≡ ray.det = search (rules, to_z-of_z) in
    let slopes = subst (λ m. m) (λ i. AreSlopes (det i) (c.origin.ensures.value i) (c.dir-2.ensures.value i) c.shift_of-shift.result c.slopes_of-slopes.result) c.slopes_of-slopes.ensures.slopes in
    let holds = subst (HoldsByPlanes ray c.args.limit c.shift_of-shift.result c.slopes_of-slopes.result range) c.of.ensures.value c.range_of-range.ensures.holds in
    let empty : range.last <ℤ range.first = search rules in
    λ n d positive up inside.
    none_held range (key_at c.shift_of-shift.result n d) empty
    (holds_keys ray root c.args.limit c.shift_of-shift.result c.slopes_of-slopes.result range c.of.ensures.limits slopes holds n d positive inside up)

pub returns-else-range-clause-bounds : goal.returns-else-range-clause-bounds
returns-else-range-clause-bounds c =
    let ray = c.args.ray.now in
    let root = c.args.root.now in
    let range = c.range_of-range.result in
    let known = c.range_of-range.ensures.known in
    let first_known = known.first_known in
    let last_held : to_z w64 (of_z w64 range.last) ≡ range.last = search (rules, to_z-of_z) in
    let first_held : to_z w64 (of_z w64 range.first) ≡ range.first = search (rules, to_z-of_z) in
    let ordered : range.first ≤ℤ range.last = not_before_first range.last range.first _ _ last_held first_held c.if-range.false in
    let det : to_z w64 (of_z w64 c.det-2.result) ≡ ray.det = search (rules, to_z-of_z) in
    let slopes = subst (λ m. m) (λ i. AreSlopes (det i) (c.origin.ensures.value i) (c.dir-2.ensures.value i) c.shift_of-shift.result c.slopes_of-slopes.result) c.slopes_of-slopes.ensures.slopes in
    let holds = subst (HoldsByPlanes ray c.args.limit c.shift_of-shift.result c.slopes_of-slopes.result range) c.of.ensures.value c.range_of-range.ensures.holds in
    let last : to_z w64 (of_z w64 range.last) ≡ range.last = search (rules, to_z-of_z) in
    let natural : pos (unsigned_abs (to_z w64 (of_z w64 range.last))) ≡ range.last = omega (arith, ints) in
    bounds_made ray root c.args.limit c.shift_of-shift.result range c.until.result c.made.result c.det.ensures.limits
    (holds_keys ray root c.args.limit c.shift_of-shift.result c.slopes_of-slopes.result range c.of.ensures.limits slopes holds) known
    (until_is c.until.result.num (unsigned_abs (to_z w64 (of_z w64 range.last))) (2 ^ c.shift_of-shift.result) range.last natural c.until.ensures.num, c.until.ensures.den)
    c.made.ensures
