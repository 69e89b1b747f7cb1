use Rattle.std.proofs.Common.{rules, ◌≡◌, ◌∙◌, ◌-◌, ◌^◌, sym, subst, IfSome, unsigned_abs, pos, ◌-ℤ◌, arith, to_z, of_z, w32, w64, to_z-of_z}
use Rattle.std.specs.Int.{int_min}
use Rattle.std.proofs.lemmas.Int.{ints, clamps}
use Rattle.ray_lanes.specs.Overlap.{on_axis}
use Rattle.ray_slabs.specs.Slopes.{IsSlope}
use Rattle.ray_slabs.specs.Sides.{IsSide}
use Rattle.ray_slabs.proofs.Joining.{all_first, all_second, all_third, sides_made}
use Rattle.ray_slabs.proofs.slabs_of.sides_of.Goals as goal

pub joined-requires : goal.joined-requires
joined-requires c =
    let a = c.args in
    let det : to_z w64 (of_z w64 a.det) ≡ a.det = search (rules, to_z-of_z) in
    let x_o : to_z w64 (of_z w64 a.origin.x) ≡ a.origin.x = search (rules, to_z-of_z) in
    let x_m : to_z w64 (of_z w64 a.dir.x) ≡ a.dir.x = search (rules, to_z-of_z) in
    let x = c.side_of.ensures.made a.shift
    (subst (λ p. p) (λ i. IfSome a.slopes.x (IsSlope (sym det i) (sym x_o i) (sym x_m i) a.shift)) c.requires.slopes.x) in
    let y_o : to_z w64 (of_z w64 a.origin.y) ≡ a.origin.y = search (rules, to_z-of_z) in
    let y_m : to_z w64 (of_z w64 a.dir.y) ≡ a.dir.y = search (rules, to_z-of_z) in
    let y = c.side_of-2.ensures.made a.shift
    (subst (λ p. p) (λ i. IfSome a.slopes.y (IsSlope (sym det i) (sym y_o i) (sym y_m i) a.shift)) c.requires.slopes.y) in
    let z_o : to_z w64 (of_z w64 a.origin.z) ≡ a.origin.z = search (rules, to_z-of_z) in
    let z_m : to_z w64 (of_z w64 a.dir.z) ≡ a.dir.z = search (rules, to_z-of_z) in
    let z = c.side_of-3.ensures.made a.shift
    (subst (λ p. p) (λ i. IfSome a.slopes.z (IsSlope (sym det i) (sym z_o i) (sym z_m i) a.shift)) c.requires.slopes.z) in
    let last : to_z w32 (of_z w32 c.last_of.result) ≡ c.last_of.result = search (rules, to_z-of_z) in
    let value = c.last_of.ensures.value in
    let not_before = c.last_of.ensures.not_before in
    record { x_safe = x.safe; y_safe = y.safe; z_safe = z.safe; not_before = omega (arith, ints); last_short = omega (arith, ints, clamps) }

pub returns-clause-made : goal.returns-clause-made
returns-clause-made c =
    let a = c.args in
    let det : to_z w64 (of_z w64 a.det) ≡ a.det = search (rules, to_z-of_z) in
    let x_o : to_z w64 (of_z w64 a.origin.x) ≡ a.origin.x = search (rules, to_z-of_z) in
    let x_m : to_z w64 (of_z w64 a.dir.x) ≡ a.dir.x = search (rules, to_z-of_z) in
    let x = c.side_of.ensures.made a.shift
    (subst (λ p. p) (λ i. IfSome a.slopes.x (IsSlope (sym det i) (sym x_o i) (sym x_m i) a.shift)) c.requires.slopes.x) in
    let x_from : to_z w32 (of_z w32 (on_axis a.window.lo 0)) ≡ on_axis a.window.lo 0 = search (rules, to_z-of_z) in
    let x_to : to_z w32 (of_z w32 (on_axis a.window.hi 0)) ≡ on_axis a.window.hi 0 = search (rules, to_z-of_z) in
    let y_o : to_z w64 (of_z w64 a.origin.y) ≡ a.origin.y = search (rules, to_z-of_z) in
    let y_m : to_z w64 (of_z w64 a.dir.y) ≡ a.dir.y = search (rules, to_z-of_z) in
    let y = c.side_of-2.ensures.made a.shift
    (subst (λ p. p) (λ i. IfSome a.slopes.y (IsSlope (sym det i) (sym y_o i) (sym y_m i) a.shift)) c.requires.slopes.y) in
    let y_from : to_z w32 (of_z w32 (on_axis a.window.lo 1)) ≡ on_axis a.window.lo 1 = search (rules, to_z-of_z) in
    let y_to : to_z w32 (of_z w32 (on_axis a.window.hi 1)) ≡ on_axis a.window.hi 1 = search (rules, to_z-of_z) in
    let z_o : to_z w64 (of_z w64 a.origin.z) ≡ a.origin.z = search (rules, to_z-of_z) in
    let z_m : to_z w64 (of_z w64 a.dir.z) ≡ a.dir.z = search (rules, to_z-of_z) in
    let z = c.side_of-3.ensures.made a.shift
    (subst (λ p. p) (λ i. IfSome a.slopes.z (IsSlope (sym det i) (sym z_o i) (sym z_m i) a.shift)) c.requires.slopes.z) in
    let z_from : to_z w32 (of_z w32 (on_axis a.window.lo 2)) ≡ on_axis a.window.lo 2 = search (rules, to_z-of_z) in
    let z_to : to_z w32 (of_z w32 (on_axis a.window.hi 2)) ≡ on_axis a.window.hi 2 = search (rules, to_z-of_z) in
    let held : to_z w64 (of_z w64 a.range.first) ≡ a.range.first = search (rules, to_z-of_z) in
    let not_before = c.requires.range.not_before in
    let base : pos (unsigned_abs (to_z w64 (of_z w64 a.range.first))) ≡ a.range.first = omega (arith, ints) in
    let last : to_z w32 (of_z w32 c.last_of.result) ≡ int_min (a.range.last -ℤ a.range.first) (pos (2 ^ 31 - 64)) = search (rules, to_z-of_z) in
    sides_made a.det a.origin a.dir a.window a.range a.shift (unsigned_abs (to_z w64 (of_z w64 a.range.first))) (to_z w32 (of_z w32 c.last_of.result))
    c.side_of.result c.side_of-2.result c.side_of-3.result c.joined.result
    (subst (λ p. p) (λ i. IsSide (det i) (x_o i) (x_m i) a.shift (unsigned_abs (to_z w64 (of_z w64 a.range.first))) (x_from i) (x_to i) c.side_of.result) x)
    (subst (λ p. p) (λ i. IsSide (det i) (y_o i) (y_m i) a.shift (unsigned_abs (to_z w64 (of_z w64 a.range.first))) (y_from i) (y_to i) c.side_of-2.result) y)
    (subst (λ p. p) (λ i. IsSide (det i) (z_o i) (z_m i) a.shift (unsigned_abs (to_z w64 (of_z w64 a.range.first))) (z_from i) (z_to i) c.side_of-3.result) z)
    c.joined.ensures base last

pub returns-clause-free : goal.returns-clause-free
returns-clause-free c = λ exact window.
    let a = c.args in
    let det : to_z w64 (of_z w64 a.det) ≡ a.det = search (rules, to_z-of_z) in
    let x_o : to_z w64 (of_z w64 a.origin.x) ≡ a.origin.x = search (rules, to_z-of_z) in
    let x_m : to_z w64 (of_z w64 a.dir.x) ≡ a.dir.x = search (rules, to_z-of_z) in
    let x = c.side_of.ensures.free
    (all_first c.side_of.result.exact c.side_of-2.result.exact c.side_of-3.result.exact (sym c.joined.ensures.exact_is ∙ exact)) a.shift (on_axis window.lo 0) (on_axis window.hi 0)
    (subst (λ p. p) (λ i. IfSome a.slopes.x (IsSlope (sym det i) (sym x_o i) (sym x_m i) a.shift)) c.requires.slopes.x) in
    let y_o : to_z w64 (of_z w64 a.origin.y) ≡ a.origin.y = search (rules, to_z-of_z) in
    let y_m : to_z w64 (of_z w64 a.dir.y) ≡ a.dir.y = search (rules, to_z-of_z) in
    let y = c.side_of-2.ensures.free
    (all_second c.side_of.result.exact c.side_of-2.result.exact c.side_of-3.result.exact (sym c.joined.ensures.exact_is ∙ exact)) a.shift (on_axis window.lo 1) (on_axis window.hi 1)
    (subst (λ p. p) (λ i. IfSome a.slopes.y (IsSlope (sym det i) (sym y_o i) (sym y_m i) a.shift)) c.requires.slopes.y) in
    let z_o : to_z w64 (of_z w64 a.origin.z) ≡ a.origin.z = search (rules, to_z-of_z) in
    let z_m : to_z w64 (of_z w64 a.dir.z) ≡ a.dir.z = search (rules, to_z-of_z) in
    let z = c.side_of-3.ensures.free
    (all_third c.side_of.result.exact c.side_of-2.result.exact c.side_of-3.result.exact (sym c.joined.ensures.exact_is ∙ exact)) a.shift (on_axis window.lo 2) (on_axis window.hi 2)
    (subst (λ p. p) (λ i. IfSome a.slopes.z (IsSlope (sym det i) (sym z_o i) (sym z_m i) a.shift)) c.requires.slopes.z) in
    let held : to_z w64 (of_z w64 a.range.first) ≡ a.range.first = search (rules, to_z-of_z) in
    let not_before = c.requires.range.not_before in
    let base : pos (unsigned_abs (to_z w64 (of_z w64 a.range.first))) ≡ a.range.first = omega (arith, ints) in
    let last : to_z w32 (of_z w32 c.last_of.result) ≡ int_min (a.range.last -ℤ a.range.first) (pos (2 ^ 31 - 64)) = search (rules, to_z-of_z) in
    sides_made a.det a.origin a.dir window a.range a.shift (unsigned_abs (to_z w64 (of_z w64 a.range.first))) (to_z w32 (of_z w32 c.last_of.result))
    c.side_of.result c.side_of-2.result c.side_of-3.result c.joined.result
    (subst (λ p. p) (λ i. IsSide (det i) (x_o i) (x_m i) a.shift (unsigned_abs (to_z w64 (of_z w64 a.range.first))) (on_axis window.lo 0) (on_axis window.hi 0) c.side_of.result) x)
    (subst (λ p. p) (λ i. IsSide (det i) (y_o i) (y_m i) a.shift (unsigned_abs (to_z w64 (of_z w64 a.range.first))) (on_axis window.lo 1) (on_axis window.hi 1) c.side_of-2.result) y)
    (subst (λ p. p) (λ i. IsSide (det i) (z_o i) (z_m i) a.shift (unsigned_abs (to_z w64 (of_z w64 a.range.first))) (on_axis window.lo 2) (on_axis window.hi 2) c.side_of-3.result) z)
    c.joined.ensures base last
