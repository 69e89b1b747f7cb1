use Rattle.std.proofs.Common.{rules, ◌≡◌, ◌∙◌, to_z, of_z, w32, to_z-of_z}
use Rattle.std.specs.Int.{int_min}
use Rattle.ray_slabs.specs.Axes.{far_of}
use Rattle.ray_slabs.proofs.slabs.Slabs.exit.Goals as goal

pub returns : goal.returns
returns c =
    let s = c.args.self.now in
    let p = c.args.planes in
    let until : to_z w32 (of_z w32 c.until.result) ≡ int_min s.last c.args.limit = search (rules, to_z-of_z) in
    let x : to_z w32 (of_z w32 c.far.result) ≡ far_of s.x p.lo_x p.hi_x = search (rules, to_z-of_z) in
    let y : to_z w32 (of_z w32 c.far-2.result) ≡ far_of s.y p.lo_y p.hi_y = search (rules, to_z-of_z) in
    let z : to_z w32 (of_z w32 c.far-3.result) ≡ far_of s.z p.lo_z p.hi_z = search (rules, to_z-of_z) in
    let x_held : to_z w32 (of_z w32 c.lesser-x.result) ≡ c.lesser-x.result = search (rules, to_z-of_z) in
    let y_held : to_z w32 (of_z w32 c.lesser-y.result) ≡ c.lesser-y.result = search (rules, to_z-of_z) in
    let held : to_z w32 (of_z w32 c.lesser.result) ≡ c.lesser.result = search (rules, to_z-of_z) in
    let first = x_held ∙ (c.lesser-x.ensures ∙ (λ i. int_min (until i) (x i))) in
    let second = y_held ∙ (c.lesser-y.ensures ∙ (λ i. int_min (first i) (y i))) in
    held ∙ (c.lesser.ensures ∙ (λ i. int_min (second i) (z i)))
