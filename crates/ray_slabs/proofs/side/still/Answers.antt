use Rattle.std.proofs.Common.{rules, ◌≡◌, ◌∙◌, pos, neg_ℤ, ◌-ℤ◌, unsigned_abs, to_z, of_z, w64, to_z-of_z}
use Rattle.ray_window.specs.Windows.{turned, floor_of}
use Rattle.ray_slabs.specs.Sides.{flat_axis}
use Rattle.ray_slabs.proofs.side.still.Goals as goal

pub returns : goal.returns
returns c =
    let a = c.args in
    let p = c.turned-p.result in
    let f = c.floor_short-floor.result in
    let b = c.floor_short-back.result in
    let det : to_z w64 (of_z w64 a.det) ≡ a.det = search (rules, to_z-of_z) in
    let o : to_z w64 (of_z w64 a.o) ≡ a.o = search (rules, to_z-of_z) in
    let turn : p ≡ turned a.det a.o = c.turned-p.ensures.value ∙ (λ i. turned (det i) (o i)) in
    let held : to_z w64 (of_z w64 p) ≡ p = search (rules, to_z-of_z) in
    let opposite : to_z w64 (of_z w64 (pos 0 -ℤ to_z w64 (of_z w64 p))) ≡ neg_ℤ p = search (rules, to_z-of_z) in
    let size : c.unsigned_abs.result ≡ unsigned_abs a.det = search (rules, to_z-of_z) in
    let again : c.unsigned_abs-2.result ≡ unsigned_abs a.det = search (rules, to_z-of_z) in
    let f_held : to_z w64 (of_z w64 f) ≡ f = search (rules, to_z-of_z) in
    let b_opposite : to_z w64 (of_z w64 (pos 0 -ℤ to_z w64 (of_z w64 b))) ≡ neg_ℤ b = search (rules, to_z-of_z) in
    let floor = f_held ∙ (c.floor_short-floor.ensures.value ∙ (λ i. floor_of ((held ∙ turn) i) (size i))) in
    let back = c.floor_short-back.ensures.value ∙ ((λ i. floor_of (opposite i) (again i)) ∙ (λ i. floor_of (neg_ℤ (turn i)) (unsigned_abs a.det))) in
    c.flat.ensures ∙ ((λ i. flat_axis (b_opposite i) (floor i)) ∙ (λ i. flat_axis (neg_ℤ (back i)) (floor_of (turned a.det a.o) (unsigned_abs a.det))))
