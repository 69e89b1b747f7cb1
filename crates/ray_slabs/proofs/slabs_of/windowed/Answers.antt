use Rattle.std.proofs.Common.{rules, ◌≡◌, sym, subst, to_z, of_z, w64, to_z-of_z}
use Rattle.ray_window.specs.Lines.{AreLines}
use Rattle.ray_slabs.proofs.Joining.{ray_lines}
use Rattle.ray_slabs.proofs.slabs_of.windowed.Goals as goal

pub sides_of-requires-clause-lines : goal.sides_of-requires-clause-lines
sides_of-requires-clause-lines c =
    let ray = c.args.ray.now in
    let det : to_z w64 (of_z w64 c.det.result) ≡ ray.det = search (rules, to_z-of_z) in
    subst (λ m. m) (λ i. AreLines (sym det i) (sym c.origin.ensures.value i) (sym c.dir.ensures.value i)) (ray_lines ray c.det.ensures.limits)
