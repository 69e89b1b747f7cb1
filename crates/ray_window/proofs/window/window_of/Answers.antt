use Rattle.std.proofs.Common.{rules, ◌≡◌, ◌∙◌, sym, subst, ap, to_z, of_z, w64, to_z-of_z}
use Rattle.ray_window.specs.Lines.{AreLines}
use Rattle.ray_window.specs.Windows.{last_of, window_to, window_of}
use Rattle.ray_window.proofs.Sizes.{AreLines-ray}
use Rattle.ray_window.proofs.window.window_of.Goals as goal

pub window_to-requires-clause-lines : goal.window_to-requires-clause-lines
window_to-requires-clause-lines c =
    let ray = c.args.ray.now in
    let det : to_z w64 (of_z w64 c.det-det.result) ≡ ray.det = search (rules, to_z-of_z) in
    subst (λ m. m) (λ i. AreLines (sym det i) (sym c.origin-origin.ensures.value i) (sym c.dir-dir.ensures.value i))
    (AreLines-ray ray c.det-det.ensures.limits)

pub returns : goal.returns
unfolding window_of
returns c =
    let ray = c.args.ray.now in
    let det : to_z w64 (of_z w64 c.det-det.result) ≡ ray.det = search (rules, to_z-of_z) in
    let num = c.last-last.ensures.num ∙ ap (λ t. (last_of t c.args.limit).num) c.tmax.ensures.value in
    let den = c.last-last.ensures.den ∙ ap (λ t. (last_of t c.args.limit).den) c.tmax.ensures.value in
    record {
      value = c.window_to.ensures
          ∙ (λ i. window_to (det i) (c.origin-origin.ensures.value i) (c.dir-dir.ensures.value i) (c.tmin.ensures.value i) (num i) (den i));
    }
