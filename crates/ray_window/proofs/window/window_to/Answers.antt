use Rattle.std.proofs.Common.{rules, ◌≡◌, ◌∙◌, sym, subst, ap, unsigned_abs, pos, to_z, of_z, w64, to_z-of_z}
use Rattle.ray_window.specs.Lines.{AreLines, turned_point}
use Rattle.ray_window.specs.Windows.{window_to}
use Rattle.ray_window.proofs.Turned.{AreLines-turned, window_to-turned}
use Rattle.ray_window.proofs.window.window_to.Goals as goal

pub window_along-requires-clause-lines : goal.window_along-requires-clause-lines
window_along-requires-clause-lines c =
    let a = c.args in
    let line = c.upright-line.ensures in
    let same : to_z w64 (of_z w64 a.det) ≡ a.det = search (rules, to_z-of_z) in
    let det = line.det ∙ ap unsigned_abs same in
    let origin = line.origin ∙ ap (λ t. turned_point t a.origin) same in
    let dir = line.dir ∙ ap (λ t. turned_point t a.dir) same in
    subst (λ p. p) (λ i. AreLines (pos (sym det i)) (sym origin i) (sym dir i))
    (AreLines-turned a.det a.origin a.dir c.requires.lines)

pub returns : goal.returns
returns c =
    let a = c.args in
    let line = c.upright-line.ensures in
    let same : to_z w64 (of_z w64 a.det) ≡ a.det = search (rules, to_z-of_z) in
    let det = line.det ∙ ap unsigned_abs same in
    let origin = line.origin ∙ ap (λ t. turned_point t a.origin) same in
    let dir = line.dir ∙ ap (λ t. turned_point t a.dir) same in
    c.window_along.ensures
    ∙ ((λ i. window_to (pos (det i)) (origin i) (dir i) a.tmin a.n a.d) ∙ window_to-turned a.det a.origin a.dir a.tmin a.n a.d)
