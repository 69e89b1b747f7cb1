use Rattle.std.proofs.Common.{rules, ◌≡◌, ◌∙◌, sym, ap, pos}
use Rattle.std.specs.Ordering.{ordering_then}
use Rattle.std.proofs.lemmas.Int.{to_z-of_z}
use Rattle.ray_geom.specs.Vector.{sign_of}
use Rattle.ray_geom.specs.Measures.{side_at_tie_of}
use Rattle.ray_geom.proofs.Signs.{sign_of-then}
use Rattle.ray_geom.proofs.hit.side.Goals as goal

pub returns-then-volume-eq0 : goal.returns-then-volume-eq0
returns-then-volume-eq0 c =
    let a = c.args in
    let tie = side_at_tie_of a.normal a.a a.b in
    let told : c.then-then-volume-eq0-2.result ≡ tie = search (rules, to_z-of_z) in
    let none : a.volume ≡ pos 0 = search rules in
    told ∙ ap (λ v. ordering_then (sign_of v) tie) (sym none)

pub returns-else-volume-eq0 : goal.returns-else-volume-eq0
returns-else-volume-eq0 c =
    let first = sign_of-then c.args.volume (side_at_tie_of c.args.normal c.args.a c.args.b) (search rules) in
    search (rules, to_z-of_z)
