use Rattle.std.proofs.Common.{rules, ◌≡◌, ◌∷◌, []}
use Rattle.std.proofs.lemmas.Int.{to_z-of_z}
use Rattle.ray_wide.proofs.fill.beside.Goals as goal

pub returns : goal.returns
returns c =
    let lo_x : c.row.result ≡ c.args.a.lo_x ∷ c.args.b.lo_x ∷ c.args.c.lo_x ∷ c.args.d.lo_x ∷ c.args.e.lo_x ∷ c.args.f.lo_x ∷ c.args.g.lo_x ∷ c.args.h.lo_x ∷ [] = search (rules, to_z-of_z) in
    let lo_y : c.row-2.result ≡ c.args.a.lo_y ∷ c.args.b.lo_y ∷ c.args.c.lo_y ∷ c.args.d.lo_y ∷ c.args.e.lo_y ∷ c.args.f.lo_y ∷ c.args.g.lo_y ∷ c.args.h.lo_y ∷ [] = search (rules, to_z-of_z) in
    let lo_z : c.row-3.result ≡ c.args.a.lo_z ∷ c.args.b.lo_z ∷ c.args.c.lo_z ∷ c.args.d.lo_z ∷ c.args.e.lo_z ∷ c.args.f.lo_z ∷ c.args.g.lo_z ∷ c.args.h.lo_z ∷ [] = search (rules, to_z-of_z) in
    let hi_x : c.row-4.result ≡ c.args.a.hi_x ∷ c.args.b.hi_x ∷ c.args.c.hi_x ∷ c.args.d.hi_x ∷ c.args.e.hi_x ∷ c.args.f.hi_x ∷ c.args.g.hi_x ∷ c.args.h.hi_x ∷ [] = search (rules, to_z-of_z) in
    let hi_y : c.row-5.result ≡ c.args.a.hi_y ∷ c.args.b.hi_y ∷ c.args.c.hi_y ∷ c.args.d.hi_y ∷ c.args.e.hi_y ∷ c.args.f.hi_y ∷ c.args.g.hi_y ∷ c.args.h.hi_y ∷ [] = search (rules, to_z-of_z) in
    let hi_z : c.row-6.result ≡ c.args.a.hi_z ∷ c.args.b.hi_z ∷ c.args.c.hi_z ∷ c.args.d.hi_z ∷ c.args.e.hi_z ∷ c.args.f.hi_z ∷ c.args.g.hi_z ∷ c.args.h.hi_z ∷ [] = search (rules, to_z-of_z) in
    λ i. record { lo = lo_x i ∷ lo_y i ∷ lo_z i ∷ []; hi = hi_x i ∷ hi_y i ∷ hi_z i ∷ [] }
