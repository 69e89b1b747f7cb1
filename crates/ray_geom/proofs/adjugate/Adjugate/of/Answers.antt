use Rattle.std.proofs.Common.{◌^◌, rules, sym, subst}
use Rattle.std.proofs.lemmas.Int.{to_z-of_z}
use Rattle.ray_geom.specs.Vector.{IsShort}
use Rattle.ray_geom.proofs.Sizes.{cross_short}
use Rattle.ray_geom.proofs.adjugate.Adjugate.of.Goals as goal

pub invariant_of-result : goal.invariant_of-result
invariant_of-result c =
    let p : IsShort (2 ^ 25) c.cross-p.result =
    subst (λ v. IsShort (2 ^ 25) v) (sym c.cross-p.ensures.value) (cross_short _ _ c.m.invariant.limits.b_short c.m.invariant.limits.c_short) in
    let q : IsShort (2 ^ 25) c.cross-q.result =
    subst (λ v. IsShort (2 ^ 25) v) (sym c.cross-q.ensures.value) (cross_short _ _ c.m.invariant.limits.c_short c.m.invariant.limits.a_short) in
    let r : IsShort (2 ^ 25) c.cross-r.result =
    subst (λ v. IsShort (2 ^ 25) v) (sym c.cross-r.ensures.value) (cross_short _ _ c.m.invariant.limits.a_short c.m.invariant.limits.b_short) in
    search (rules, to_z-of_z)
