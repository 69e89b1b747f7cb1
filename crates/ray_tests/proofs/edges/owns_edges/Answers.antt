-- Each ray crosses the interior of the edge: from above and from below in its middle, and aslant at a
-- quarter, at the end of its interval.
use Rattle.std.proofs.Common.{◌≡◌, ◌^◌, refl, sym, subst, lit≤, rules}
use Rattle.std.specs.Prelude.{pos, negsuc}
use Rattle.ray_geom.specs.declared.vec3.Vec3.{Vec3}
use Rattle.ray_geom.specs.Vector.{vec3}
use Rattle.ray_geom.specs.Scene.{RayValue, TriValue, ray_value, tri_value}
use Rattle.ray_geom.specs.Crossing.{Crossing}
use Rattle.ray_tests.proofs.edges.owns_edges.Goals as goal

abbrev near : Vec3
near = vec3 (pos 0) (pos 0) (pos 0)

abbrev far : Vec3
far = vec3 (pos 4) (pos 4) (pos 0)

abbrev lower : TriValue
lower = tri_value near (vec3 (pos 4) (pos 0) (pos 0)) far

abbrev upper : TriValue
upper = tri_value near far (vec3 (pos 0) (pos 4) (pos 0))

abbrev above : RayValue
above = ray_value (vec3 (pos 2) (pos 2) (pos 5)) (vec3 (pos 0) (pos 0) (negsuc 0)) 0 (2 ^ 40)

abbrev below : RayValue
below = ray_value (vec3 (pos 2) (pos 2) (negsuc 4)) (vec3 (pos 0) (pos 0) (pos 1)) 0 (2 ^ 40)

abbrev slanting : RayValue
slanting = ray_value (vec3 (pos 5) (pos 3) (pos 4)) (vec3 (negsuc 0) (pos 0) (negsuc 1)) 0 131072

above_crosses : Crossing above far near
above_crosses = record {
  k = 10;
  m = 0;
  j = 0;
  mixes = record { x = refl; y = refl; z = refl };
  from = lit≤ tt;
  to = lit≤ tt;
}

above_crosses_back : Crossing above near far
above_crosses_back = record {
  k = 10;
  m = 0;
  j = 0;
  mixes = record { x = refl; y = refl; z = refl };
  from = lit≤ tt;
  to = lit≤ tt;
}

below_crosses : Crossing below far near
below_crosses = record {
  k = 10;
  m = 0;
  j = 0;
  mixes = record { x = refl; y = refl; z = refl };
  from = lit≤ tt;
  to = lit≤ tt;
}

slanting_crosses : Crossing slanting far near
slanting_crosses = record {
  k = 8;
  m = 2;
  j = 0;
  mixes = record { x = refl; y = refl; z = refl };
  from = lit≤ tt;
  to = lit≤ tt;
}

moved : (ray held : RayValue) (tri kept : TriValue) → held ≡ ray → kept ≡ tri →
    Crossing ray tri.v2 tri.v0 → Crossing held kept.v2 kept.v0
moved ray held tri kept p q x =
    subst (λ t. Crossing held t.v2 t.v0) (sym q) (subst (λ r. Crossing r tri.v2 tri.v0) (sym p) x)

moved_back : (ray held : RayValue) (tri kept : TriValue) → held ≡ ray → kept ≡ tri →
    Crossing ray tri.v0 tri.v1 → Crossing held kept.v0 kept.v1
moved_back ray held tri kept p q x =
    subst (λ t. Crossing held t.v0 t.v1) (sym q) (subst (λ r. Crossing r tri.v0 tri.v1) (sym p) x)

pub edge_owner-requires-clause-crossing : goal.edge_owner-requires-clause-crossing
edge_owner-requires-clause-crossing g c =
    let r : c.expect-above.result ≡ above = search rules in
    let t : c.expect-lower.result ≡ lower = search rules in
    moved above c.expect-above.result lower c.expect-lower.result r t above_crosses

pub edge_owner-requires-2-clause-crossing : goal.edge_owner-requires-2-clause-crossing
edge_owner-requires-2-clause-crossing g c =
    let r : c.expect-above.result ≡ above = search rules in
    let t : c.expect-upper.result ≡ upper = search rules in
    moved_back above c.expect-above.result upper c.expect-upper.result r t above_crosses_back

pub edge_owner-requires-3-clause-crossing : goal.edge_owner-requires-3-clause-crossing
edge_owner-requires-3-clause-crossing g c =
    let r : c.expect-below.result ≡ below = search rules in
    let t : c.expect-lower.result ≡ lower = search rules in
    moved below c.expect-below.result lower c.expect-lower.result r t below_crosses

pub edge_owner-requires-4-clause-crossing : goal.edge_owner-requires-4-clause-crossing
edge_owner-requires-4-clause-crossing g c =
    let r : c.expect-slanting.result ≡ slanting = search rules in
    let t : c.expect-lower.result ≡ lower = search rules in
    moved slanting c.expect-slanting.result lower c.expect-lower.result r t slanting_crosses
