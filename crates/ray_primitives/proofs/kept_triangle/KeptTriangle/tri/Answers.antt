use Rattle.std.proofs.Common.{false, rules, subst, sym, ◌≡◌}
use Rattle.ray_geom.specs.Scene.{IsTri, TriValue, tri_value}
use Rattle.ray_bytes.specs.InactiveMark.{is_inactive_mark}
use Rattle.ray_primitives.proofs.Keeping.{IsTri-unmarked}
use Rattle.ray_primitives.proofs.kept_triangle.KeptTriangle.tri.Goals as goal

pub of_vertices-requires : goal.of_vertices-requires
of_vertices-requires c =
    let t = c.self.inside in
    let unmarked : is_inactive_mark t.a.x ≡ false = search rules in
    subst (λ (v : TriValue). IsTri v) (λ i. tri_value (sym c.wide-a.ensures i) (sym c.wide-b.ensures i) (sym c.wide-c.ensures i))
    (IsTri-unmarked t.a t.b t.c t.indices c.self.invariant unmarked)
