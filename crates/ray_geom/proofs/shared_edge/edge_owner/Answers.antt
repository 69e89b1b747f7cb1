use Rattle.std.proofs.Common.{rules, refl, inl, inr}
use Rattle.ray_geom.specs.TriangleHit.{IsHit}
use Rattle.ray_geom.proofs.OneHit.{OneHit, one_hit_at}
use Rattle.ray_geom.proofs.shared_edge.edge_owner.Goals as goal

pub returns-then-is_some-clause-first : goal.returns-then-is_some-clause-first
returns-then-is_some-clause-first c =
    let one : OneHit c.args.ray.now c.args.first.now c.args.second.now =
    one_hit_at _ _ _ c.args.i c.args.j c.requires.first_vertex c.requires.second_vertex c.requires.starts c.requires.ends
    c.requires.crossing c.requires.alike in
    let hit : IsHit c.args.ray.now c.args.first.now = search rules in
    (λ _. elim one [ inl h ↦ h | inr h ↦ absurd (h.0 hit) ], λ _. refl)

pub returns-else-is_some-clause-second : goal.returns-else-is_some-clause-second
returns-else-is_some-clause-second c =
    let one : OneHit c.args.ray.now c.args.first.now c.args.second.now =
    one_hit_at _ _ _ c.args.i c.args.j c.requires.first_vertex c.requires.second_vertex c.requires.starts c.requires.ends
    c.requires.crossing c.requires.alike in
    (λ _. elim one [ inl h ↦ absurd (search rules) | inr h ↦ h ], λ _. refl)
