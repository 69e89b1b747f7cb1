use Rattle.std.proofs.Common.{◌≡◌, List, ℕ, subst, rules}
use Rattle.std.specs.List.{flat_map}
use Rattle.std.proofs.lemmas.Result.{on_ok_weaker}
use Rattle.ray_walk.specs.Scenes.{AddsWide}
use Rattle.ray_candidates.specs.Placements.{items_at}
use Rattle.ray_walk.specs.WideScene.{wide_roots}
use Rattle.ray_walk.proofs.Pushing.{below-itself}
use Rattle.ray_walk.proofs.opening.open_instances.Goals as goal

pub returns-in_default-clause-opened : goal.returns-in_default-clause-opened
returns-in_default-clause-opened c =
    let s = c.args.view.now in
    let items = items_at s.top.tree c.args.n in
    let old = c.args.turns.now in
    let new = c.push_roots.new.turns in
    let same : c.items_of.result.now ≡ items = search rules in
    on_ok_weaker c.push_roots.result
    (λ added. below-itself s c.args.limit old new (flat_map (wide_roots s) items)
    (subst (λ (xs : List ℕ). AddsWide c.args.limit s (flat_map (wide_roots s) xs) old new) same added)) c.push_roots.ensures
