use Rattle.std.proofs.Common.{◌<◌, ◌≤◌, length, subst, arith, ap, sym, ◌∙◌}
use Rattle.std.specs.List.{flat_map}
use Rattle.std.proofs.lemmas.List.{take_all}
use Rattle.std.proofs.lemmas.List.Folds.{flat_map-map}
use Rattle.ray_leaves.specs.declared.leaf_item.LeafItem.{LeafItem}
use Rattle.ray_leaves.specs.LeafItems.{place_of_item}
use Rattle.ray_leaves.specs.Lists.{no_item, part_of}
use Rattle.ray_nearest.specs.Adding.{Adds, AddsFound}
use Rattle.ray_walk.specs.Scenes.{placement_value}
use Rattle.ray_walk.specs.Traced.{found_at_place}
use Rattle.ray_walk.proofs.Pushing.{Adds-flat}
use Rattle.ray_walk.proofs.leaf.add_items.Goals as goal

pub add_item-requires : goal.add_item-requires
add_item-requires c =
    let items = part_of c.args.items in
    let below : c.loop-k.k < length items = (let t = c.loop-k-test.true in let many = c.len-k-end.ensures in omega (arith, t, many)) in
    record {
      is_it = c.requires.is_it;
      window = c.requires.window;
      within = below;
      held = c.requires.held c.loop-k.k no_item below;
    }

pub loop-k-preserved : goal.loop-k-preserved
loop-k-preserved c =
    let s = c.args.view.now in
    let p = placement_value c.args.looked.now in
    let items = part_of c.args.items in
    let k = c.loop-k.k in
    let below : k < length items = (let t = c.loop-k-test.true in let many = c.len-k-end.ensures in omega (arith, t, many)) in
    Adds-flat (AddsFound c.args.limit) (λ (it : LeafItem). found_at_place s c.args.i p it.place) items k no_item c.args.turns.now
    c.loop-k.turns c.add_item.new.turns below c.loop-k.invariant c.in_ok-add_item.ensures

pub returns : goal.returns
returns c =
    let F = found_at_place c.args.view.now c.args.i (placement_value c.args.looked.now) in
    let items = part_of c.args.items in
    let k = c.loop-k.k in
    let long : length items ≤ k = (let t = c.loop-k-test.false in let many = c.len-k-end.ensures in omega (arith, t, many)) in
    let whole = take_all k items long in
    subst (λ xs. Adds (AddsFound c.args.limit) xs c.args.turns.now c.loop-k.turns)
    (ap (flat_map (λ (it : LeafItem). F it.place)) whole ∙ (sym (flat_map-map F place_of_item items) ∙ ap (flat_map F) c.requires.places))
    c.loop-k.invariant
