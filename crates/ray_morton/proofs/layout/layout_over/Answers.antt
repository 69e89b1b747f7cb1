use Rattle.std.proofs.Common.{◌∙◌, ◌≤◌, length, refl, sym, ap, subst}
use Rattle.ray_morton.specs.Entries.{Rises, key_parts, item_parts}
use Rattle.ray_morton.specs.Planted.{IsTreeOf}
use Rattle.ray_morton.proofs.Numbers.{keys_rise}
use Rattle.ray_morton.proofs.Made.{made, few_entries}
use Rattle.ray_morton.proofs.layout.layout_over.Goals as goal

pub layout_by-requires-clause-few : goal.layout_by-requires-clause-few
layout_by-requires-clause-few g c κs lives =
    subst (λ l. length (key_parts l) ≤ 1048576) (sym c.deref.ensures.value)
    (few_entries c.args.items.now c.in_ok-entries.entries.items c.in_ok-entries.ensures c.requires.few)

pub layout_by-requires-clause-rising : goal.layout_by-requires-clause-rising
layout_by-requires-clause-rising g c κs lives =
    subst (λ l. Rises (key_parts l)) (sym c.deref.ensures.value)
    (keys_rise c.args.items.now c.in_ok-entries.entries.items c.in_ok-entries.ensures)

pub returns : goal.returns
returns g c =
    let entries = c.in_ok-entries.entries.items in
    let layout = c.in_ok-layout.layout in
    made c.args.items.now entries (key_parts entries) layout.order.items layout.nodes.items c.in_ok-entries.ensures refl
    (c.in_ok-layout.ensures.order ∙ ap item_parts c.deref.ensures.value)
    (subst (λ l. IsTreeOf (key_parts l) layout.nodes.items) c.deref.ensures.value c.in_ok-layout.ensures.nodes)
