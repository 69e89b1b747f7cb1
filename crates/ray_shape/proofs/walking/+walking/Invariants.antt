use Rattle.std.proofs.Common.{◌≡◌, ◌+◌, ◌*◌, map, drop}
use Rattle.serde_json.specs.View.{items_view, view}
use Rattle.ray_shape.specs.Reads.{all_items, item_shape, reads}
use Rattle.ray_shape.specs.Table.{all_fit, member_of}
use Rattle.ray_shape.proofs.Weight.{items_weight, weight}
use Rattle.ray_shape.proofs.walking.+walking.Given as goal

-- the rows that are left fit exactly where all do
abbrev pub invariant-walk_fields-loop-row : goal.invariant-walk_fields-loop-row
invariant-walk_fields-loop-row l =
    all_fit (map member_of (drop l.row-index l.rows)) (view l.object) ≡ all_fit (map member_of l.rows) (view l.object)

-- the items that are left are read exactly where all are
abbrev pub invariant-walk_items-loop-number : goal.invariant-walk_items-loop-number
invariant-walk_items-loop-number l =
    all_items (reads (item_shape l.item)) (items_view (drop l.number l.items)) ≡ all_items (reads (item_shape l.item)) (items_view l.items)

-- what is below is less deep; of calls on one value those that call are above
abbrev pub decreases-find_wrong : goal.decreases-find_wrong
decreases-find_wrong l = 9 * weight (view l.value.now) + 8

abbrev pub decreases-walk_list : goal.decreases-walk_list
decreases-walk_list l = 9 * weight (view l.value.now) + 7

abbrev pub decreases-walk_items : goal.decreases-walk_items
decreases-walk_items l = 9 * items_weight (items_view l.items.now) + 10

abbrev pub decreases-walk_item : goal.decreases-walk_item
decreases-walk_item l = 9 * items_weight (items_view l.items.now) + 9

abbrev pub decreases-walk_object : goal.decreases-walk_object
decreases-walk_object l = 9 * weight (view l.value.now) + 7

abbrev pub decreases-walk_form : goal.decreases-walk_form
decreases-walk_form l = 9 * weight (view l.value.now) + 6

abbrev pub decreases-walk_fields : goal.decreases-walk_fields
decreases-walk_fields l = 9 * weight (view l.object.now) + 5

abbrev pub decreases-walk_field : goal.decreases-walk_field
decreases-walk_field l = 9 * weight (view l.object.now) + 4

abbrev pub decreases-walk_found : goal.decreases-walk_found
decreases-walk_found l = 9 * weight (view l.object.now) + 3
