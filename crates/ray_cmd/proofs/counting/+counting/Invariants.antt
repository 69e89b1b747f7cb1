use Rattle.std.proofs.Common.{◌≡◌, drop}
use Rattle.serde_json.specs.View.{items_view, members_view}
use Rattle.ray_cmd.specs.Counting.{listed_in_items, listed_in_members, less}
use Rattle.ray_cmd.proofs.counting.+counting.Given as goal

-- what is left goes on with the items that are left
abbrev pub invariant-left_after_items-loop-item : goal.invariant-left_after_items-loop-item
invariant-left_after_items-loop-item l =
    less (listed_in_items (items_view (drop l.item-index l.item-items))) l.left ≡ less (listed_in_items (items_view l.item-items)) l.fn.most

-- and with the members that are left
abbrev pub invariant-left_after_members-loop-name : goal.invariant-left_after_members-loop-name
invariant-left_after_members-loop-name l =
    less (listed_in_members (members_view l._name-iterator)) l.left ≡ less (listed_in_members (members_view l.fn.members.entries)) l.fn.most
