use Rattle.std.proofs.Common.{◌≡◌, ◌++◌, Some, drop}
use Rattle.serde_json.specs.View.{items_view}
use Rattle.ray_json.specs.Fields.{◌>>=◌, items_of}
use Rattle.ray_json.proofs.list.read_list.Given as goal

-- the list so far goes on with the items that are left
abbrev pub invariant-loop-item : goal.invariant-loop-item
invariant-loop-item g l =
    (items_of g.R.Reader.spells (items_view (drop l.item-index l.item-items)) >>= λ xs. Some (l.list ++ xs)) ≡ items_of g.R.Reader.spells (items_view l.item-items)
