use Rattle.std.proofs.Common.{◌≡◌, drop}
use Rattle.serde_json.specs.View.{items_view}
use Rattle.ray_json.specs.Fields.{words_from}
use Rattle.ray_json.proofs.words.read_words.Given as goal

-- the set so far goes on with the items that are left
abbrev pub invariant-loop-item : goal.invariant-loop-item
invariant-loop-item g l =
    words_from g.F.Flags.table (g.F.Flags.set_of l.set) (items_view (drop l.item-index l.item-items)) ≡ words_from g.F.Flags.table 0 (items_view l.item-items)
