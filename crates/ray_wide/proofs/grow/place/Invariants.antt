use Rattle.std.proofs.Common.{◌≡◌, ◌++◌, length, take}
use Rattle.ray_wide.specs.Cuts.{nodes_in, refs_of, inners_of}
use Rattle.ray_wide.proofs.grow.place.Given as goal

abbrev pub invariant-loop-branch : goal.invariant-loop-branch
invariant-loop-branch l =
    (l.refs.items ≡ refs_of l.tree.nodes (length l.fn.tops.items) (nodes_in (take l.branch-index l.cut)))
    × (l.tops.items ≡ l.fn.tops.items ++ inners_of l.tree.nodes (nodes_in (take l.branch-index l.cut)))
