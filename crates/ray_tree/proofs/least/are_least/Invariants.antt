use Rattle.std.proofs.Common.{◌<◌, ℕ}
use Rattle.ray_tree.specs.Local.{IsLocalAt}
use Rattle.ray_tree.proofs.least.are_least.Given as goal

abbrev pub invariant-loop-n : goal.invariant-loop-n
invariant-loop-n l = (k : ℕ) → k < l.n → IsLocalAt l.items l.order l.boxes l.nodes k
