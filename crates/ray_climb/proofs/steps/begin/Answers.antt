use Rattle.std.proofs.Common.{◌+◌, ◌*◌, ◌<◌, length, sym, subst}
use Rattle.ray_climb.proofs.Words.{low_in}
use Rattle.ray_climb.proofs.Framed.{framed}
use Rattle.ray_climb.proofs.Allowed.{begins_told}
use Rattle.ray_climb.proofs.steps.begin.Goals as goal

pub store-requires : goal.store-requires
store-requires g c = (
  c.requires.own,
  subst (λ w. 3 * c.args.at.node + 1 < w) (sym c.requires.table.long) (low_in (length c.args.shared.now.key.tree.nodes) c.args.at.node c.requires.small),
  begins_told _ (framed _ _ c.requires.table) _ _ _ c.args.at.leaf c.args.at.node c.args.at.low c.args.at.high _ _ c.requires.start.0 c.requires.start.1
      c.requires.node c.requires.free c.requires.leaf c.requires.listed c.requires.low c.requires.high,
)
