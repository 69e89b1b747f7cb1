use Rattle.std.proofs.Common.{◌+◌, ◌*◌, ◌<◌, length, sym, subst}
use Rattle.ray_climb.proofs.Words.{high_in}
use Rattle.ray_climb.proofs.Allowed.{ends_at}
use Rattle.ray_climb.proofs.steps.end_at_root.Goals as goal

pub store-requires : goal.store-requires
store-requires c = (
  c.requires.own,
  subst (λ w. 3 * c.args.at.node + 2 < w) (sym c.requires.table.long) (high_in (length c.args.shared.now.key.tree.nodes) c.args.at.node c.requires.small),
  ends_at _ _ _ _ c.args.at.leaf c.args.at.node c.args.at.low c.args.at.high c.requires.root c.requires.hand,
)
