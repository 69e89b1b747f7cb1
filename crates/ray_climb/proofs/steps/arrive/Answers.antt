use Rattle.std.proofs.Common.{◌*◌, ◌<◌, length, sym, subst}
use Rattle.ray_climb.proofs.Words.{arrivals_of}
use Rattle.ray_climb.proofs.Framed.{framed}
use Rattle.ray_climb.proofs.Allowed.{arrives_told}
use Rattle.ray_climb.proofs.steps.arrive.Goals as goal

pub fetch_or-found-requires : goal.fetch_or-found-requires
fetch_or-found-requires c = (
  c.requires.own,
  subst (λ w. 3 * c.args.up.parent < w) (sym c.requires.table.long) (arrivals_of (length c.args.shared.now.key.tree.nodes) c.args.up.parent c.requires.up.parent_small),
  arrives_told _ (framed _ _ c.requires.table) _ _ _ c.args.at.leaf c.args.at.node c.args.at.low c.args.at.high c.args.up.parent _ c.args.up.right c.bit_of.ensures
      c.requires.below c.requires.hand c.requires.up.parent c.requires.up.right,
)
