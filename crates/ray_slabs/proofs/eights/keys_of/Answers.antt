use Rattle.ray_slabs.proofs.Eighths.{keys-at}
use Rattle.ray_slabs.proofs.eights.keys_of.Goals as goal

pub returns : goal.returns
returns c = keys-at c.args.row c.requires c.fits-row.1
