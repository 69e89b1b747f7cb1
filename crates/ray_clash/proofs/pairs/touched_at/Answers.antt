use Rattle.ray_clash.proofs.Paired.{is_of}
use Rattle.ray_clash.proofs.pairs.touched_at.Goals as goal

pub returns : goal.returns
returns c = is_of c.args.list.now c.args.k _ c.requires
