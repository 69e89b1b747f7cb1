use Rattle.ray_query.proofs.Meanings.{meaning_of-is}
use Rattle.ray_query.proofs.by_fn.ByFn.new.Goals as goal

pub returns : goal.returns
returns g c = meaning_of-is _
