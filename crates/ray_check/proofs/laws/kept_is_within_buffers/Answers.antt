use Rattle.ray_check.proofs.Reaching.{kept_is_within}
use Rattle.ray_check.proofs.laws.kept_is_within_buffers.Goals as goal

pub returns : goal.returns
returns c = kept_is_within
