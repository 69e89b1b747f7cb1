use Rattle.ray_access.proofs.Stretches.{sharing}
use Rattle.ray_access.proofs.laws.sharing_is_meeting.Goals as goal

pub returns : goal.returns
returns c = sharing
