use Rattle.ray_permitted.proofs.All.{comes_to_its_run}
use Rattle.ray_permitted.proofs.laws.recording_comes_to_its_run.Goals as goal

pub returns : goal.returns
returns c = comes_to_its_run c.args.rec.now c.sources_law.ensures
