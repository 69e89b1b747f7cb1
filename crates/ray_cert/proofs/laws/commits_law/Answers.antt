use Rattle.ray_cert.proofs.Commits.{plays-alike}
use Rattle.ray_cert.proofs.laws.commits_law.Goals as goal

pub returns : goal.returns
returns c = plays-alike
