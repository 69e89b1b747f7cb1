use Rattle.ray_chains.proofs.Things.{things-alike, things-since}
use Rattle.ray_chains.proofs.laws.things_since.Goals as goal

pub returns : goal.returns
returns c = record { since = things-since; alike = things-alike }
