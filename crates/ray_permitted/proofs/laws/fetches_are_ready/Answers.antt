use Rattle.ray_permitted.proofs.Fetching.{at_each_fetch}
use Rattle.ray_permitted.proofs.Finding.{at_each_store}
use Rattle.ray_permitted.proofs.laws.fetches_are_ready.Goals as goal

pub returns : goal.returns
returns c = record { fetches = at_each_fetch; stores = at_each_store }
