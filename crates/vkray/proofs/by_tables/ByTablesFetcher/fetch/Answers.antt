use Rattle.std.proofs.Common.{subst}
use Rattle.ray_action.specs.Clients.{Meaning}
use Rattle.ray_action.specs.Outcomes.{outcome_of}
use Rattle.ray_device.specs.Fetching.{IsPieceFetched}
use Rattle.ray_device.specs.Pieces.{piece_action}
use Rattle.ray_memory.specs.State.{memory_of}
use Rattle.vkray.proofs.by_tables.ByTablesFetcher.fetch.Goals as goal

pub returns : goal.returns
returns g c =
    subst
    (λ (m : Meaning). IsPieceFetched c.args.piece (outcome_of m (piece_action c.args.rec.now c.args.piece) (memory_of c.args.state.now)) c.fetch_with-fetched.result)
    c.of_command-client.ensures.client c.fetch_with-fetched.ensures.value
