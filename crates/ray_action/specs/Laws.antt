-- What holds of every action. (Own.)
use Rattle.std.specs.Prelude.{◌≡◌}
use Rattle.ray_action.specs.Memory.{Memory}
use Rattle.ray_action.specs.Areas.{AgreeOn}
use Rattle.ray_action.specs.Action.{Action, areas_read}
use Rattle.ray_action.specs.Clients.{Meaning}
use Rattle.ray_action.specs.Outcomes.{outcome_of}

-- an outcome is told by what the action reads, whoever decides
abbrev pub OutcomesAreLocal : Type 0
OutcomesAreLocal =
    (meaning : Meaning) (action : Action) (memory other : Memory)
    → AgreeOn (areas_read action) memory other → outcome_of meaning action memory ≡ outcome_of meaning action other
