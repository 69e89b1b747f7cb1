use Rattle.std.proofs.Common.{◌≡◌, ◌++◌, Ok, drop}
use Rattle.serde_json.specs.View.{items_view}
use Rattle.ray_submits.specs.Reading.{◌>>=◌, submits_from}
use Rattle.ray_submits.proofs.entries.entries.Given as goal

-- the submissions so far go on with what the items that are left spell
abbrev pub invariant-loop-k : goal.invariant-loop-k
invariant-loop-k l =
    (submits_from l.k (items_view (drop l.k l.values)) >>= λ ss. Ok (l.submits ++ ss)) ≡ submits_from 0 (items_view l.values)
