use Rattle.std.proofs.Common.{◌≡◌, ◌++◌, Ok, drop}
use Rattle.serde_json.specs.View.{items_view}
use Rattle.ray_pipe.specs.Reading.{◌>>=◌, tables_from}
use Rattle.ray_pipe.proofs.entries.entries.Given as goal

-- the tables so far go on with what the items that are left spell
abbrev pub invariant-loop-k : goal.invariant-loop-k
invariant-loop-k l =
    (tables_from l.scripted l.k (items_view (drop l.k l.values)) >>= λ ts. Ok (l.tables ++ ts))
    ≡ tables_from l.scripted 0 (items_view l.values)
