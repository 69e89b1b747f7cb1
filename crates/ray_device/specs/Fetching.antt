-- What a fetch comes to. (Own.)
use Rattle.std.specs.Prelude.{ℕ, ◌≡◌, Option, Result, Ok, Err, unwrap_or}
use Rattle.std.specs.Option.{option_map_or}
use Rattle.ray_cmd.specs.declared.asked.Asked.{Asked}
use Rattle.ray_action.specs.Memory.{Memory, Contents}
use Rattle.ray_action.specs.Outcomes.{Outcome, Gives, Breaks, Undefined, Holds, number_of}
use Rattle.ray_action.specs.Seeing.{see_structure}
use Rattle.ray_device.specs.declared.output.Output.{Output}
use Rattle.ray_device.specs.declared.fetch_fault.FetchFault.{FetchFault}
use Rattle.ray_device.specs.declared.fetch_fault.FetchFault.TheVariants.{Data, NoMemory}
use Rattle.ray_device.specs.declared.piece.Piece.{Piece}
use Rattle.ray_device.specs.Fetched.{Fetched, given}

-- a fetch comes to this outcome: it gives the output, or tells the data rule that is broken, and where. Want
-- of memory is free
abbrev pub IsFetched : Outcome → Result Output FetchFault → Type 0
IsFetched outcome (Ok output) = outcome ≡ Gives (given output)
IsFetched outcome (Err (Data rule place)) = outcome ≡ Breaks (record { rule = rule; place = place })
IsFetched outcome (Err NoMemory) = Unit {0}

-- the same of a piece, which is kept beside its output
abbrev pub IsPieceFetched : Piece → Outcome → Result Fetched FetchFault → Type 0
IsPieceFetched piece outcome (Ok out) = (out.piece ≡ piece) × (outcome ≡ Gives out.output)
IsPieceFetched piece outcome (Err (Data rule place)) = outcome ≡ Breaks (record { rule = rule; place = place })
IsPieceFetched piece outcome (Err NoMemory) = Unit {0}

-- what holds where a fetch is answered, by what it gives or by the data rule that is broken; nothing is said where memory is wanting
abbrev pub OnAnswered : {X : Type 0} → Result X FetchFault → Type 0 → Type 0
OnAnswered (Ok x) P = P
OnAnswered (Err (Data rule place)) P = P
OnAnswered (Err NoMemory) P = Unit {0}

-- what a clone of contents gives
abbrev pub clone_outcome : Option Contents → Outcome
clone_outcome contents = option_map_or (λ c. Gives (Holds c)) contents Undefined

-- the number that is asked of a structure, 0 where it has none
abbrev pub number_told : Asked → Memory → ℕ → ℕ
number_told what memory id = unwrap_or (number_of what (see_structure memory id)) 0
