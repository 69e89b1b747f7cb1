-- What a reading gives, and where a data rule is broken.
use Rattle.std.specs.Prelude.{ℕ, ◌≡◌, Result, Ok, Err, Some, None}
use Rattle.ray_bytes.specs.declared.data_rule.DataRule.{DataRule}
use Rattle.ray_bytes.specs.declared.data_fault.DataFault.{DataFault}
use Rattle.ray_primitives.specs.declared.build_fault.BuildFault.{BuildFault}
use Rattle.ray_primitives.specs.declared.build_fault.BuildFault.TheVariants.{Data, NoMemory}

-- the result is what is read, or the rule that is broken; want of memory is free
abbrev pub Gives : {X : Type 0} → Result X DataFault → Result X BuildFault → Type 0
Gives read (Ok x) = read ≡ Ok x
Gives read (Err (Data fault)) = read ≡ Err fault
Gives read (Err NoMemory) = Unit {0}

-- the result of an element of a geometry: a broken rule has the place of the element
abbrev pub at_element : {X : Type 0} → ℕ → ℕ → Result X DataRule → Result X DataFault
at_element geometry element (Ok x) = Ok x
at_element geometry element (Err rule) = Err (record { rule = rule; geometry = geometry; element = Some element })

-- a rule that a geometry as a whole breaks
abbrev pub geometry_fault : DataRule → ℕ → DataFault
geometry_fault rule geometry = record { rule = rule; geometry = geometry; element = None }
