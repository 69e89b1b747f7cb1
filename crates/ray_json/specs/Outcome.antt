-- How what a reader answers stands to what a value spells. Want of memory is free. (Own.)
use Rattle.std.specs.Prelude.{◌≡◌, Option, Some, None, Result, Ok, Err}
use Rattle.ray_json.specs.declared.fault.ReadFault.{ReadFault}
use Rattle.ray_json.specs.declared.fault.ReadFault.TheVariants.{Shape, NoMemory}

-- a fault has its cause: the shape is at fault exactly where nothing is spelled
abbrev pub Fails : {A : Type 0} → ReadFault → Option A → Type 0
Fails NoMemory spelled = Unit {0}
Fails Shape spelled = spelled ≡ None

-- the answer is what is spelled, or a fault with its cause
abbrev pub Gives : {A : Type 0} → Result A ReadFault → Option A → Type 0
Gives (Ok x) spelled = spelled ≡ Some x
Gives (Err e) spelled = Fails e spelled

-- the same of an answer that is seen by a function
abbrev pub GivesBy : {A B : Type 0} → (A → B) → Result A ReadFault → Option B → Type 0
GivesBy f (Ok x) spelled = spelled ≡ Some (f x)
GivesBy f (Err e) spelled = Fails e spelled
