-- A place of a JSON value that isn't as the grammar wants it. (Own; the path is that of a JSON pointer, RFC 6901.)
use Rattle.std.specs.Prelude.{ℕ, ◌≡◌, List, [], ◌∷◌, Bool, true, false, Option, Some, None, Result, Ok, Err, option_and_then, is_none, is_some, string_bytes}
use Rattle.serde_json.specs.Data.{Data}
use Rattle.serde_json.specs.Find.{as_array, as_object, at, get}
use Rattle.ray_shape.specs.declared.shape.Form.{Form}
use Rattle.ray_shape.specs.declared.wrong.Fault.{Fault}
use Rattle.ray_shape.specs.declared.wrong.Fault.TheVariants as faults
use Rattle.ray_shape.specs.declared.wrong.Step.{Step}
use Rattle.ray_shape.specs.declared.wrong.Step.TheVariants as steps
use Rattle.ray_shape.specs.declared.wrong.Wanted.{Wanted}
use Rattle.ray_shape.specs.declared.wrong.Wanted.TheVariants as wanted
use Rattle.ray_shape.specs.declared.wrong.Wrong.{Wrong}
use Rattle.ray_shape.specs.Reads.{reads}
use Rattle.ray_shape.specs.Table.{form_of, members_of, names_fit}

-- one step into a value: a member of an object, or an item of a list
abbrev pub step : Step → Data → Option Data
step (steps.Member name) d = get (string_bytes name) d
step (steps.Item number) d = at number d

-- what stands at the end of a path, if anything does
abbrev pub stands : List Step → Data → Option Data
stands [] d = Some d
stands (s ∷ path) d = option_and_then (stands path) (step s d)

-- whether what stands at a place, if anything does, is what is wanted there
abbrev pub is_wanted : Wanted → Option Data → Bool
is_wanted (wanted.Shape shape) None = false
is_wanted (wanted.Shape shape) (Some d) = reads shape d
is_wanted (wanted.List item) None = false
is_wanted (wanted.List item) (Some d) = is_some (as_array d)
is_wanted (wanted.Object kind) None = false
is_wanted (wanted.Object kind) (Some d) = is_some (as_object d)
is_wanted (wanted.Members form) None = false
is_wanted (wanted.Members form) (Some d) = names_fit (members_of form) d
is_wanted wanted.Nothing found = is_none found

-- at the end of its path stands what isn't wanted there
abbrev pub IsWrong : Wrong → Data → Type 0
IsWrong wrong d = is_wanted wrong.wanted (stands wrong.path.items d) ≡ false

-- the answer is whether a value passes a test, and where it doesn't, what is wrong in it. Want of memory is free
abbrev pub Finds : Result (Unit {0}) Fault → Bool → Data → Type 0
Finds (Ok _) test d = test ≡ true
Finds (Err (faults.At wrong)) test d = (test ≡ false) × IsWrong wrong d
Finds (Err faults.NoMemory) test d = Unit {0}

-- the same of what chooses a form
abbrev pub FindsForm : Result Form Fault → Option Form → Data → Type 0
FindsForm (Ok form) found d = found ≡ Some form
FindsForm (Err (faults.At wrong)) found d = (found ≡ None) × IsWrong wrong d
FindsForm (Err faults.NoMemory) found d = Unit {0}
