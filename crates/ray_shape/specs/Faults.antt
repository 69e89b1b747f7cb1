-- Why a command of a JSON value has no shape of a command. (Own.)
use Rattle.std.specs.Prelude.{ℕ, ◌≡◌, List, ◌∷◌, true, Some, None}
use Rattle.serde_json.specs.Data.{Data}
use Rattle.serde_json.specs.Find.{as_array, at}
use Rattle.ray_shape.specs.declared.explaining.ShapeFault.{ShapeFault}
use Rattle.ray_shape.specs.declared.explaining.ShapeFault.TheVariants as faults
use Rattle.ray_shape.specs.declared.shape.Kind.TheVariants as kinds
use Rattle.ray_shape.specs.declared.wrong.Step.{Step}
use Rattle.ray_shape.specs.declared.wrong.Step.TheVariants as steps
use Rattle.ray_shape.specs.declared.wrong.Wrong.{Wrong}
use Rattle.ray_shape.specs.Reads.{reads_object}
use Rattle.ray_shape.specs.Wrong.{IsWrong}

-- a path begins with the item of this number
abbrev pub BeginsWith : ℕ → List Step → Type 0
BeginsWith number path = (rest : List Step) × (path ≡ steps.Item number ∷ rest)

-- the fault is one of the command of this number: the value is no list; or at the end of a path into the command stands
-- what isn't wanted there; or the command, if there is one, is read
abbrev pub IsShapeFault : ShapeFault → ℕ → Data → Type 0
IsShapeFault faults.NoList command d = as_array d ≡ None
IsShapeFault (faults.Wrong wrong) command d = BeginsWith command wrong.path.items × IsWrong wrong d
IsShapeFault faults.TooMany command d = (e : Data) → at command d ≡ Some e → reads_object kinds.Command e ≡ true
