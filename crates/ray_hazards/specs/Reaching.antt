-- What touches reach, cell by cell. Two lists of touches reach the same where each access to each thing has
-- the same cells in both; then the same commands are at odds with them, and the same cells are marked. (Own.)
use Rattle.std.specs.Prelude.{◌≡◌, ◌∷◌, ◌++◌, ◌&&◌, [], ℕ, Bool, List, Option, Some, All, Vec, map}
use Rattle.std.specs.BTreeMap.{get}
use Rattle.std.specs.List.{list_any}
use Rattle.std.specs.Option.{option_to_list}
use Rattle.std.specs.Ordering.{nat_cmp}
use Rattle.std.specs.declared.alloc.Global.{Global}
use Rattle.ray_access.specs.declared.touched.Touched.{Touched}
use Rattle.ray_access.specs.Axis.{TouchFits, touched}
use Rattle.ray_access.specs.Lists.{structures_traced}
use Rattle.ray_cmd.specs.declared.command.Command.{Command}
use Rattle.ray_rules.specs.declared.access_type.AccessType.{AccessType}
use Rattle.ray_rules.specs.declared.touch.Touch.{Touch}
use Rattle.ray_rules.specs.Status.{Status, after}
use Rattle.ray_hazards.specs.Cells.{has_cell}
use Rattle.ray_hazards.specs.declared.tops.Tops.{Tops}

-- a touch has a cell, and a test finds its access and its thing
abbrev pub reaches : List ℕ → (AccessType → Option ℕ → Bool) → ℕ → Touched → Bool
reaches starts test c t = test t.access t.buffer && has_cell starts t.range c

-- two lists reach the same
abbrev pub ReachSame : List ℕ → List Touched → List Touched → Type 0
ReachSame starts one other =
    (test : AccessType → Option ℕ → Bool) (c : ℕ)
    → list_any (reaches starts test c) one ≡ list_any (reaches starts test c) other

-- a list reaches what these touches do where a status stands
pub record AreReached (z : Status) (starts : List ℕ) (ts : List Touch) (list : List Touched) : Type 0 where
  pub same : ReachSame starts (map (touched z) ts) list
  pub fit : All TouchFits ts

-- what is kept of tops is what traces of them read of structures where a status stands
abbrev pub AreTops : List Command → List ℕ → Status → Tops → Type 0
AreTops rec starts z tops =
    (top : ℕ) (list : Vec Touched Global) → get nat_cmp tops.reads top ≡ Some list
    → AreReached z starts (structures_traced rec z top) list.items

-- after some touches there is one more, put together with the last or behind it
abbrev pub GoesOn : List ℕ → List Touched → Option Touched → Touched → List Touched → Touched → Type 0
GoesOn starts old last touch new next = ReachSame starts ((old ++ option_to_list last) ++ touch ∷ []) (new ++ next ∷ [])

-- a command leaves the structures as they are
abbrev pub KeepsStructures : Command → Type 0
KeepsStructures c = (n : ℕ) (z : Status) → (after n c z).structures ≡ z.structures
