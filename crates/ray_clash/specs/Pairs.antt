-- Words of private calls alone, which a reader of the public contracts needs not: two commands, and what
-- of them is compared.
use Rattle.std.specs.Prelude.{ℕ, ◌≡◌, ◌<◌, ◌≤◌, Bool, true, false, List, Option, Some, slice_get}
use Rattle.ray_cmd.specs.declared.command.Command.{Command}
use Rattle.ray_rules.specs.declared.touch.Touch.{Touch}
use Rattle.ray_rules.specs.Hazards.{stage_at}
use Rattle.ray_rules.specs.Order.{is_ordered_to}
use Rattle.ray_rules.specs.Status.{Status}
use Rattle.ray_access.specs.declared.touched.Touched.{Touched}
use Rattle.ray_access.specs.Axis.{TouchFits, touched}
use Rattle.ray_clash.specs.declared.clash.Missing.{Missing}
use Rattle.ray_clash.specs.declared.clash.Missing.TheVariants.{Execution, Availability, Visibility}
use Rattle.ray_clash.specs.declared.clash.Side.{Side}
use Rattle.ray_clash.specs.declared.handing.Passed.{Passed}
use Rattle.ray_clash.specs.declared.pairs.Pair.{Pair}
use Rattle.ray_clash.specs.Clashes.{IsLacking, IsMissing, IsUncovered, later_stage}
use Rattle.ray_clash.specs.Handing.{reached_at, reaches_some}

-- two commands stand so: at these stages, and ordered or not
pub record IsPairAt (rec : List Command) (pair : Pair) : Type 0 where
  pub rises : pair.earlier < pair.later
  pub put : (pair.earlier < pair.put) × (pair.put ≤ pair.later)
  pub stage : stage_at rec pair.earlier ≡ Some pair.stage
  pub to : later_stage pair.hazard rec pair.later ≡ Some pair.to
  pub ordered : pair.ordered ≡ is_ordered_to rec pair.earlier pair.stage pair.later pair.to

-- an access is one of these, by its numbers where a status stands
pub record IsOf (z : Status) (ts : List Touch) (x : Touched) : Type 0 where
  pub touch : Touch
  pub place : ℕ
  pub there : slice_get ts place ≡ Some touch
  pub fits : TouchFits touch
  pub is : x ≡ touched z touch

-- two sides are at the stages of a pair
abbrev pub AreSidesOf : Pair → Side → Side → Type 0
AreSidesOf pair from to = (from.stage ≡ pair.stage) × (to.stage ≡ pair.to)

-- what the sides of a pair lack, and what is missing
abbrev pub sides_lack : List Command → Pair → Option ℕ → Side → Side → Missing → Type 0
sides_lack rec pair thing from to missing =
    IsLacking pair.hazard rec pair.earlier pair.later thing from to
    × IsMissing rec pair.earlier pair.later thing from to missing

-- the same where the earlier one writes
abbrev pub write_lacks : List Command → Pair → Option ℕ → Side → Side → Missing → Type 0
write_lacks rec pair thing from to missing =
    IsUncovered rec pair.earlier pair.later thing from to
    × IsMissing rec pair.earlier pair.later thing from to missing

-- which half is missing, where commands are ordered or not and what one wrote was handed on so far
abbrev pub IsHalf : Bool → Passed → Missing → Type 0
IsHalf ordered passed Execution = (passed.seen ≡ false) × (ordered ≡ false)
IsHalf ordered passed Availability = (passed.seen ≡ false) × (reaches_some (reached_at passed) ≡ false)
IsHalf ordered passed Visibility = (passed.seen ≡ false) × (reaches_some (reached_at passed) ≡ true)
