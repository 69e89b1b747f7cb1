-- How far one command has been handed on, as far as one access of a later one asks. (Own.)
use Rattle.std.specs.Prelude.{ℕ, ◌≡◌, Bool, true, ◌||◌, List, if◌then◌else◌}
use Rattle.ray_cmd.specs.declared.command.Command.{Command}
use Rattle.ray_flags.specs.declared.access.Access.{Access}
use Rattle.ray_flags.specs.declared.stages.Stages.{Stages}
use Rattle.ray_rules.specs.declared.access_type.AccessType.{AccessType}
use Rattle.ray_rules.specs.declared.stage.Stage.{Stage}
use Rattle.ray_rules.specs.declared.stage.Stage.TheVariants.{Transfer, Build, StructureCopy, Compute, Host}
use Rattle.ray_rules.specs.Order.{Handed, acts_on, always, handed_after, handed_at, takes_stage, takes_write}
use Rattle.ray_rules.specs.Order.{acts_at}
use Rattle.ray_rules.specs.Status.{Status}
use Rattle.ray_clash.specs.declared.handing.Deed.{Deed}
use Rattle.ray_clash.specs.declared.handing.Deed.TheVariants as deeds
use Rattle.ray_clash.specs.declared.handing.Passed.{Passed}

-- which barriers take up directly what was done at a stage: all of it, or what was written
abbrev pub takes_deed : Stage → Deed → Stages → Access → Bool
takes_deed stage deeds.Any = takes_stage stage
takes_deed stage (deeds.Write access thing) = takes_write stage access

-- whether a command acts on it where a status stands
abbrev pub acts_on_deed : Deed → Status → Command → Bool
acts_on_deed deeds.Any z c = true
acts_on_deed (deeds.Write access thing) z c = acts_on thing z c

-- the same of command number n
abbrev pub acts_at_deed : List Command → Deed → ℕ → Bool
acts_at_deed rec deeds.Any = always
acts_at_deed rec (deeds.Write access thing) = acts_at rec thing

-- how far command number i, of a stage, has been handed on where command number n stands
abbrev pub deed_at : List Command → ℕ → Stage → Deed → ℕ → Handed
deed_at rec i stage deed n = handed_at (takes_deed stage deed) (acts_at_deed rec deed) rec i n

-- the same after one more command, before which a status stands
abbrev pub deed_after : Stage → Deed → Status → Command → Handed → Handed
deed_after stage deed z c h = if acts_on_deed deed z c then handed_after (takes_deed stage deed) c h else h

-- whether a stage has been reached
abbrev pub reached_at : Passed → Stage → Bool
reached_at p Transfer = p.transfer
reached_at p Build = p.build
reached_at p StructureCopy = p.structure_copy
reached_at p Compute = p.compute
reached_at p Host = p.host

-- so far it has been handed on: the stages that it has reached, and whether it is visible to an access at
-- a stage
pub record IsPassed (to : Stage) (x : AccessType) (h : Handed) (p : Passed) : Type 0 where
  pub stages : (s : Stage) → h.stages s ≡ reached_at p s
  pub pair : h.pairs to x ≡ p.seen

-- whether it has reached some stage
abbrev pub reaches_some : (Stage → Bool) → Bool
reaches_some reached = reached Transfer || (reached Build || (reached StructureCopy || (reached Compute || reached Host)))
