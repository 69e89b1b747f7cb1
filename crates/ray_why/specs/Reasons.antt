-- Why bytes are refused as a recording, or that they aren't. (Own.)
use Rattle.std.specs.Prelude.{ℕ, ◌≡◌, List, Option, Some, None, Ok, Err, String, IfSome, is_some}
use Rattle.std.specs.declared.alloc.Global.{Global}
use Rattle.serde_json.specs.Data.{Data}
use Rattle.serde_json.specs.Errors.{IsMemory}
use Rattle.serde_json.specs.declared.error.Error.{Error}
use Rattle.ray_cmd.specs.declared.command.Command.{Command}
use Rattle.ray_cmd.specs.declared.fault.RecordingFault.TheVariants.{BadShape}
use Rattle.ray_cmd.specs.Json.{json_of}
use Rattle.ray_cmd.specs.Recordings.{recording_of}
use Rattle.ray_rules.specs.Order.{barriers}
use Rattle.ray_rules.specs.Verdict.{rule_refusal}
use Rattle.ray_shape.specs.declared.explaining.ShapeFault.{ShapeFault}
use Rattle.ray_shape.specs.declared.explaining.ShapeFault.TheVariants as faults
use Rattle.ray_shape.specs.Faults.{IsShapeFault}
use Rattle.ray_shape.specs.Wrong.{stands}
use Rattle.ray_builds.specs.Builds.{IsMisbuiltAt, is_rule_8}
use Rattle.ray_causes.specs.Causes.{IsCauseAt}
use Rattle.ray_grounds.specs.Ends.{IsUnfinishedAt, is_of_end}
use Rattle.ray_grounds.specs.Grounds.{IsGroundAt}
use Rattle.ray_clash.specs.Clashes.{IsClashAt}
use Rattle.ray_conflicts.specs.Conflicts.{IsConflictAt}
use Rattle.ray_crowds.specs.Crowds.{IsCrowdAt}
use Rattle.ray_kinds.specs.Misfits.{IsMisfitAt}
use Rattle.ray_limits.specs.Limits.{IsLimitAt}
use Rattle.ray_updates.specs.Changes.{IsUpdateAt}
use Rattle.ray_why.specs.declared.reasons.Broken.{Broken}
use Rattle.ray_why.specs.declared.reasons.Misshapen.{Misshapen}
use Rattle.ray_why.specs.declared.reasons.Unread.{Unread}
use Rattle.ray_why.specs.declared.reasons.Unread.TheVariants as unreads
use Rattle.ray_why.specs.declared.reasons.Why.{Why}
use Rattle.ray_why.specs.declared.reasons.Why.TheVariants as whys

-- whether something is told of what stands at the place of a fault: it is exactly where something stands there
abbrev pub AreFound : ShapeFault → Option (String Global) → Data → Type 0
AreFound (faults.Wrong wrong) found d = is_some found ≡ is_some (stands wrong.path.items d)
AreFound faults.NoList found d = found ≡ None
AreFound faults.TooMany found d = found ≡ None

-- what is wrong with a command that has no shape of a command
pub record IsMisshapen (m : Misshapen) (d : Data) : Type 0 where
  pub fault : IsShapeFault m.fault m.command d
  pub found : AreFound m.fault m.found d

-- a command is the one for which a recording is refused, and what is told of it is so
pub record IsBroken (broken : Broken) (commands : List Command) : Type 0 where
  pub refusal : rule_refusal (barriers commands) commands ≡ Some broken.refusal
  pub cause : IfSome broken.cause (λ cause. IsCauseAt commands broken.refusal cause)
  pub grounds : IfSome broken.grounds (λ basis. IsGroundAt commands broken.refusal basis)
  pub limits : IfSome broken.limits (λ limit. IsLimitAt commands broken.refusal limit)
  pub misfits : IfSome broken.misfits (λ misfit. IsMisfitAt commands broken.refusal misfit)
  pub crowds : IfSome broken.crowds (λ crowd. IsCrowdAt commands broken.refusal crowd)
  pub clash : IfSome broken.clash (λ clash. IsClashAt commands broken.refusal clash)
  pub updates : IfSome broken.updates (λ update. IsUpdateAt commands broken.refusal update)
  pub conflicts : IfSome broken.conflicts (λ conflict. IsConflictAt commands broken.refusal conflict)
  pub builds : IfSome broken.builds (λ misbuilt. IsMisbuiltAt commands broken.refusal misbuilt)
  pub builds_told : is_some broken.builds ≡ is_rule_8 broken.refusal.rule
  pub unfinished : IfSome broken.unfinished (λ phase. IsUnfinishedAt commands broken.refusal phase)
  pub unfinished_told : is_some broken.unfinished ≡ is_of_end commands broken.refusal

-- what the rules on the recording alone say of it
abbrev pub IsOfRules : Why → List Command → Type 0
IsOfRules whys.Kept commands = rule_refusal (barriers commands) commands ≡ None
IsOfRules (whys.Refused broken) commands = IsBroken broken commands
IsOfRules why commands = ⊥

-- a JSON value is a recording of which the rules say this
pub record IsByRules (why : Why) (d : Data) : Type 0 where
  pub commands : List Command
  pub read : recording_of d ≡ Ok commands
  pub rules : IsOfRules why commands

-- why a JSON value is refused: its first command without a shape, with what is wrong in it; or by the rules
abbrev pub IsWhyOf : Why → Data → Type 0
IsWhyOf whys.Kept d = IsByRules whys.Kept d
IsWhyOf (whys.NotJson words) d = ⊥
IsWhyOf (whys.BadShape m) d = (recording_of d ≡ Err (BadShape m.command)) × IsMisshapen m d
IsWhyOf (whys.Refused broken) d = IsByRules (whys.Refused broken) d

-- that something is no JSON
abbrev pub IsNotJson : Why → Type 0
IsNotJson (whys.NotJson words) = Unit {0}
IsNotJson why = ⊥

-- why what may be a JSON value is refused
abbrev pub IsWhyIf : Why → Option Data → Type 0
IsWhyIf why None = IsNotJson why
IsWhyIf why (Some d) = IsWhyOf why d

-- why bytes are refused: they are no JSON, or their value is
abbrev pub IsWhy : Why → List ℕ → Type 0
IsWhy why bytes = IsWhyIf why (json_of bytes)

-- ---- no JSON

-- what is told of bytes without a JSON value is so; want of memory is free
abbrev pub IsUnread : Unread → Option Data → Type 0
IsUnread (unreads.NotJson words) found = found ≡ None
IsUnread unreads.NoMemory found = Unit {0}

-- the same of an error of the reader: words are told of one that isn't want of memory
abbrev pub IsOfError : Unread → Error → Type 0
IsOfError (unreads.NotJson words) error = ¬ IsMemory error
IsOfError unreads.NoMemory error = Unit {0}
