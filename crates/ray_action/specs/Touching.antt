-- That an action touches what the rules say of its piece: so what the rules on hazards order is ordered for
-- actions too. (Own.)
use Rattle.std.specs.Prelude.{ℕ, ◌≡◌, List, Some, Bool, true, false, slice_get}
use Rattle.std.specs.List.{list_any}
use Rattle.ray_cmd.specs.declared.command.Command.{Command}
use Rattle.ray_rules.specs.declared.reach.Reach.{Reach}
use Rattle.ray_rules.specs.declared.reach.Reach.TheVariants as reaches
use Rattle.ray_rules.specs.declared.stage.Stage.{Stage}
use Rattle.ray_rules.specs.declared.touch.Touch.{Touch}
use Rattle.ray_rules.specs.Access.{Accesses, stage_of, piece_accesses}
use Rattle.ray_rules.specs.Status.{Status}
use Rattle.ray_action.specs.Memory.{Location, ByteAt, BufferAt, StructureAt, ContentsAt}
use Rattle.ray_action.specs.Areas.{cover, is_in_range, is_contents_of}
use Rattle.ray_action.specs.Action.{Action, areas_read}
use Rattle.ray_action.specs.Storing.{writes}
use Rattle.ray_action.specs.Pieces.{actions_of}

-- whether a location is among what an access reaches. Scratch memory is accessed and holds nothing
abbrev pub is_reached : Reach → Location → Bool
is_reached (reaches.Bytes r) l = is_in_range r l
is_reached (reaches.Structure id) l = is_contents_of id l
is_reached (reaches.Scratch r) l = false

-- whether one of several accesses reaches a location
abbrev pub touched : List Touch → Location → Bool
touched touches l = list_any (λ (t : Touch). is_reached t.reach l) touches

-- whether a location holds bytes or contents. The others say what is live, which host commands alone change
abbrev pub holds_data : Location → Bool
holds_data (ByteAt buffer at) = true
holds_data (BufferAt id) = false
holds_data (StructureAt id) = false
holds_data (ContentsAt id) = true

-- an action reads no more data than these accesses, and writes no more
pub record TouchesWithin (action : Action) (accesses : Accesses) : Type 0 where
  pub reads : (l : Location) → holds_data l ≡ true → cover (areas_read action) l ≡ true → touched accesses.reads l ≡ true
  pub writes : (l : Location) → writes action l ≡ true → touched accesses.writes l ≡ true

-- so it is with each piece of a device command, which has a stage
abbrev pub ActionsTouchWithin : Type 0
ActionsTouchWithin =
    (rec : List Command) (z : Status) (c : Command) (stage : Stage) (k : ℕ) (action : Action)
    → stage_of c ≡ Some stage → slice_get (actions_of rec z c) k ≡ Some action
    → TouchesWithin action (piece_accesses rec z c k)
