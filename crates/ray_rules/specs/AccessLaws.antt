-- That a piece of a command touches no more than the command. (Own.)
use Rattle.std.specs.Prelude.{ℕ, ◌+◌, ◌*◌, ◌≡◌, ◌≤◌, ◌<◌, List, Contains}
use Rattle.ray_cmd.specs.declared.command.Command.{Command}
use Rattle.ray_cmd.specs.declared.command.Command.TheVariants as commands
use Rattle.ray_rules.specs.declared.byte_range.ByteRange.{ByteRange}
use Rattle.ray_rules.specs.declared.reach.Reach.{Reach}
use Rattle.ray_rules.specs.declared.reach.Reach.TheVariants.{Bytes, Structure, Scratch}
use Rattle.ray_rules.specs.declared.touch.Touch.{Touch}
use Rattle.ray_rules.specs.Access.{accesses_of, piece_accesses}
use Rattle.ray_rules.specs.Status.{Status}

-- bytes are among others of their buffer
pub record IsPartOf (r s : ByteRange) : Type 0 where
  pub same : r.buffer ≡ s.buffer
  pub begins : s.from ≤ r.from
  pub ends : r.from + r.size ≤ s.from + s.size

-- what is reached is part of what is reached otherwise
abbrev pub ReachesWithin : Reach → Reach → Type 0
ReachesWithin (Bytes r) (Bytes s) = IsPartOf r s
ReachesWithin (Structure a) (Structure b) = a ≡ b
ReachesWithin (Scratch r) (Scratch s) = IsPartOf r s
ReachesWithin _ _ = ⊥

-- a touch is by the same access as another, and reaches no more
pub record TouchesWithin (one other : Touch) : Type 0 where
  pub same : one.access ≡ other.access
  pub within : ReachesWithin one.reach other.reach

-- each of these touches is within one of those
abbrev pub AreWithin : List Touch → List Touch → Type 0
AreWithin some others = (one : Touch) → Contains some one → (other : Touch) × Contains others other × TouchesWithin one other

-- a trace has a piece of a number where a ray is left for it; of other commands nothing is asked
abbrev pub HasRays : Command → ℕ → Type 0
HasRays (commands.Trace top rays count hits flags mask script) k = 64 * k < count
HasRays _ k = Unit {0}

-- a piece reads and writes no more than its command
pub record IsOfCommand (rec : List Command) (z : Status) (c : Command) (k : ℕ) : Type 0 where
  pub reads : AreWithin (piece_accesses rec z c k).reads (accesses_of rec z c).reads
  pub writes : AreWithin (piece_accesses rec z c k).writes (accesses_of rec z c).writes

-- the law, for every recording, status, command and piece
abbrev pub PiecesAreOfCommands : Type 0
PiecesAreOfCommands =
    (rec : List Command) (z : Status) (c : Command) (k : ℕ) → HasRays c k → IsOfCommand rec z c k
