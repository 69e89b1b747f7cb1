-- That a command which breaks no rule reads and writes bytes that are there. (Own.)
use Rattle.std.specs.Prelude.{◌≡◌, List, [], ◌∷◌, None}
use Rattle.ray_cmd.specs.declared.command.Command.{Command}
use Rattle.ray_rules.specs.declared.live_buffer.LiveBuffer.{LiveBuffer}
use Rattle.ray_rules.specs.declared.reach.Reach.{Reach}
use Rattle.ray_rules.specs.declared.reach.Reach.TheVariants.{Bytes, Structure, Scratch}
use Rattle.ray_rules.specs.declared.touch.Touch.{Touch}
use Rattle.ray_rules.specs.Access.{accesses_of, host_reads}
use Rattle.ray_rules.specs.Ids.{Ids}
use Rattle.ray_rules.specs.Spans.{v4, v12}
use Rattle.ray_rules.specs.Status.{Status}
use Rattle.ray_rules.specs.Within.{IsInBuffer}

-- each byte that is reached is in its buffer; of a structure nothing is asked
abbrev pub ReachesThere : Ids LiveBuffer → Reach → Type 0
ReachesThere buffers (Bytes r) = IsInBuffer buffers r
ReachesThere buffers (Structure id) = Unit {0}
ReachesThere buffers (Scratch r) = IsInBuffer buffers r

-- each of these touches does so
abbrev pub TouchThere : Ids LiveBuffer → List Touch → Type 0
TouchThere buffers [] = Unit {0}
TouchThere buffers (t ∷ ts) = ReachesThere buffers t.reach × TouchThere buffers ts

-- all that a command reads and writes, on the device and for the host
pub record IsWithinBuffers (rec : List Command) (z : Status) (c : Command) : Type 0 where
  pub reads : TouchThere z.buffers (accesses_of rec z c).reads
  pub writes : TouchThere z.buffers (accesses_of rec z c).writes
  pub host : TouchThere z.buffers (host_reads c)

-- the law: it is so where the command keeps V4 and V12
abbrev pub KeptIsWithinBuffers : Type 0
KeptIsWithinBuffers =
    (rec : List Command) (z : Status) (c : Command) → v4 z c ≡ None → v12 z c ≡ None → IsWithinBuffers rec z c
