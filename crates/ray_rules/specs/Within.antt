-- That the bytes of a range are in its buffer. (Own.)
use Rattle.std.specs.Prelude.{◌+◌, ◌≤◌, ◌<◌, ℕ, List, [], ◌∷◌, Option, Some, None}
use Rattle.ray_rules.specs.declared.byte_range.ByteRange.{ByteRange}
use Rattle.ray_rules.specs.declared.live_buffer.LiveBuffer.{LiveBuffer}
use Rattle.ray_rules.specs.Ids.{Ids}
use Rattle.ray_rules.specs.Ranges.{size_at}

-- each byte of a range is in its buffer
abbrev pub IsInBuffer : Ids LiveBuffer → ByteRange → Type 0
IsInBuffer buffers r = (b : ℕ) → r.from ≤ b → b < r.from + r.size → b < size_at buffers r.buffer

-- the same where there is a range
abbrev pub IsInBufferIf : Ids LiveBuffer → Option ByteRange → Type 0
IsInBufferIf buffers None = Unit {0}
IsInBufferIf buffers (Some r) = IsInBuffer buffers r

-- and of each of several
abbrev pub AreInBuffers : Ids LiveBuffer → List (Option ByteRange) → Type 0
AreInBuffers buffers [] = Unit {0}
AreInBuffers buffers (r ∷ rs) = IsInBufferIf buffers r × AreInBuffers buffers rs
