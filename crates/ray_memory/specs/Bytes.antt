-- Bytes of buffers in code. (Own.)
use Rattle.std.specs.Prelude.{ℕ, ◌≡◌, ◌<◌, ◌+◌, ◌-◌, ◌&&◌, ◌%◌, Bool, List, [], length, slice_get, take, drop, Option, Some, None, option_map, option_and_then, unwrap_or, nat_le, nat_lt, if◌then◌else◌}
use Rattle.byteorder.specs.Endian.{little_bytes}
use Rattle.ray_rules.specs.declared.byte_range.ByteRange.{ByteRange}

-- a live buffer: its size, and the bytes that it keeps, which are all, or none
pub record BufferValue : Type 0 where
  pub size : ℕ
  pub bytes : List ℕ

-- these bytes are the content, cut or filled up with zeros to a size
pub record IsFresh (size : ℕ) (content bytes : List ℕ) : Type 0 where
  pub sized : length bytes ≡ size
  pub each : (k : ℕ) → k < size → slice_get bytes k ≡ Some (unwrap_or (slice_get content k) 0)

-- a buffer has a size, and keeps no bytes, or the content so
abbrev pub IsNew : ℕ → Option (List ℕ) → BufferValue → Type 0
IsNew size None buffer = (buffer.size ≡ size) × (buffer.bytes ≡ [])
IsNew size (Some content) buffer = (buffer.size ≡ size) × IsFresh size content buffer.bytes

-- so many bytes from a place on, where all of them are there
abbrev pub part_at : List ℕ → ℕ → ℕ → Option (List ℕ)
part_at bytes from size = if nat_le (from + size) (length bytes) then Some (take size (drop from bytes)) else None

-- the same of a buffer, where it is live
abbrev pub part_in : Option BufferValue → ℕ → ℕ → Option (List ℕ)
part_in buffer from size = option_and_then (λ (b : BufferValue). part_at b.bytes from size) buffer

-- whether a place is in a range
abbrev pub is_between : ByteRange → ℕ → Bool
is_between r at = nat_le r.from at && nat_lt at (r.from + r.size)

-- the bytes of a range are written: each place of it that is there has the byte for it, if there is one,
-- and all else is as before
pub record IsWritten (to : ByteRange) (byte_for : ℕ → Option ℕ) (before after : List ℕ) : Type 0 where
  pub sized : length after ≡ length before
  pub each : (at : ℕ) → slice_get after at
      ≡ (if is_between to at then option_map (λ old. unwrap_or (byte_for (at - to.from)) old) (slice_get before at)
      else slice_get before at)

-- the same of the bytes that a buffer keeps
pub record IsWrittenIn (to : ByteRange) (byte_for : ℕ → Option ℕ) (before after : BufferValue) : Type 0 where
  pub size : after.size ≡ before.size
  pub bytes : IsWritten to byte_for before.bytes after.bytes

-- one byte after the other of these, and a word again and again
abbrev pub IsOverwritten : ByteRange → List ℕ → List ℕ → List ℕ → Type 0
IsOverwritten to bytes = IsWritten to (slice_get bytes)

abbrev pub byte_of_word : ℕ → ℕ → Option ℕ
byte_of_word value k = slice_get (little_bytes 4 value) (k % 4)

abbrev pub IsRefilled : ByteRange → ℕ → List ℕ → List ℕ → Type 0
IsRefilled to value = IsWritten to (byte_of_word value)

-- the first n bytes of a range
abbrev pub first_of : ByteRange → ℕ → ByteRange
first_of r n = record r { size = n }
