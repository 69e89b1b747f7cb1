-- The numbers that stand at a place of a record's bytes, little-endian.
use Rattle.std.specs.Prelude.{ℕ, ℤ, List, drop}
use Rattle.std.specs.Int.{w16, w32, cast_signed}
use Rattle.byteorder.specs.Endian.{little_number}

-- the 16-bit number at a place
unfoldable pub half_at : List ℕ → ℕ → ℕ
half_at bytes at = little_number 2 (drop at bytes)

-- the signed 16-bit number at a place
unfoldable pub short_at : List ℕ → ℕ → ℤ
short_at bytes at = cast_signed w16 (half_at bytes at)

-- the 32-bit number at a place
unfoldable pub word_at : List ℕ → ℕ → ℕ
word_at bytes at = little_number 4 (drop at bytes)

-- the signed 32-bit number at a place
unfoldable pub signed_at : List ℕ → ℕ → ℤ
signed_at bytes at = cast_signed w32 (word_at bytes at)

-- the 64-bit number at a place
unfoldable pub long_at : List ℕ → ℕ → ℕ
long_at bytes at = little_number 8 (drop at bytes)
