use Rattle.std.specs.Prelude.{ℕ, min, List, length, drop}
use Rattle.ray_io.specs.Faults.{next_count}

-- where a source in memory stands: the bytes it has left, how many it gives a call at most, the numbers of the calls that fail, and how many calls were made and have failed (own)
pub record SourceState : Type 0 where
  pub left : List ℕ
  pub piece : ℕ
  pub fails : List ℕ
  pub calls : ℕ
  pub faults : ℕ

-- how many bytes a read that doesn't fail gives: the least of the piece, the room for them, and the bytes left (own)
abbrev pub given_count : SourceState → ℕ → ℕ
given_count state room = min state.piece (min room (length state.left))

-- a source after a read that gave so many bytes (own)
abbrev pub after_read : SourceState → ℕ → SourceState
after_read state count = record state { left = drop count state.left; calls = next_count state.calls }

-- a source after a read that failed (own)
abbrev pub after_failed_read : SourceState → SourceState
after_failed_read state = record state { calls = next_count state.calls; faults = next_count state.faults }
