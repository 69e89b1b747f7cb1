use Rattle.std.specs.Prelude.{ℕ, ◌-◌, ◌&&◌, min, List, ◌++◌, length, take, nat_lt, nat_eq, if◌then◌else◌}
use Rattle.ray_io.specs.Faults.{next_count}

-- where a sink in memory stands: the bytes it took, how many it takes in all and a call at most, the numbers of the calls that fail, and how many calls were made, have failed, and took nothing of a piece that isn't empty (own)
pub record SinkState : Type 0 where
  pub taken : List ℕ
  pub room : ℕ
  pub piece : ℕ
  pub fails : List ℕ
  pub calls : ℕ
  pub faults : ℕ
  pub zero_writes : ℕ

-- how many bytes a write that doesn't fail takes: the least of the piece, the bytes offered, and the room that is left (own)
abbrev pub taken_count : SinkState → ℕ → ℕ
taken_count state offered = min state.piece (min offered (state.room - length state.taken))

-- a sink after a write that took so many of the bytes offered (own)
abbrev pub after_write : SinkState → ℕ → List ℕ → SinkState
after_write state count offered = record state {
  taken = state.taken ++ take count offered;
  calls = next_count state.calls;
  zero_writes = (if nat_eq count 0 && nat_lt 0 (length offered) then next_count state.zero_writes else state.zero_writes);
}

-- a sink after a write that failed (own)
abbrev pub after_failed_write : SinkState → SinkState
after_failed_write state = record state { calls = next_count state.calls; faults = next_count state.faults }
