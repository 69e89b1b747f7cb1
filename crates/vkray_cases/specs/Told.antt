-- What the program answers, and whether that is what a case wants. (Own.)
use Rattle.std.specs.Prelude.{◌≡◌, ℕ, List, [], Some, String}
use Rattle.std.specs.declared.alloc.Global.{Global}
use Rattle.ray_io.specs.MemSink.{SinkState}
use Rattle.ray_io.specs.MemSource.{SourceState}
use Rattle.vkray.specs.Call.{Answers, reading, writing}
use Rattle.vkray.specs.Codes.{code_of}
use Rattle.vkray_cases.specs.declared.asking.Told.{Told}
use Rattle.vkray_cases.specs.declared.wanted.Wanted.{Wanted}

-- a source in memory of these bytes, that never fails
abbrev pub source_of : List ℕ → SourceState
source_of bytes = record { left = bytes; piece = 65536; fails = []; calls = 0; faults = 0 }

-- a sink in memory that took nothing yet and never fails, with room for 2^20 bytes
abbrev pub empty_sink : SinkState
empty_sink = record { taken = []; room = 1048576; piece = 65536; fails = []; calls = 0; faults = 0; zero_writes = 0 }

-- what was told is an answer of the program to these words and this input, over such a source and sink
pub record IsToldOf (words : List (String Global)) (input : List ℕ) (told : Told) : Type 0 where
  pub source : SourceState
  pub sink : SinkState
  pub answer : Answers words
      (reading (λ (s : SourceState). Some s.left) (λ (s : SourceState). s.faults) (source_of input) source)
      (writing (λ (s : SinkState). Some s.taken) (λ (s : SinkState). s.faults) (λ (s : SinkState). s.zero_writes) empty_sink sink)
      told.status
  pub text : told.text.items ≡ sink.taken

-- the answer is the one that is wanted
pub record IsMet (wanted : Wanted) (told : Told) : Type 0 where
  pub status : code_of told.status ≡ wanted.status
  pub text : told.text.items ≡ wanted.text
