-- What the program's clause says over a source and a sink in memory.
use Rattle.std.proofs.Common.{◌≡◌, ℕ, List, Some, String, subst}
use Rattle.std.specs.declared.alloc.Global.{Global}
use Rattle.ray_io.specs.MemSink.{SinkState}
use Rattle.ray_io.specs.MemSource.{SourceState}
use Rattle.vkray.specs.Call.{Answers, Reading, Writing, reading, writing}
use Rattle.vkray_cases.specs.declared.asking.Told.{Told}
use Rattle.vkray_cases.specs.Told.{IsToldOf, source_of, empty_sink}

-- what the clause sees of a source before and after
abbrev pub read_by : SourceState → SourceState → Reading
read_by old new = reading (λ (s : SourceState). Some s.left) (λ (s : SourceState). s.faults) old new

-- and of a sink
abbrev pub written_by : SinkState → SinkState → Writing
written_by old new = writing (λ (s : SinkState). Some s.taken) (λ (s : SinkState). s.faults) (λ (s : SinkState). s.zero_writes) old new

pub told_by : (words : List (String Global)) (input : List ℕ) (told : Told) (s s' : SourceState) (k k' : SinkState)
    → s ≡ source_of input → k ≡ empty_sink → Answers words (read_by s s') (written_by k k') told.status
    → told.text.items ≡ k'.taken → IsToldOf words input told
told_by words input told s s' k k' is_source is_sink answer text = record {
  source = s';
  sink = k';
  answer =
      let P : SourceState → Type 0 = λ x. Answers words (read_by x s') (written_by k k') told.status in
      let Q : SinkState → Type 0 = λ x. Answers words (read_by (source_of input) s') (written_by x k') told.status in
      subst Q is_sink (subst P is_source answer);
  text = text;
}
