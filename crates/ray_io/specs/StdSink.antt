use Rattle.std.specs.Prelude.{ℕ}
use Rattle.ray_io.specs.declared.std_sink.StdSink.{StdSink}

-- the writer of std that a sink stands before (own)
abbrev pub writer_of : {T : Type 0} → StdSink T → T
writer_of sink = sink.writer

-- how many of a sink's writes have failed (own)
abbrev pub faults_of : {T : Type 0} → StdSink T → ℕ
faults_of sink = sink.faults

-- how many of a sink's writes took no byte of a piece that isn't empty (own)
abbrev pub zero_writes_of : {T : Type 0} → StdSink T → ℕ
zero_writes_of sink = sink.zero_writes
