-- With which number the program ends.
use Rattle.std.specs.Prelude.{ℕ}
use Rattle.ray_bench.specs.declared.bench_error.BenchError.{BenchError}
use Rattle.ray_bench.specs.declared.bench_error.BenchError.TheVariants.{BadWords, Io, NoMemory}

-- the status of each error (own)
abbrev pub status_of : BenchError → ℕ
status_of BadWords = 3
status_of (Io error) = 5
status_of NoMemory = 7
