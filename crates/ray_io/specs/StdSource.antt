use Rattle.std.specs.Prelude.{ℕ}
use Rattle.ray_io.specs.declared.std_source.StdSource.{StdSource}

-- the reader of std that a source stands before (own)
abbrev pub reader_of : {T : Type 0} → StdSource T → T
reader_of source = source.reader

-- how many of a source's reads have failed (own)
abbrev pub faults_of : {T : Type 0} → StdSource T → ℕ
faults_of source = source.faults
