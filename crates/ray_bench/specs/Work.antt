-- The names of the works.
use Rattle.std.specs.Prelude.{ℕ, List, codes}
use Rattle.ray_bench.specs.declared.work.Work.{Work}
use Rattle.ray_bench.specs.declared.work.Work.TheVariants.{Pairs, Hits, BoxSpans, BoxReaches}

-- the word that asks for a work (own)
abbrev pub name_of : Work → List ℕ
name_of Pairs = codes "pairs"
name_of Hits = codes "hits"
name_of BoxSpans = codes "box-spans"
name_of BoxReaches = codes "box-reaches"
