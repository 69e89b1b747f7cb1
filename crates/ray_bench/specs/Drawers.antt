-- The words for how many threads draw.
use Rattle.std.specs.Prelude.{ℕ, List, codes}
use Rattle.ray_bench.specs.declared.drawing.Drawers.{Drawers}
use Rattle.ray_bench.specs.declared.drawing.Drawers.TheVariants.{One, Four}

-- the digit that asks for so many threads (own)
abbrev pub digit_of : Drawers → List ℕ
digit_of One = codes "1"
digit_of Four = codes "4"
