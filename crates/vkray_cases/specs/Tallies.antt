-- What a tally counts. (Own.)
use Rattle.std.specs.Prelude.{ℕ, ◌+◌, ◌-◌, ◌^◌, ◌==◌, min, Bool, not, List, count_by}
use Rattle.vkray_cases.specs.declared.judging.Judged.{Judged}
use Rattle.vkray_cases.specs.declared.tally.Tally.{Tally}

-- how many answers are not those that are wanted
abbrev pub differing_in : List Judged → ℕ
differing_in judged = count_by (λ (j : Judged). not j.is_met) judged

-- the sum, or the greatest number of 64 bits
abbrev pub sum_of : ℕ → ℕ → ℕ
sum_of a b = min (a + b) (2 ^ 64 - 1)

-- both tallies together
abbrev pub together : Tally → Tally → Tally
together a b = record {
  cases = sum_of a.cases b.cases;
  answers = sum_of a.answers b.answers;
  differing = sum_of a.differing b.differing;
}

-- whether nothing differs
abbrev pub is_clean : Tally → Bool
is_clean tally = tally.differing == 0
