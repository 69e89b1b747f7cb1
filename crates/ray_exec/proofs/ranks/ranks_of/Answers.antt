use Rattle.std.proofs.Common.{subst, sym, ℕ}
use Rattle.std.specs.List.Sorted.{IsNonDecreasingBy}
use Rattle.std.proofs.lemmas.List.Sorted.{IsNonDecreasingBy-from_sort}
use Rattle.ray_exec.proofs.ranks.ranks_of.Goals as goal

pub rank_in-requires-clause-sorted : goal.rank_in-requires-clause-sorted
rank_in-requires-clause-sorted c =
    subst (IsNonDecreasingBy (λ (s : ℕ). s)) (sym c.as_slice.ensures.value)
    (IsNonDecreasingBy-from_sort (λ s. s) c.sort_unstable.new.self.items c.sort_unstable.ensures.sorted)
