use Rattle.std.proofs.Common.{◌++◌, ◌==◌, ◌∙◌, ap, sym, ℕ, List}
use Rattle.std.specs.List.{list_any}
use Rattle.std.proofs.lemmas.List.{append-nil}
use Rattle.std.proofs.lemmas.List.Sorted.{IsNonDecreasingBy-from_sort, list_any-IsPermutation}
use Rattle.ray_hazards.proofs.cells.Cells.of.Goals as goal

pub invariant_of-result : goal.invariant_of-result
invariant_of-result c = IsNonDecreasingBy-from_sort (λ s. s) c.sort_unstable.new.self.items c.sort_unstable.ensures.sorted

pub returns : goal.returns
returns c = λ p.
    let done = c.in-None.ensures.steps.0 in
    let all =
    sym (append-nil c.loop-start.starts.items)
    ∙ (ap (λ (xs : List ℕ). c.loop-start.starts.items ++ xs) (sym done) ∙ c.loop-start.invariant)
    in
    sym (list_any-IsPermutation (λ s. s == p) c.loop-start.starts.items c.sort_unstable.new.self.items c.sort_unstable.ensures.permutation)
    ∙ ap (list_any (λ s. s == p)) all
