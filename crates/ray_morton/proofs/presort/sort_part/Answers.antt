use Rattle.std.proofs.Common.{◌++◌, sym, subst}
use Rattle.std.specs.List.Sorted.{IsPermutation}
use Rattle.std.proofs.lemmas.List.Sorted.{IsPermutation-append_right, IsPermutation-append_left}
use Rattle.ray_morton.proofs.presort.sort_part.Goals as goal

pub returns-clause-same : goal.returns-clause-same
returns-clause-same c =
    let before = c.split_at_mut-before.result.0.now in
    let rest = c.split_at_mut-before.result.1.now in
    let part = c.split_at_mut-part.result.0.now in
    let after = c.split_at_mut-part.result.1.now in
    let sorted = c.sort_unstable.new.self in
    subst (λ l. IsPermutation l (before ++ (sorted ++ after))) (sym c.split_at_mut-before.ensures.value)
    (IsPermutation-append_right before rest (sorted ++ after)
    (subst (λ l. IsPermutation l (sorted ++ after)) (sym c.split_at_mut-part.ensures.value)
    (IsPermutation-append_left after part sorted c.sort_unstable.ensures.permutation)))
