use Rattle.std.proofs.Common.{◌++◌, sym, subst}
use Rattle.std.specs.List.Sorted.{IsPermutation}
use Rattle.std.proofs.lemmas.List.Sorted.{IsPermutation-trans, IsPermutation-append}
use Rattle.ray_tree.proofs.arrange.+arrange.Goals as goal

pub returns : goal.returns
returns t c =
    let left = c.split_at_mut-left.result.0.now in
    let right = c.split_at_mut-left.result.1.now in
    let whole = c.select.new.entries in
    IsPermutation-trans c.args.entries.now whole (c.arrange.new.entries ++ c.arrange-2.new.entries) c.select.ensures
    (subst (λ l. IsPermutation l (c.arrange.new.entries ++ c.arrange-2.new.entries)) (sym c.split_at_mut-left.ensures.value)
    (IsPermutation-append left c.arrange.new.entries right c.arrange-2.new.entries c.arrange.ensures c.arrange-2.ensures))
