use Rattle.std.proofs.Common.{◌++◌, sym, subst}
use Rattle.std.specs.List.Sorted.{IsPermutation}
use Rattle.std.proofs.lemmas.List.Sorted.{IsPermutation-trans, IsPermutation-append_right, IsPermutation-append_left}
use Rattle.ray_tree.proofs.arrange.+select.Goals as goal

pub returns-then-many-cut : goal.returns-then-many-cut
returns-then-many-cut t c =
    let front = c.split_at_mut-front.result.0.now in
    let back = c.split_at_mut-front.result.1.now in
    IsPermutation-trans c.args.entries.now c.move_front-cut.new.entries (front ++ c.select.new.entries) c.move_front-cut.ensures.same
    (subst (λ l. IsPermutation l (front ++ c.select.new.entries)) (sym c.split_at_mut-front.ensures.value)
    (IsPermutation-append_right front back c.select.new.entries c.select.ensures))

pub returns-then-many-cut-2 : goal.returns-then-many-cut-2
returns-then-many-cut-2 t c =
    let front = c.split_at_mut-front.result.0.now in
    let back = c.split_at_mut-front.result.1.now in
    IsPermutation-trans c.args.entries.now c.move_front-cut.new.entries (c.select-then-many-cut-2.new.entries ++ back) c.move_front-cut.ensures.same
    (subst (λ l. IsPermutation l (c.select-then-many-cut-2.new.entries ++ back)) (sym c.split_at_mut-front.ensures.value)
    (IsPermutation-append_left back front c.select-then-many-cut-2.new.entries c.select-then-many-cut-2.ensures))
