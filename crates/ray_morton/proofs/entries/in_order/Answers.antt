use Rattle.std.proofs.Common.{◌≤◌, length, sym, subst, arith}
use Rattle.std.specs.List.Sorted.{IsPermutation}
use Rattle.std.proofs.lemmas.List.Sorted.{IsPermutation-trans}
use Rattle.ray_morton.proofs.InOrder.{put_in_order, few_below}
use Rattle.ray_morton.proofs.entries.in_order.Goals as goal

pub presorted-sorted-requires-clause-few : goal.presorted-sorted-requires-clause-few
presorted-sorted-requires-clause-few g c κs within =
    let few = few_below c.args.items.now c.in_ok-entries.field-0.entries.items c.requires.few c.in_ok-entries.ensures.entries in
    subst (λ l. length l ≤ 1048576) (sym c.deref.ensures.value) (omega (arith, few, c.requires.few))

pub presorted-sorted-requires-clause-words : goal.presorted-sorted-requires-clause-words
presorted-sorted-requires-clause-words g c κs within =
    let room = c.in_ok-entries.field-0.room in
    let few = few_below c.args.items.now c.in_ok-entries.field-0.entries.items c.requires.few c.in_ok-entries.ensures.entries in
    subst (λ l. length l ≤ length room.words.items) (sym c.deref.ensures.value) (omega (arith, few, c.in_ok-entries.ensures.words))

pub presorted-sorted-requires-clause-sorted : goal.presorted-sorted-requires-clause-sorted
presorted-sorted-requires-clause-sorted g c κs within =
    let room = c.in_ok-entries.field-0.room in
    let few = few_below c.args.items.now c.in_ok-entries.field-0.entries.items c.requires.few c.in_ok-entries.ensures.entries in
    subst (λ l. length l ≤ length room.sorted.items) (sym c.deref.ensures.value) (omega (arith, few, c.in_ok-entries.ensures.sorted))

pub returns : goal.returns
returns g c =
    let unsorted = c.in_ok-entries.field-0.entries.items in
    let sorted = c.presorted-sorted.result.items in
    let settled = c.settle.new.entries.items in
    put_in_order c.args.items.now unsorted settled c.requires.few c.in_ok-entries.ensures.entries
    (IsPermutation-trans unsorted sorted settled (subst (λ l. IsPermutation l sorted) c.deref.ensures.value c.presorted-sorted.ensures) c.settle.ensures.same)
    c.settle.ensures.rises
