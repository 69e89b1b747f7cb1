use Rattle.std.proofs.Common.{◌+◌, ◌/◌, length, sym, subst, refl, arith}
use Rattle.std.specs.List.{All}
use Rattle.std.proofs.lemmas.List.Elements.{All-take, All-drop}
use Rattle.std.proofs.lemmas.List.Sorted.{All-permutation, length_permutation}
use Rattle.ray_stated.specs.Entries.{IsSmall, IsCut}
use Rattle.ray_stated.proofs.Arranging.{arranged_sorted, arranged_both}
use Rattle.ray_stated.proofs.Even.{arranged_flat}
use Rattle.ray_stated.proofs.arrange.+arrange.Goals as goal

pub returns-then-entries-le-MOST : goal.returns-then-entries-le-MOST
returns-then-entries-le-MOST t c = arranged_sorted c.args.entries.now c.sort.new.entries (omega arith) c.sort.ensures.same c.sort.ensures.rising

pub returns-then-reach-eq0 : goal.returns-then-reach-eq0
returns-then-reach-eq0 t c =
    arranged_flat c.args.entries.now c.sort-then-reach-eq0.new.entries c.reach_of-reach.result.far c.reach_of-reach.ensures.far (omega arith) c.requires
    c.sort-then-reach-eq0.ensures.same c.sort-then-reach-eq0.ensures.rising

pub arrange-requires : goal.arrange-requires
arrange-requires t c =
    let old = c.args.entries.now in
    let whole = c.cut.new.entries in
    let small = All-permutation IsSmall old whole c.cut.ensures.same c.requires in (
      omega (arith, c.split_at_mut-left.ensures.front_len),
      subst (All IsSmall) (sym c.split_at_mut-left.ensures.front) (All-take IsSmall ((length old + 1) / 2) whole small),
    )

pub arrange-requires-2 : goal.arrange-requires-2
arrange-requires-2 t c =
    let old = c.args.entries.now in
    let whole = c.cut.new.entries in
    let small = All-permutation IsSmall old whole c.cut.ensures.same c.requires in (
      omega (arith, c.split_at_mut-left.ensures.back_len, length_permutation old whole c.cut.ensures.same),
      subst (All IsSmall) (sym c.split_at_mut-left.ensures.back) (All-drop IsSmall ((length old + 1) / 2) whole small),
    )

pub returns : goal.returns
returns t c =
    let old = c.args.entries.now in
    arranged_both old c.cut.new.entries c.split_at_mut-left.result.0.now c.split_at_mut-left.result.1.now c.arrange.new.entries c.arrange-2.new.entries
    ((length old + 1) / 2)
    (record {
      large = omega arith;
      half_is = refl;
      small = c.requires;
      moved = c.cut.ensures.same;
      cut = subst (λ a. IsCut a ((length old + 1) / 2) c.cut.new.entries) c.reach_of-reach.ensures.axis c.cut.ensures.apart;
      left_is = c.split_at_mut-left.ensures.front;
      right_is = c.split_at_mut-left.ensures.back;
    }) c.arrange.ensures c.arrange-2.ensures
