use Rattle.std.proofs.Common.{◌≡◌, ◌∙◌, ◌-◌, ◌++◌, length, refl, sym, subst, arith}
use Rattle.std.specs.List.Sorted.{IsPermutation}
use Rattle.std.proofs.lemmas.List.Sorted.{length_permutation, IsPermutation-trans, IsPermutation-append_right, IsPermutation-append_left}
use Rattle.ray_stated.specs.declared.reach.Reach.{Reach}
use Rattle.ray_stated.specs.Reaches.{AreWithin}
use Rattle.ray_stated.proofs.Cuts.{AreLow, AreHigh, cut_behind, cut_within, within_above, within_below}
use Rattle.ray_stated.proofs.select.+select.Goals as goal

pub select-requires : goal.select-requires
select-requires t c =
    let reach = c.args.reach in
    let above : Reach = record { axis = reach.axis; lo = c.limit_of-limit.result; hi = reach.hi; first = reach.first; span = reach.span; far = reach.far } in
    let within = within_above reach above c.limit_of-limit.result c.move_front-cut.result c.args.entries.now c.move_front-cut.new.entries
    c.move_front-cut.ensures c.requires.within refl refl refl in (
      omega (arith, c.limit_of-limit.ensures.above, c.limit_of-limit.ensures.below),
      (
        c.requires.axis,
        (
          omega (arith, c.split_at_mut-front.ensures.back_len, c.move_front-cut.ensures.long, c.requires.many),
          subst (AreWithin above) (sym c.split_at_mut-front.ensures.back) within,
        ),
      ),
    )

pub select-requires-then-many-cut-2 : goal.select-requires-then-many-cut-2
select-requires-then-many-cut-2 t c =
    let reach = c.args.reach in
    let below : Reach = record { axis = reach.axis; lo = reach.lo; hi = c.limit_of-limit.result - 1; first = reach.first; span = reach.span; far = reach.far } in
    let within = within_below reach below c.limit_of-limit.result c.move_front-cut.result c.args.entries.now c.move_front-cut.new.entries
    c.move_front-cut.ensures c.requires.within refl refl refl in (
      omega (arith, c.limit_of-limit.ensures.above, c.limit_of-limit.ensures.below),
      (
        c.requires.axis,
        (
          omega (arith, c.split_at_mut-front.ensures.front_len),
          subst (AreWithin below) (sym c.split_at_mut-front.ensures.front) within,
        ),
      ),
    )

pub returns-then-many-cut-clause-same : goal.returns-then-many-cut-clause-same
returns-then-many-cut-clause-same t c =
    let front = c.split_at_mut-front.result.0.now in
    let back = c.split_at_mut-front.result.1.now in
    IsPermutation-trans c.args.entries.now c.move_front-cut.new.entries (front ++ c.select.new.entries) c.move_front-cut.ensures.same
    (subst (λ l. IsPermutation l (front ++ c.select.new.entries)) (sym c.split_at_mut-front.ensures.value)
    (IsPermutation-append_right front back c.select.new.entries c.select.ensures.same))

pub returns-then-many-cut-clause-apart : goal.returns-then-many-cut-clause-apart
returns-then-many-cut-clause-apart t c =
    let axis = c.args.reach.axis in
    let limit = c.limit_of-limit.result in
    let front = c.split_at_mut-front.result.0.now in
    let back = c.split_at_mut-front.result.1.now in
    cut_behind axis limit c.args.many c.move_front-cut.result front back c.select.new.entries c.split_at_mut-front.ensures.front_len (omega arith)
    (subst (AreLow axis limit) (sym c.split_at_mut-front.ensures.front) c.move_front-cut.ensures.front)
    (subst (AreHigh axis limit) (sym c.split_at_mut-front.ensures.back) c.move_front-cut.ensures.back) c.select.ensures.same c.select.ensures.apart

pub returns-then-many-cut-2-clause-same : goal.returns-then-many-cut-2-clause-same
returns-then-many-cut-2-clause-same t c =
    let front = c.split_at_mut-front.result.0.now in
    let back = c.split_at_mut-front.result.1.now in
    let front1 = c.select-then-many-cut-2.new.entries in
    IsPermutation-trans c.args.entries.now c.move_front-cut.new.entries (front1 ++ back) c.move_front-cut.ensures.same
    (subst (λ l. IsPermutation l (front1 ++ back)) (sym c.split_at_mut-front.ensures.value)
    (IsPermutation-append_left back front front1 c.select-then-many-cut-2.ensures.same))

pub returns-then-many-cut-2-clause-apart : goal.returns-then-many-cut-2-clause-apart
returns-then-many-cut-2-clause-apart t c =
    let axis = c.args.reach.axis in
    let limit = c.limit_of-limit.result in
    let front = c.split_at_mut-front.result.0.now in
    let back = c.split_at_mut-front.result.1.now in
    let front1 = c.select-then-many-cut-2.new.entries in
    let long : length front1 ≡ length front = length_permutation front front1 c.select-then-many-cut-2.ensures.same in
    cut_within axis limit c.args.many c.move_front-cut.result front front1 back (long ∙ c.split_at_mut-front.ensures.front_len) (omega arith)
    (subst (AreLow axis limit) (sym c.split_at_mut-front.ensures.front) c.move_front-cut.ensures.front)
    (subst (AreHigh axis limit) (sym c.split_at_mut-front.ensures.back) c.move_front-cut.ensures.back)
    c.select-then-many-cut-2.ensures.same c.select-then-many-cut-2.ensures.apart
