use Rattle.std.proofs.Common.{◌≡◌, ap, sym, subst, ◌∙◌, List, map, ◌&&◌, not}
use Rattle.std.specs.Prelude.{Some, None}
use Rattle.std.specs.List.{find}
use Rattle.ray_ranges.specs.declared.range.Range.{Range}
use Rattle.ray_ranges.specs.Apart.{AreApart, begins_at, without, range_of}
use Rattle.ray_ranges.specs.Meeting.{covers, has}
use Rattle.ray_ranges.proofs.Queries.{find-get, ranges_of}
use Rattle.ray_ranges.proofs.Changed.{without-entries, without_apart, without_numbers}
use Rattle.ray_ranges.proofs.disjoint_ranges.DisjointRanges.remove.Goals as goal

pub returns-in_err-end-clause-removed : goal.returns-in_err-end-clause-removed
returns-in_err-end-clause-removed c =
    c.from_residual.ensures
    ∙ (sym (find-get c.self.inside.ends c.args.from None c.in_err-end.ensures.value)
    ∙ ap (find (begins_at c.args.from)) c.self.view_is)

pub returns-in_err-end-clause-left : goal.returns-in_err-end-clause-left
returns-in_err-end-clause-left c =
    ap (map range_of) c.in_err-end.ensures.entries
    ∙ (without-entries c.args.from 0 c.self.inside.ends.entries c.self.invariant
    ∙ ap (without c.args.from) c.self.view_is)

-- what is left, over the entries
left : (c : goal.In_ok-end) → ranges_of c.remove.new.self ≡ without c.args.from (ranges_of c.self.inside.ends)
left c =
    ap (map range_of) c.in_ok-end.ensures.entries
    ∙ without-entries c.args.from 0 c.self.inside.ends.entries c.self.invariant

-- the range that goes
gone : (c : goal.In_ok-end) → find (begins_at c.args.from) (ranges_of c.self.inside.ends) ≡ Some (range_of (c.args.from, c.in_ok-end.end))
gone c = find-get c.self.inside.ends c.args.from (Some c.in_ok-end.end) c.in_ok-end.ensures.value

pub invariant_of-self-2 : goal.invariant_of-self-2
invariant_of-self-2 c =
    subst (AreApart 0) (sym (left c)) (without_apart c.args.from 0 (ranges_of c.self.inside.ends) c.self.invariant)

pub returns-clause-removed : goal.returns-clause-removed
returns-clause-removed c = sym (gone c) ∙ ap (find (begins_at c.args.from)) c.self.view_is

pub returns-clause-left : goal.returns-clause-left
returns-clause-left c = left c ∙ ap (without c.args.from) c.self.view_is

pub returns-clause-numbers : goal.returns-clause-numbers
returns-clause-numbers c n =
    ap (λ (rs : List Range). covers rs n) (left c)
    ∙ (without_numbers c.args.from 0 (ranges_of c.self.inside.ends) (range_of (c.args.from, c.in_ok-end.end)) c.self.invariant (gone c) n
    ∙ ap (λ (rs : List Range). covers rs n && not (has n (range_of (c.args.from, c.in_ok-end.end)))) c.self.view_is)
