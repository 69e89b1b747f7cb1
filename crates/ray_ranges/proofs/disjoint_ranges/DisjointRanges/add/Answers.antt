use Rattle.std.proofs.Common.{arith, ◌≡◌, false, List, ◌∷◌, subst, sym, map}
use Rattle.ray_ranges.specs.declared.range.Range.{Range}
use Rattle.ray_ranges.specs.Meeting.{meets_any}
use Rattle.ray_ranges.specs.Apart.{AreApart, HaveTheSame, range_of}
use Rattle.ray_ranges.proofs.Changed.{with_range_apart, with_range_same}
use Rattle.ray_ranges.proofs.disjoint_ranges.DisjointRanges.add.Goals as goal

-- the range meets none of the entries
free : (c : goal.In_ok-insert) → meets_any (map range_of c.self.inside.ends.entries) c.args.range ≡ false
free c = subst (λ (rs : List Range). meets_any rs c.args.range ≡ false) (sym c.self.view_is) c.requires.free

pub invariant_of-self-2 : goal.invariant_of-self-2
invariant_of-self-2 c =
    subst (λ es. AreApart 0 (map range_of es)) (sym c.in_ok-insert.ensures.entries)
    (with_range_apart 0 c.self.inside.ends.entries c.args.range c.self.invariant (omega arith) c.requires.some (free c))

pub returns-clause-ranges : goal.returns-clause-ranges
returns-clause-ranges c =
    subst (λ (rs : List Range). HaveTheSame (map range_of c.insert.new.self.entries) (c.args.range ∷ rs)) c.self.view_is
    (subst (λ es. HaveTheSame (map range_of es) (c.args.range ∷ map range_of c.self.inside.ends.entries)) (sym c.in_ok-insert.ensures.entries)
    (with_range_same 0 c.self.inside.ends.entries c.args.range c.self.invariant c.requires.some (free c)))
