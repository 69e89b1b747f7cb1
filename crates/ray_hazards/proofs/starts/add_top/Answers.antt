use Rattle.std.proofs.Common.{◌∙◌, sym, subst, List}
use Rattle.ray_access.specs.declared.touched.Touched.{Touched}
use Rattle.ray_hazards.specs.Checks.{AreStarted, AreStartedTops, HasStarts}
use Rattle.ray_hazards.proofs.Tracing.{started-more, started-wider}
use Rattle.ray_hazards.proofs.starts.add_top.Goals as goal

pub returns-then-contains-clause-started : goal.returns-then-contains-clause-started
returns-then-contains-clause-started c = λ tops. tops c.args.top (sym c.contains.ensures ∙ c.if-contains.true)

-- the reads of the top are put
has : (c : goal.After-drop-list-2)
    → HasStarts c.in_ok-list.list.items c.args.set.now.keys c.add_starts.new.set.keys
has c =
    subst (λ (ts : List Touched). HasStarts ts c.args.set.now.keys c.add_starts.new.set.keys) c.as_slice.ensures.value
    c.in_ok-add_starts.ensures

pub returns-clause-started : goal.returns-clause-started
returns-clause-started c = λ tops.
    subst (AreStarted c.add_starts.new.set.keys) c.in_ok-list.ensures.are (has c).added

pub returns-clause-tops : goal.returns-clause-tops
returns-clause-tops c = λ tops.
    let rec = c.args.rec.now in
    let z = c.args.status.now in
    subst (AreStartedTops rec z c.add_starts.new.set.keys) (sym c.in_ok-insert.ensures.keys)
    (started-more rec z c.add_starts.new.set.keys c.args.known.now.keys c.args.top
    (started-wider rec z c.args.set.now.keys c.add_starts.new.set.keys c.args.known.now.keys (has c).kept tops)
    (subst (AreStarted c.add_starts.new.set.keys) c.in_ok-list.ensures.are (has c).added))
