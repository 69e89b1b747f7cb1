use Rattle.std.proofs.Common.{ap, sym, ◌∙◌}
use Rattle.std.specs.Option.{option_map}
use Rattle.ray_cmd.specs.declared.place.Place.TheVariants.{Part}
use Rattle.ray_submits.proofs.Odds.{passed-more, passed-odd}
use Rattle.ray_submits.proofs.semaphores.Semaphores.odd.Goals as goal

pub returns-then-is_odd-clause-place : goal.returns-then-is_odd-clause-place
returns-then-is_odd-clause-place c = λ earlier are.
    ap (option_map (λ x. Part x))
    (sym (passed-odd c.args.queue c.args.signals.now c.loop-k.k _ earlier c.args.self.now _
    c.loop-k-test.true c.loop-k.invariant (sym c.is_odd.ensures ∙ c.if-is_odd.true) are))

pub loop-k-preserved : goal.loop-k-preserved
loop-k-preserved c = λ earlier are.
    passed-more c.args.queue c.args.signals.now c.loop-k.k _ c.args.self.now _ _
    c.loop-k-test.true c.loop-k.invariant (sym c.is_odd.ensures ∙ c.if-is_odd.false) c.in_ok-add.ensures earlier are
