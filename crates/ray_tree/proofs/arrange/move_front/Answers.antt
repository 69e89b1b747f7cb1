use Rattle.std.proofs.Common.{arith, ◌∙◌}
use Rattle.std.proofs.lemmas.List.Sorted.{IsPermutation-trans}
use Rattle.ray_tree.proofs.arrange.move_front.Goals as goal

pub loop-i-preserved : goal.loop-i-preserved
loop-i-preserved c = (
  IsPermutation-trans c.args.entries.now c.loop-i.entries c.exchange.new.entries c.loop-i.invariant.0 c.exchange.ensures.same,
  c.exchange.ensures.long ∙ c.loop-i.invariant.1,
  omega (arith, c.loop-i.invariant.2, c.one_where-many.ensures),
)
