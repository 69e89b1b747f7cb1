use Rattle.std.specs.Prelude.{◌==◌}
use Rattle.ray_chains.specs.declared.stage.Stage.TheVariants.{Transfer}
use Rattle.ray_queues.specs.Sources.{number_at}
use Rattle.ray_queues.proofs.Counting.{own-stages}
use Rattle.ray_queues.proofs.marks.carried.Goals as goal

pub returns : goal.returns
returns c = λ q z.
    let n = c.args.n in
    let queue = c.args.queue in
    let at = c.at-numbers.ensures q queue n z in
    record {
      zero = own-stages (queue == 0) n (number_at q queue n Transfer 0) _ _ c.own_or.ensures at.zero;
      one = own-stages (queue == 1) n (number_at q queue n Transfer 1) _ _ c.own_or-2.ensures at.one;
      two = own-stages (queue == 2) n (number_at q queue n Transfer 2) _ _ c.own_or-3.ensures at.two;
      three = own-stages (queue == 3) n (number_at q queue n Transfer 3) _ _ c.own_or-4.ensures at.three;
    }
