use Rattle.std.proofs.Common.{◌≡◌, ◌+◌, sym, subst, false, arith, rules}
use Rattle.std.specs.Prelude.{IsTrue}
use Rattle.ray_bench.specs.Spots.{AreMet}
use Rattle.ray_bench.proofs.Spots.{AreMet-some, AreMet-none}
use Rattle.ray_bench.proofs.testing.count_of_spots.Goals as goal
use Rattle.ray_bench.proofs.testing.count_of_spots.Goals.{then-is_met, else-is_met}

pub loop-k-preserved : goal.loop-k-preserved
loop-k-preserved c =
    elim c.if-is_met.branch [
      | then-is_met w ↦
          let told : IsTrue c.is_met.result = search rules in
          record {
            exact = subst (λ met. AreMet (c.loop-k.k + 1) met) (sym w.met-is)
                (AreMet-some c.args.spots.now c.loop-k.k c.loop-k.met c.index-spots-k.result c.requires
                c.index-spots-k.is (c.is_met.ensures.met told) c.loop-k.invariant.exact);
            below = omega arith;
          }
      | else-is_met w ↦
          let missed : c.is_met.result ≡ false = search rules in
          record {
            exact = subst (λ met. AreMet (c.loop-k.k + 1) met) (sym w.met-is)
                (AreMet-none c.args.spots.now c.loop-k.k c.loop-k.met c.index-spots-k.result c.requires
                c.index-spots-k.is (λ is. let told : IsTrue c.is_met.result = c.is_met.ensures.only is in cc) c.loop-k.invariant.exact);
            below = omega arith;
          }
    ]
