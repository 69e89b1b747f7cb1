use Rattle.std.proofs.Common.{◌≡◌, ◌/◌, length, arith}
use Rattle.ray_bench.proofs.Turns.{hits_in_turns-more, hits_in_turns-below, hits_of_rays-last}
use Rattle.ray_bench.proofs.testing.count_of_rays.Goals as goal

pub loop-turn-preserved : goal.loop-turn-preserved
loop-turn-preserved c = record {
  exact =
      hits_in_turns-more c.args.rays.now c.args.tris.now c.loop-turn.turn c.index-rays-turn.result
      c.loop-turn.hits c.hits_among-hits.result
      c.requires.has_rays c.index-rays-turn.is c.loop-turn.invariant.exact c.hits_among-hits.ensures;
  below =
      hits_in_turns-below c.index-rays-turn.result c.args.tris.now c.loop-turn.turn
      c.loop-turn.hits c.hits_among-hits.result
      c.loop-turn.invariant.below c.hits_among-hits.ensures;
}

pub returns : goal.returns
returns c =
    let last : c.loop-turn.turn ≡ c.args.number / length c.args.tris.now = omega arith in
    hits_of_rays-last c.args.rays.now c.args.tris.now c.args.number c.loop-turn.turn c.index-rays-turns.result
    c.loop-turn.hits c.hits_among.result
    c.requires.has_rays last c.index-rays-turns.is c.loop-turn.invariant.exact c.hits_among.ensures
