use Rattle.std.proofs.Common.{ℕ, suc, Option, subst}
use Rattle.std.specs.Prelude.{IfSome}
use Rattle.ray_wide.specs.Wides.{children_in}
use Rattle.ray_walk.specs.Aims.{IsAlone}
use Rattle.ray_walk.proofs.Descending.{later, leads-more, leads-on}
use Rattle.ray_walk.proofs.descent.descend_seen.Goals as goal

pub loop-seen-preserved : goal.loop-seen-preserved
loop-seen-preserved c =
    let t = c.args.trees.now in
    let limit = c.args._limit in
    let at = c.loop-seen.at in
    let met = c.loop-seen.seen.met in
    let below = c.in-Some.below in
    let way = c.loop-seen.invariant.down in
    let one = subst (λ (o : Option ℕ). IfSome o (IsAlone (children_in t.wide.now.nodes at) met)) c.in-Some.is c.loop-seen.invariant.alone in
    let after = later limit t c.requires.trees at met below way.node way.out one in
    let on = leads-on limit t c.requires.trees at met below way.node way.out one in
    record {
      down = record {
        node = after.1;
        levels = suc way.levels;
        leads = leads-more limit t way.levels c.args.w at below way.leads on;
        out = c.left_seen-seen-in-Some.ensures.out;
      };
      alone = c.left_seen-seen-in-Some.ensures.alone;
    }
