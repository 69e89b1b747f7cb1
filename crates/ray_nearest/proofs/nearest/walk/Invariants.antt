use Rattle.std.proofs.Common.{◌≡◌, sum_by}
use Rattle.ray_nearest.proofs.Pending.{weight}
use Rattle.ray_nearest.proofs.Underway.{IsUnderway}
use Rattle.ray_nearest.proofs.nearest.walk.Given as goal

abbrev pub invariant-loop-turn : goal.invariant-loop-turn
invariant-loop-turn g l = record {
  kept : l.scene ≡ l.fn.scene;
  underway :
      IsUnderway (g.S.Scene.IsNode l.fn.scene) (g.S.Scene.scene l.fn.scene) (g.C.Client.meaning l.client) l.ray l.fn.flags l.fn.steps l.turns l.query l.steps;
}

abbrev pub decreases-loop-turn : goal.decreases-loop-turn
decreases-loop-turn g l = sum_by (weight (g.S.Scene.scene l.fn.scene)) l.turns
