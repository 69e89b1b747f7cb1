use Rattle.std.proofs.Common.{◌≡◌, ◌-◌, All, length}
use Rattle.ray_memory.specs.State.{memory_of}
use Rattle.ray_exec.specs.Drawn.{IsDrawn}
use Rattle.ray_exec.proofs.drawing.draw_all.Given as goal

abbrev pub invariant-loop-number : goal.invariant-loop-number
invariant-loop-number g l =
    (l.seat.table ≡ l.claims.table) × All (IsDrawn l.rec (g.F.Fetcher.clients l.fetcher l.rec) (memory_of l.state) l.pieces) l.outs.items

abbrev pub decreases-loop-number : goal.decreases-loop-number
decreases-loop-number g l = l.claims.n - length l.seat.drawn
