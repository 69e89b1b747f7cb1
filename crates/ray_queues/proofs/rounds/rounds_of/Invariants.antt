use Rattle.std.proofs.Common.{◌≡◌, ◌+◌, ℕ, length}
use Rattle.ray_queues.specs.Rounds.{round_at}
use Rattle.ray_queues.proofs.Above.{AreAbove, IsAbove}
use Rattle.ray_queues.proofs.Going.{IsGoing}
use Rattle.ray_queues.proofs.rounds.rounds_of.Given as goal

-- of the commands so far
abbrev pub invariant-loop-n : goal.invariant-loop-n
invariant-loop-n l = record {
  going : (left : ℕ) → l.n + left ≡ l.until → IsGoing l.rec l.until left l.n l.ahead (round_at l.rounds.items);
  best : IsAbove l.rec l.n (round_at l.rounds.items) l.best;
  bests : AreAbove l.rec l.n (round_at l.rounds.items) l.bests.items;
  many : length l.rounds.items ≡ l.n;
}
