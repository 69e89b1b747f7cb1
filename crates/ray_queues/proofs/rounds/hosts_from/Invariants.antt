use Rattle.std.proofs.Common.{◌≡◌, ◌≤◌, ◌+◌, ℕ}
use Rattle.ray_queues.specs.Rounds.{hosts_from}
use Rattle.ray_queues.proofs.rounds.hosts_from.Given as goal

-- of the commands so far
abbrev pub invariant-loop-n : goal.invariant-loop-n
invariant-loop-n l = record {
  count : (left all : ℕ) → l.n + left ≡ l.until → l.from + all ≡ l.until
      → l.hosts + hosts_from l.rec left l.n ≡ hosts_from l.rec all l.from;
  low : l.hosts + l.from ≤ l.n;
}
