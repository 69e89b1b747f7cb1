use Rattle.std.proofs.Common.{◌≡◌, [], drop, take}
use Rattle.ray_rules.specs.Conflicts.{first_conflict}
use Rattle.ray_valid.specs.Parts.{HasSeen}
use Rattle.ray_valid.proofs.conflicts.first_conflict.Given as goal

-- those so far conflict with none before them, and are seen
abbrev pub invariant-loop-k : goal.invariant-loop-k
invariant-loop-k l = record {
  rest : first_conflict (take l.k l.infos) l.k (drop l.k l.infos) ≡ first_conflict [] 0 l.infos;
  seen : HasSeen (take l.k l.infos) l.seen.written.keys l.seen.read.keys l.seen.scratch;
}
