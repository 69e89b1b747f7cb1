use Rattle.std.proofs.Common.{◌≡◌, ◌≤◌}
use Rattle.ray_candidates.specs.Candidates.{joined}
use Rattle.ray_cert.specs.Checking.{strings_by}
use Rattle.ray_cert.specs.Parts.{placement_at}
use Rattle.ray_cert.proofs.making.make_cert.Given as goal

-- the strings of the instances so far
abbrev pub invariant-loop-number : goal.invariant-loop-number
invariant-loop-number g l = record {
  value : l.strings.items ≡ joined (λ n. strings_by l.limit l.ray (placement_at l.top.contents l.stated.bottoms.now l.mask n)) l.number;
  rising : l.initial.steps ≤ l.steps;
}
