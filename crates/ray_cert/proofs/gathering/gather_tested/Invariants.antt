use Rattle.std.proofs.Common.{◌≡◌, ◌+◌, ◌*◌, ◌-◌, ◌≤◌, [], drop, length}
use Rattle.ray_cert.specs.Certificates.{digits_in}
use Rattle.ray_cert.specs.Checking.{gathered_from}
use Rattle.ray_cert.specs.Parts.{parts_from, parts_of_ray}
use Rattle.ray_cert.proofs.gathering.gather_tested.Given as goal

-- what is left, behind what was found, gives what all gives
abbrev pub invariant-loop-number : goal.invariant-loop-number
invariant-loop-number g l = record {
  value : gathered_from l.told.limit.now l.found.items
      (parts_from l.top.contents l.stated.bottoms.now l.told.ray.now l.told.flags l.told.mask l.number (length l.top.contents.instances - l.number)) (drop l.taken l.told.strings.now)
      ≡ gathered_from l.told.limit.now [] (parts_of_ray l.top.contents l.stated.bottoms.now l.told.ray.now l.told.flags l.told.mask) l.told.strings.now;
  cost : l.steps + 5 * digits_in (drop l.taken l.told.strings.now) ≤ l.initial.steps + 5 * digits_in l.told.strings.now;
  rising : l.initial.steps ≤ l.steps;
}
