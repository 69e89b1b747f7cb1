use Rattle.std.proofs.Common.{◌≡◌, ◌+◌, ◌++◌, take}
use Rattle.std.specs.List.{flat_map}
use Rattle.ray_candidates.specs.Placements.{found_by_item}
use Rattle.ray_cert.specs.Checking.{placement_value}
use Rattle.ray_cert.proofs.finding.find_items.Given as goal

-- the items so far
abbrev pub invariant-loop-item : goal.invariant-loop-item
invariant-loop-item g l = record {
  value : l.found.items ≡ l.initial.found.items ++ flat_map (found_by_item l.ray l.flags l.number (placement_value l.instance l.bottom)) (take l.item-index l.items);
  cost : l.steps ≡ l.initial.steps + l.item-index;
}
