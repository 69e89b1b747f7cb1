use Rattle.std.proofs.Common.{◌≡◌, ◌≤◌, ◌+◌, ◌^◌, take, map}
use Rattle.std.specs.List.{All}
use Rattle.ray_ranges.specs.Addresses.{addresses_of}
use Rattle.ray_ranges.proofs.overlapping.each_addresses.Given as goal

abbrev pub invariant-loop-place : goal.invariant-loop-place
invariant-loop-place l = record {
  value : l.ranges.items ≡ map addresses_of (take l.place-index l.places);
  fit : All (λ place. place.from + place.size ≤ 2 ^ 66) (take l.place-index l.places);
}
