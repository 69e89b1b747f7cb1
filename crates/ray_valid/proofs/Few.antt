-- The number of a range that meets another is that of a range.
use Rattle.std.proofs.Common.{◌≡◌, ◌<◌, ◌≤◌, ℕ, List, Option, Some, None, length, arith, map, sym}
use Rattle.std.specs.List.{range_with_len}
use Rattle.std.specs.Prelude.{IfSome}
use Rattle.std.proofs.lemmas.List.Quantifiers.{position-Some}
use Rattle.std.proofs.lemmas.List.{length-map}
use Rattle.std.proofs.lemmas.List.FromFn.{length-range_with_len}
use Rattle.ray_cmd.specs.declared.region.Region.{Region}
use Rattle.ray_ranges.specs.First.{first_meeting, meets_before}
use Rattle.ray_ranges.specs.declared.range.Range.{Range}
use Rattle.ray_rules.specs.Conflicts.{target_of}

pub few_regions : (regions : List Region) (others : List Range) (o : Option ℕ) → length regions ≤ 67108864
    → o ≡ first_meeting (map target_of regions) others → IfSome o (λ k. k < 4294967296)
few_regions regions others None few e = tt
few_regions regions others (Some k) few e =
    let targets : List Range = map target_of regions in
    let found = position-Some (meets_before targets others) (range_with_len 0 (length targets)) k 0 (sym e) in
    let all : length (range_with_len 0 (length targets)) ≡ length targets = length-range_with_len 0 (length targets) in
    let same : length targets ≡ length regions = length-map regions target_of in
    let below = found.0 in
    omega arith
