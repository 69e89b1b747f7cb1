-- Numbers for each way of writing of each queue. (Own.)
use Rattle.std.specs.Prelude.{ℕ, max}
use Rattle.ray_chains.specs.declared.access_type.AccessType.{AccessType}
use Rattle.ray_chains.specs.declared.stage.Stage.{Stage}
use Rattle.ray_hazards.specs.declared.limits.PerWay.{PerWay}
use Rattle.ray_hazards.specs.Carrying.{AreWays}
use Rattle.ray_queue_check.specs.declared.per_source.PerSource.{PerSource}

-- one number for each way
abbrev pub all_ways : ℕ → PerWay
all_ways number = record {
  transfers = number;
  builds = number;
  properties = number;
  copies = number;
  serialized = number;
  traces = number;
}

-- for each the greater of two
abbrev pub greater_ways : PerWay → PerWay → PerWay
greater_ways a b = record {
  transfers = max a.transfers b.transfers;
  builds = max a.builds b.builds;
  properties = max a.properties b.properties;
  copies = max a.copies b.copies;
  serialized = max a.serialized b.serialized;
  traces = max a.traces b.traces;
}

abbrev pub greater_sources : PerSource → PerSource → PerSource
greater_sources a b = record {
  zero = greater_ways a.zero b.zero;
  one = greater_ways a.one b.one;
  two = greater_ways a.two b.two;
  three = greater_ways a.three b.three;
}

-- these are the numbers of each queue and way of writing
pub record AreSources (number : ℕ → Stage → AccessType → ℕ) (limits : PerSource) : Type 0 where
  pub zero : AreWays (number 0) limits.zero
  pub one : AreWays (number 1) limits.one
  pub two : AreWays (number 2) limits.two
  pub three : AreWays (number 3) limits.three
