-- Numbers of ways of writing, by a function.
use Rattle.std.proofs.Common.{◌≡◌, ℕ, max}
use Rattle.ray_chains.specs.declared.access_type.AccessType.{AccessType}
use Rattle.ray_chains.specs.declared.access_type.AccessType.TheVariants.{TransferWrite, StructureWrite, ShaderWrite}
use Rattle.ray_chains.specs.declared.stage.Stage.{Stage}
use Rattle.ray_chains.specs.declared.stage.Stage.TheVariants.{Transfer, Build, StructureCopy, Compute}
use Rattle.ray_hazards.specs.declared.limits.PerWay.{PerWay}
use Rattle.ray_hazards.specs.Carrying.{AreWays}
use Rattle.ray_queue_check.specs.declared.per_source.PerSource.{PerSource}
use Rattle.ray_queue_check.specs.Numbers.{AreSources, all_ways, greater_sources, greater_ways}

-- one number for each
pub ways-all :
    (number : Stage → AccessType → ℕ) (k : ℕ) → ((stage : Stage) (access : AccessType) → number stage access ≡ k)
    → AreWays number (all_ways k)
ways-all number k is = record {
  transfers = is Transfer TransferWrite;
  builds = is Build StructureWrite;
  properties = is Build TransferWrite;
  copies = is StructureCopy StructureWrite;
  serialized = is StructureCopy TransferWrite;
  traces = is Compute ShaderWrite;
}

-- the greater of two
ways-greater :
    (one other : Stage → AccessType → ℕ) (a b : PerWay) → AreWays one a → AreWays other b
    → AreWays (λ stage access. max (one stage access) (other stage access)) (greater_ways a b)
ways-greater one other a b is are = record {
  transfers = λ i. max (is.transfers i) (are.transfers i);
  builds = λ i. max (is.builds i) (are.builds i);
  properties = λ i. max (is.properties i) (are.properties i);
  copies = λ i. max (is.copies i) (are.copies i);
  serialized = λ i. max (is.serialized i) (are.serialized i);
  traces = λ i. max (is.traces i) (are.traces i);
}

pub sources-greater :
    (one other : ℕ → Stage → AccessType → ℕ) (a b : PerSource) → AreSources one a → AreSources other b
    → AreSources (λ from stage access. max (one from stage access) (other from stage access)) (greater_sources a b)
sources-greater one other a b is are = record {
  zero = ways-greater (one 0) (other 0) a.zero b.zero is.zero are.zero;
  one = ways-greater (one 1) (other 1) a.one b.one is.one are.one;
  two = ways-greater (one 2) (other 2) a.two b.two is.two are.two;
  three = ways-greater (one 3) (other 3) a.three b.three is.three are.three;
}
