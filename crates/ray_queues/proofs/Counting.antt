-- Numbers of each stage of each queue, by a function.
use Rattle.std.proofs.Common.{◌≡◌, ◌∙◌, ℕ, Bool, true, false, sym, ap}
use Rattle.std.specs.Prelude.{max, if◌then◌else◌}
use Rattle.ray_chains.specs.declared.stage.Stage.{Stage}
use Rattle.ray_chains.specs.declared.stage.Stage.TheVariants.{Transfer, Build, StructureCopy, Compute}
use Rattle.ray_queues.specs.declared.per_queue.PerQueue.{PerQueue}
use Rattle.ray_queues.specs.declared.per_queue.PerStage.{PerStage}
use Rattle.ray_queues.specs.Numbers.{all_queues, all_stages, greater_queues, greater_stages}
use Rattle.ray_queues.specs.Sources.{ArePerQueue, ArePerStage}

-- one number
all-stages : (number : Stage → ℕ) (k : ℕ) → ((stage : Stage) → number stage ≡ k) → ArePerStage number (all_stages k)
all-stages number k is = record {
  transfer = is Transfer;
  build = is Build;
  structure_copy = is StructureCopy;
  compute = is Compute;
}

pub all-queues : (number : ℕ → Stage → ℕ) (k : ℕ) → ((from : ℕ) (stage : Stage) → number from stage ≡ k)
    → ArePerQueue number (all_queues k)
all-queues number k is = record {
  zero = all-stages (number 0) k (is 0);
  one = all-stages (number 1) k (is 1);
  two = all-stages (number 2) k (is 2);
  three = all-stages (number 3) k (is 3);
}

-- the same as another function
same-stages : (number other : Stage → ℕ) (numbers : PerStage) → ((stage : Stage) → number stage ≡ other stage)
    → ArePerStage other numbers → ArePerStage number numbers
same-stages number other numbers same is = record {
  transfer = same Transfer ∙ is.transfer;
  build = same Build ∙ is.build;
  structure_copy = same StructureCopy ∙ is.structure_copy;
  compute = same Compute ∙ is.compute;
}

pub same-queues : (number other : ℕ → Stage → ℕ) (numbers : PerQueue)
    → ((from : ℕ) (stage : Stage) → number from stage ≡ other from stage)
    → ArePerQueue other numbers → ArePerQueue number numbers
same-queues number other numbers same is = record {
  zero = same-stages (number 0) (other 0) numbers.zero (same 0) is.zero;
  one = same-stages (number 1) (other 1) numbers.one (same 1) is.one;
  two = same-stages (number 2) (other 2) numbers.two (same 2) is.two;
  three = same-stages (number 3) (other 3) numbers.three (same 3) is.three;
}

-- the greater of two
greater-stages : (one other : Stage → ℕ) (a b : PerStage) → ArePerStage one a → ArePerStage other b
    → ArePerStage (λ stage. max (one stage) (other stage)) (greater_stages a b)
greater-stages one other a b is are = record {
  transfer = λ i. max (is.transfer i) (are.transfer i);
  build = λ i. max (is.build i) (are.build i);
  structure_copy = λ i. max (is.structure_copy i) (are.structure_copy i);
  compute = λ i. max (is.compute i) (are.compute i);
}

pub greater-queues : (one other : ℕ → Stage → ℕ) (a b : PerQueue) → ArePerQueue one a → ArePerQueue other b
    → ArePerQueue (λ from stage. max (one from stage) (other from stage)) (greater_queues a b)
greater-queues one other a b is are = record {
  zero = greater-stages (one 0) (other 0) a.zero b.zero is.zero are.zero;
  one = greater-stages (one 1) (other 1) a.one b.one is.one are.one;
  two = greater-stages (one 2) (other 2) a.two b.two is.two are.two;
  three = greater-stages (one 3) (other 3) a.three b.three is.three are.three;
}

-- one number, or those of another function
pub own-stages : (b : Bool) (n : ℕ) (other : Stage → ℕ) (numbers chosen : PerStage) → chosen ≡ (if b then all_stages n else numbers)
    → ArePerStage other numbers → ArePerStage (λ stage. if b then n else other stage) chosen
own-stages true n other numbers chosen e is = record {
  transfer = ap (λ (c : PerStage). c.transfer) (sym e);
  build = ap (λ (c : PerStage). c.build) (sym e);
  structure_copy = ap (λ (c : PerStage). c.structure_copy) (sym e);
  compute = ap (λ (c : PerStage). c.compute) (sym e);
}
own-stages false n other numbers chosen e is = record {
  transfer = is.transfer ∙ ap (λ (c : PerStage). c.transfer) (sym e);
  build = is.build ∙ ap (λ (c : PerStage). c.build) (sym e);
  structure_copy = is.structure_copy ∙ ap (λ (c : PerStage). c.structure_copy) (sym e);
  compute = is.compute ∙ ap (λ (c : PerStage). c.compute) (sym e);
}
