-- Numbers for each stage of each queue. (Own.)
use Rattle.std.specs.Prelude.{ℕ, max}
use Rattle.ray_queues.specs.declared.per_queue.PerQueue.{PerQueue}
use Rattle.ray_queues.specs.declared.per_queue.PerStage.{PerStage}

-- one number for each
abbrev pub all_stages : ℕ → PerStage
all_stages number = record { transfer = number; build = number; structure_copy = number; compute = number }

abbrev pub all_queues : ℕ → PerQueue
all_queues number = record {
  zero = all_stages number;
  one = all_stages number;
  two = all_stages number;
  three = all_stages number;
}

-- for each the greater of two
abbrev pub greater_stages : PerStage → PerStage → PerStage
greater_stages a b = record {
  transfer = max a.transfer b.transfer;
  build = max a.build b.build;
  structure_copy = max a.structure_copy b.structure_copy;
  compute = max a.compute b.compute;
}

abbrev pub greater_queues : PerQueue → PerQueue → PerQueue
greater_queues a b = record {
  zero = greater_stages a.zero b.zero;
  one = greater_stages a.one b.one;
  two = greater_stages a.two b.two;
  three = greater_stages a.three b.three;
}
