use Rattle.std.proofs.Common.{None, arith}
use Rattle.ray_chains.specs.declared.stage.Stage.TheVariants.{Transfer, Build, StructureCopy, Compute, Host}
use Rattle.ray_chains.specs.Queues.{everywhere, steps}
use Rattle.ray_chains.specs.QueueLaws.{source_of}
use Rattle.ray_chains.proofs.chains.Chains.none.Goals as goal

pub returns-clause-first : goal.returns-clause-first
returns-clause-first c events queue = record {
  from = elim [
    | Transfer ↦ c.none.ensures.first (everywhere events) (steps events (source_of queue Transfer None)) queue
    | Build ↦ c.none-2.ensures.first (everywhere events) (steps events (source_of queue Build None)) queue
    | StructureCopy ↦ c.none-3.ensures.first (everywhere events) (steps events (source_of queue StructureCopy None)) queue
    | Compute ↦ c.none-4.ensures.first (everywhere events) (steps events (source_of queue Compute None)) queue
    | Host ↦ c.none-5.ensures.first (everywhere events) (steps events (source_of queue Host None)) queue
  ];
  calm = λ m after before h. absurd (omega arith);
}
