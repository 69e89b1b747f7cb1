-- The laws, at the work of a device.
use Rattle.std.proofs.Common.{arith}
use Rattle.ray_schedule.specs.Units.{Work}
use Rattle.ray_schedule.specs.Conflicts.{AreOrdered, IsForward, IsLocal}
use Rattle.ray_schedule.specs.Laws.{EverySchedule, ArePermitted, WavesRun, HoldsBelow, first_units}
use Rattle.ray_schedule.proofs.Permitted.{outcomes_same, memory_same, fetch_reads, store_finds}
use Rattle.ray_schedule.proofs.Turns.{waves_permitted, recording_order_permitted}
use Rattle.ray_schedule.proofs.Waving.{waves_rise, waves_are_free, waves_begin, waves_fetch_the_same, waves_fetch_apart, waves_store_apart, waves_go_on, waves_end}
use Rattle.ray_schedule.proofs.Below.{first_fault_same, ordered_below}

module _ {Location : Type 0} {Held : Location → Type 0} {Outcome : Type 0} (work : Work Held Outcome) where
  pub every_schedule :
      IsLocal work.device → AreOrdered work.device work.before work.count → EverySchedule work
  every_schedule local ordered = record {
    outcomes = λ es. outcomes_same work.device work.start work.before work.count es local ordered;
    memory = λ es. memory_same work.device work.start work.before work.count es local ordered;
    fetches = λ es. fetch_reads work.device work.start work.before work.count es local ordered;
    stores = λ es. store_finds work.device work.start work.before work.count es local ordered;
    fault = first_fault_same work local ordered;
  }

  pub are_permitted : IsForward work.device work.before work.count → ArePermitted work
  are_permitted forward = record {
    recording_order = recording_order_permitted work.device work.before work.count forward;
    waves = waves_permitted work.device work.before work.count;
  }

  pub waves_run : IsLocal work.device → WavesRun work
  waves_run local = record {
    rise = waves_rise work;
    free = waves_are_free work;
    begin = waves_begin work;
    fetches = waves_fetch_the_same work local;
    fetch_apart = waves_fetch_apart work local;
    store_apart = waves_store_apart work;
    go_on = waves_go_on work local;
    end = waves_end work;
  }

module _ {Location : Type 0} {Held : Location → Type 0} {Outcome : Type 0} (work : Work Held Outcome) where
  pub every_schedule_below :
      IsLocal work.device → AreOrdered work.device work.before work.count → HoldsBelow EverySchedule work
  every_schedule_below local ordered m upto =
      every_schedule (first_units work m) local (ordered_below work m upto ordered)

  pub are_permitted_below : IsForward work.device work.before work.count → HoldsBelow ArePermitted work
  are_permitted_below forward m upto =
      are_permitted (first_units work m) (λ p q l k h. forward p q (omega arith) (omega arith) h)

  pub waves_run_below : IsLocal work.device → HoldsBelow WavesRun work
  waves_run_below local m upto = waves_run (first_units work m) local
