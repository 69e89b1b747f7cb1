-- One queue is what a check of hazards speaks of.
use Rattle.std.proofs.Common.{◌≡◌, ℕ, ◌||◌, true, false, List, [], ◌∷◌, Option, Some, None, slice_get, refl, sym, ◌∙◌, ap, subst}
use Rattle.std.specs.List.{list_any}
use Rattle.std.specs.Option.{option_map_or}
use Rattle.ray_chains.specs.declared.masks.MemoryBarrier.{MemoryBarrier}
use Rattle.ray_chains.specs.Queues.{Barrier, Other, acts_on_all}
use Rattle.ray_chains.specs.Tables.{scopes_of}
use Rattle.ray_cmd.specs.declared.command.Command.{Command}
use Rattle.ray_cmd.specs.declared.command.Command.TheVariants as commands
use Rattle.ray_flags.specs.declared.access.Access.{Access}
use Rattle.ray_flags.specs.declared.stages.Stages.{Stages}
use Rattle.ray_hazards.specs.declared.limits.PerStage.{PerStage}
use Rattle.ray_hazards.specs.Carrying.{AreActs}
use Rattle.ray_hazards.specs.Lanes.{AreOrdered}
use Rattle.ray_rules.specs.declared.stage.Stage.{Stage}
use Rattle.ray_rules.specs.Makers.{is_one, maker_of_buffer}
use Rattle.ray_rules.specs.Order.{acts_on, reaches}
use Rattle.ray_rules.specs.Status.{Status, status_at}
use Rattle.ray_sync.specs.declared.fronts.Fronts.{Fronts}
use Rattle.ray_sync.specs.Events.{barrier_of, event_of}
use Rattle.ray_sync.specs.Kinds.{AreFronts, stage_limits}
use Rattle.ray_sync.specs.OneQueue.{IsBarrierAt, in_order, one_queue}

-- what acts on everything acts on a thing
over-if :
    (thing : Option ℕ) (z : Status) (o : Option Command) → acts_on_all (option_map_or event_of o Other) ≡ true
    → option_map_or (acts_on thing z) o true ≡ true
over-if thing z None h = refl
over-if thing z (Some (commands.Barrier src sa dst da None)) h = refl
over-if thing z (Some (commands.Barrier src sa dst da (Some ids))) h = absurd cc
over-if thing z (Some _) h = refl

-- on structures nothing else does
never-one : (a : Option ℕ) → is_one a None ≡ false
never-one None = refl
never-one (Some a) = refl

pub never-named : (z : Status) (ids : List ℕ) → list_any (λ id. is_one (maker_of_buffer z id) None) ids ≡ false
never-named z [] = refl
never-named z (id ∷ ids) = λ i. never-one (maker_of_buffer z id) i || never-named z ids i

structures-if :
    (z : Status) (o : Option Command) → option_map_or (acts_on None z) o true ≡ acts_on_all (option_map_or event_of o Other)
structures-if z None = refl
structures-if z (Some (commands.Barrier src sa dst da None)) = refl
structures-if z (Some (commands.Barrier src sa dst da (Some ids))) = never-named z ids
structures-if z (Some _) = refl

pub one-queue-acts : (rec : List Command) → AreActs (one_queue rec)
one-queue-acts rec = record {
  over = λ thing m h. over-if thing (status_at rec m) (slice_get rec m) h;
  structures = λ m. structures-if (status_at rec m) (slice_get rec m);
}

-- a command that is a barrier
pub barrier-at :
    (rec : List Command) (n : ℕ) (z : Status) (src : Stages) (sa : Access) (dst : Stages) (da : Access)
    (buffers : Option (List ℕ)) (barrier : MemoryBarrier) → slice_get rec n ≡ Some (commands.Barrier src sa dst da buffers)
    → z ≡ status_at rec n → barrier ≡ barrier_of src sa dst da → IsBarrierAt rec n z barrier buffers
barrier-at rec n z src sa dst da buffers barrier there status same = record {
  event =
      ap (λ o. option_map_or event_of o Other) there ∙ (λ i. Barrier 0 (scopes_of (sym same i)) buffers);
  acts = λ thing.
      ap (λ o. option_map_or (acts_on thing (status_at rec n)) o true) there ∙ (λ i. reaches (sym status i) buffers thing);
}

-- a command that is neither a barrier nor a wait
pub rests :
    (c : Command) → (c ≡ commands.Wait → ⊥)
    → ((src : Stages) (sa : Access) (dst : Stages) (da : Access) (buffers : Option (List ℕ)) → c ≡ commands.Barrier src sa dst da buffers → ⊥)
    → event_of c ≡ Other
rests commands.Wait no_wait no_barrier = absurd (no_wait refl)
rests (commands.Barrier src sa dst da buffers) no_wait no_barrier = absurd (no_barrier src sa dst da buffers refl)
rests _ no_wait no_barrier = refl

-- the fronts tell what is ordered
pub fronts-order :
    (rec : List Command) (n : ℕ) (to : Stage) (fronts : Fronts) (limits : PerStage) → AreFronts rec n fronts
    → limits ≡ stage_limits fronts to → AreOrdered (in_order rec) n to limits
fronts-order rec n to fronts limits are e =
    subst (AreOrdered (in_order rec) n to) (sym e) (record {
      transfers = λ i by. are.transfer.exact i to;
      builds = λ i by. are.build.exact i to;
      copies = λ i by. are.structure_copy.exact i to;
      traces = λ i by. are.compute.exact i to;
    })
