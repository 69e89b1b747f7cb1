-- The order of one queue by three sets, in the plain words of the rules: the stages before which a command
-- is ordered (E), the same of what it wrote (W), and the pairs of stage and access to which that is
-- covered (C). (Vulkan: execution and memory dependencies and their chains; own: how chains are formed,
-- and what an empty set of stages or accesses carries.)
use Rattle.std.specs.Prelude.{◌≡◌, ℕ, zero, suc, Bool, true, false, ◌&&◌, ◌||◌, ◌==◌, nat_lt, [], ◌∷◌, if◌then◌else◌}
use Rattle.ray_chains.specs.declared.access_type.AccessType.{AccessType}
use Rattle.ray_chains.specs.declared.stage.Stage.{Stage}
use Rattle.ray_chains.specs.declared.stage.Stage.TheVariants.{Transfer, Build, StructureCopy, Compute, Host}
use Rattle.ray_chains.specs.Dependencies.{reached}
use Rattle.ray_chains.specs.Queues.{At, Visible, Event, Barrier, Begin, Wait, Source, is_device, steps, takes_source}

-- how far what a command did has been handed on: the stages, and the pairs of stage and access to
-- which what it wrote has been made visible
pub record Handed : Type 0 where
  pub stages : Stage → Bool
  pub pairs : Stage → AccessType → Bool

-- not at all
abbrev pub not_handed : Handed
not_handed = record { stages = λ s. false; pairs = λ s x. false }

-- whether some stage is both in a set of stages of a barrier and among those reached
abbrev pub meets_stages : (Stage → Bool) → (Stage → Bool) → Bool
meets_stages stages reached =
    (stages Transfer && reached Transfer)
    || ((stages Build && reached Build)
    || ((stages StructureCopy && reached StructureCopy)
    || ((stages Compute && reached Compute) || (stages Host && reached Host))))

-- handed on once more to the destination of a barrier, where its source takes it up
abbrev pub handed_on : Bool → (Stage → Bool) → (AccessType → Bool) → Handed → Handed
handed_on taken dst_stages dst_access z = record {
  stages = λ s. z.stages s || (taken && dst_stages s);
  pairs = λ s x. z.pairs s x || (taken && (dst_stages s && dst_access x));
}

-- handed on to all that the device does later: a wait adds nothing for the host
abbrev pub handed_to_device : Handed → Handed
handed_to_device z = record { stages = λ s. z.stages s || is_device s; pairs = λ s x. z.pairs s x || is_device s }

-- how far it has been handed on after one more event. `takes` says of a barrier's source whether it takes
-- the command up directly; it also takes up what has reached one of its source stages
abbrev pub handed_after : ((Stage → Bool) → (AccessType → Bool) → Bool) → Event → Handed → Handed
handed_after takes (Barrier queue scopes buffers) z =
    handed_on (takes scopes.src_stages scopes.src_access || meets_stages scopes.src_stages z.stages)
    scopes.dst_stages scopes.dst_access z
handed_after takes Wait z = handed_to_device z
handed_after takes _ z = z

-- how far command number i has been handed on where command number n stands, by the events that act
abbrev pub handed_at : ((Stage → Bool) → (AccessType → Bool) → Bool) → (ℕ → Bool) → (ℕ → Event) → ℕ → ℕ → Handed
handed_at takes acts events i zero = not_handed
handed_at takes acts events i (suc n) =
    if nat_lt i n then
    (if acts n then handed_after takes (events n) (handed_at takes acts events i n)
    else handed_at takes acts events i n)
    else not_handed

-- whether an event is one of a single queue, number 0, that waits for no semaphore
abbrev pub is_alone : Event → Bool
is_alone (Barrier queue scopes buffers) = queue == 0
is_alone (Begin queue []) = true
is_alone (Begin queue (wait ∷ waits)) = false
is_alone _ = true

-- with one queue the steps over nodes give these sets
abbrev pub OneQueueHasSets : Type 0
OneQueueHasSets =
    (acts : ℕ → Bool) (events : ℕ → Event) (source : Source) (i n : ℕ)
    → source.queue ≡ 0 → ((m : ℕ) → is_alone (events m) ≡ true)
    → ((s : Stage)
    → reached acts (steps events source) i n (At 0 s)
    ≡ (handed_at (takes_source source) acts events i n).stages s)
    × ((s : Stage) (x : AccessType)
    → reached acts (steps events source) i n (Visible 0 s x)
    ≡ (handed_at (takes_source source) acts events i n).pairs s x)
