-- Numbers of kinds that are raised, and chains that end at a command.
use Rattle.std.proofs.Common.{◌≡◌, inl, inr, ℕ, Bool, true, false, ◌&&◌, max, List, [], ◌∷◌, refl, sym, arith}
use Rattle.std.specs.Prelude.{if◌then◌else◌}
use Rattle.ray_chains.specs.Dependencies.{IsIn}
use Rattle.ray_queues.specs.declared.limits.Limits.{Limits}
use Rattle.ray_queues.specs.declared.per_queue.PerQueue.{PerQueue}
use Rattle.ray_queues.specs.declared.per_queue.PerStage.{PerStage}
use Rattle.ray_queues.specs.declared.wave_kind.DeviceStage.{DeviceStage}
use Rattle.ray_queues.specs.declared.wave_kind.DeviceStage.TheVariants.{Transfer, Build, StructureCopy, Compute}
use Rattle.ray_queues.specs.declared.wave_kind.Queue.{Queue}
use Rattle.ray_queues.specs.declared.wave_kind.Queue.TheVariants.{Zero, One, Two, Three}
use Rattle.ray_queues.specs.declared.wave_kind.WaveKind.{WaveKind}
use Rattle.ray_queues.specs.declared.wave_kind.WaveKind.TheVariants.{Work, Barrier, Host}
use Rattle.ray_queues.specs.Kinds.{all_kinds, at_queue, at_stage, kinds_of, number_of, raised, raised_queue, raised_stage, same_kind, same_queue, same_stage}

-- ---- raised numbers

max-zero : (a : ℕ) → max a 0 ≡ a
max-zero a = omega arith

stage-raised : (z : PerStage) (s k : DeviceStage) (m : ℕ)
    → at_stage (raised_stage z s m) k ≡ max (at_stage z k) (if same_stage k s then m else 0)
stage-raised z Transfer Transfer m = refl
stage-raised z Transfer Build m = sym (max-zero z.build)
stage-raised z Transfer StructureCopy m = sym (max-zero z.structure_copy)
stage-raised z Transfer Compute m = sym (max-zero z.compute)
stage-raised z Build Transfer m = sym (max-zero z.transfer)
stage-raised z Build Build m = refl
stage-raised z Build StructureCopy m = sym (max-zero z.structure_copy)
stage-raised z Build Compute m = sym (max-zero z.compute)
stage-raised z StructureCopy Transfer m = sym (max-zero z.transfer)
stage-raised z StructureCopy Build m = sym (max-zero z.build)
stage-raised z StructureCopy StructureCopy m = refl
stage-raised z StructureCopy Compute m = sym (max-zero z.compute)
stage-raised z Compute Transfer m = sym (max-zero z.transfer)
stage-raised z Compute Build m = sym (max-zero z.build)
stage-raised z Compute StructureCopy m = sym (max-zero z.structure_copy)
stage-raised z Compute Compute m = refl

queue-raised : (z : PerQueue) (q k : Queue) (s to : DeviceStage) (m : ℕ)
    → at_stage (at_queue (raised_queue z q s m) k) to
    ≡ max (at_stage (at_queue z k) to) (if same_queue k q && same_stage to s then m else 0)
queue-raised z Zero Zero s to m = stage-raised z.zero s to m
queue-raised z Zero One s to m = sym (max-zero (at_stage z.one to))
queue-raised z Zero Two s to m = sym (max-zero (at_stage z.two to))
queue-raised z Zero Three s to m = sym (max-zero (at_stage z.three to))
queue-raised z One Zero s to m = sym (max-zero (at_stage z.zero to))
queue-raised z One One s to m = stage-raised z.one s to m
queue-raised z One Two s to m = sym (max-zero (at_stage z.two to))
queue-raised z One Three s to m = sym (max-zero (at_stage z.three to))
queue-raised z Two Zero s to m = sym (max-zero (at_stage z.zero to))
queue-raised z Two One s to m = sym (max-zero (at_stage z.one to))
queue-raised z Two Two s to m = stage-raised z.two s to m
queue-raised z Two Three s to m = sym (max-zero (at_stage z.three to))
queue-raised z Three Zero s to m = sym (max-zero (at_stage z.zero to))
queue-raised z Three One s to m = sym (max-zero (at_stage z.one to))
queue-raised z Three Two s to m = sym (max-zero (at_stage z.two to))
queue-raised z Three Three s to m = stage-raised z.three s to m

pub raised-is : (z : Limits) (kind k : WaveKind) (m : ℕ)
    → number_of (raised z kind m) k ≡ max (number_of z k) (if same_kind k kind then m else 0)
raised-is z (Work q s) (Work k to) m = queue-raised z.queues q k s to m
raised-is z (Work q s) Barrier m = sym (max-zero z.barrier)
raised-is z (Work q s) Host m = sym (max-zero z.host)
raised-is z Barrier (Work k to) m = sym (max-zero (at_stage (at_queue z.queues k) to))
raised-is z Barrier Barrier m = refl
raised-is z Barrier Host m = sym (max-zero z.host)
raised-is z Host (Work k to) m = sym (max-zero (at_stage (at_queue z.queues k) to))
raised-is z Host Barrier m = sym (max-zero z.barrier)
raised-is z Host Host m = refl

-- ---- one kind

stages-same : (s to : DeviceStage) → same_stage s to ≡ true → s ≡ to
stages-same Transfer Transfer e = refl
stages-same Transfer Build e = absurd cc
stages-same Transfer StructureCopy e = absurd cc
stages-same Transfer Compute e = absurd cc
stages-same Build Transfer e = absurd cc
stages-same Build Build e = refl
stages-same Build StructureCopy e = absurd cc
stages-same Build Compute e = absurd cc
stages-same StructureCopy Transfer e = absurd cc
stages-same StructureCopy Build e = absurd cc
stages-same StructureCopy StructureCopy e = refl
stages-same StructureCopy Compute e = absurd cc
stages-same Compute Transfer e = absurd cc
stages-same Compute Build e = absurd cc
stages-same Compute StructureCopy e = absurd cc
stages-same Compute Compute e = refl

queues-same : (q k : Queue) → same_queue q k ≡ true → q ≡ k
queues-same Zero Zero e = refl
queues-same Zero One e = absurd cc
queues-same Zero Two e = absurd cc
queues-same Zero Three e = absurd cc
queues-same One Zero e = absurd cc
queues-same One One e = refl
queues-same One Two e = absurd cc
queues-same One Three e = absurd cc
queues-same Two Zero e = absurd cc
queues-same Two One e = absurd cc
queues-same Two Two e = refl
queues-same Two Three e = absurd cc
queues-same Three Zero e = absurd cc
queues-same Three One e = absurd cc
queues-same Three Two e = absurd cc
queues-same Three Three e = refl

both : (a b : Bool) → (a && b) ≡ true → (a ≡ true) × (b ≡ true)
both true true e = (refl, refl)
both true false e = absurd cc
both false b e = absurd cc

pub kinds-same : (k kind : WaveKind) → same_kind k kind ≡ true → k ≡ kind
kinds-same (Work q s) (Work k to) e =
    let parts = both (same_queue q k) (same_stage s to) e in
    λ i. Work (queues-same q k parts.0 i) (stages-same s to parts.1 i)
kinds-same (Work q s) Barrier e = absurd cc
kinds-same (Work q s) Host e = absurd cc
kinds-same Barrier (Work k to) e = absurd cc
kinds-same Barrier Barrier e = refl
kinds-same Barrier Host e = absurd cc
kinds-same Host (Work k to) e = absurd cc
kinds-same Host Barrier e = absurd cc
kinds-same Host Host e = refl

self-stage : (s : DeviceStage) → same_stage s s ≡ true
self-stage Transfer = refl
self-stage Build = refl
self-stage StructureCopy = refl
self-stage Compute = refl

self-queue : (q : Queue) (s : DeviceStage) → (same_queue q q && same_stage s s) ≡ true
self-queue Zero s = self-stage s
self-queue One s = self-stage s
self-queue Two s = self-stage s
self-queue Three s = self-stage s

pub self-kind : (k : WaveKind) → same_kind k k ≡ true
self-kind (Work q s) = self-queue q s
self-kind Barrier = refl
self-kind Host = refl

-- each kind is one of all
in-queue : (queue : Queue) (kinds : List WaveKind) (s : DeviceStage) → IsIn (Work queue s) (kinds_of queue kinds)
in-queue queue kinds Transfer = inl refl
in-queue queue kinds Build = inr (inl refl)
in-queue queue kinds StructureCopy = inr (inr (inl refl))
in-queue queue kinds Compute = inr (inr (inr (inl refl)))

past-queue : (k : WaveKind) (queue : Queue) (kinds : List WaveKind) → IsIn k kinds → IsIn k (kinds_of queue kinds)
past-queue k queue kinds i = inr (inr (inr (inr i)))

abbrev last : List WaveKind
last = Barrier ∷ Host ∷ []

abbrev from_three : List WaveKind
from_three = kinds_of Three last

abbrev from_two : List WaveKind
from_two = kinds_of Two from_three

abbrev from_one : List WaveKind
from_one = kinds_of One from_two

past : (k : WaveKind) → IsIn k last → IsIn k all_kinds
past k i =
    past-queue k Zero from_one (past-queue k One from_two (past-queue k Two from_three (past-queue k Three last i)))

pub among-all : (k : WaveKind) → IsIn k all_kinds
among-all (Work Zero s) = in-queue Zero from_one s
among-all (Work One s) = past-queue (Work One s) Zero from_one (in-queue One from_two s)
among-all (Work Two s) =
    past-queue (Work Two s) Zero from_one (past-queue (Work Two s) One from_two (in-queue Two from_three s))
among-all (Work Three s) =
    past-queue (Work Three s) Zero from_one
    (past-queue (Work Three s) One from_two (past-queue (Work Three s) Two from_three (in-queue Three last s)))
among-all Barrier = past Barrier (inl refl)
among-all Host = past Host (inr (inl refl))
