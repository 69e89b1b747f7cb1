-- A table goes from an event to the next.
use Rattle.std.proofs.Common.{◌≡◌, ℕ, suc, Bool, true, false, ◌&&◌, max, nat_lt, if◌then◌else◌, List, [], Option, Some, None, refl, sym, ◌∙◌, ap, arith}
use Rattle.ray_chains.specs.declared.access_type.AccessType.{AccessType}
use Rattle.ray_chains.specs.declared.access_type.AccessType.TheVariants.{TransferRead, TransferWrite, ShaderRead, ShaderWrite, StructureRead, StructureWrite, HostRead, HostWrite}
use Rattle.ray_chains.specs.declared.front.Front.{Front}
use Rattle.ray_chains.specs.declared.masks.MemoryBarrier.{MemoryBarrier}
use Rattle.ray_chains.specs.declared.masks.StageMask.{StageMask}
use Rattle.ray_chains.specs.declared.stage.Stage.{Stage}
use Rattle.ray_chains.specs.declared.stage.Stage.TheVariants.{Transfer, Build, StructureCopy, Compute, Host}
use Rattle.ray_chains.specs.declared.table.Table.{Table}
use Rattle.ray_chains.specs.Dependencies.{Step, reached}
use Rattle.ray_chains.specs.Fronts.{front, front_after, greatest_of, taken_up}
use Rattle.ray_chains.specs.Queues.{Node, At, Visible, Event, Barrier, Begin, Wait, Source, TimelinePoint, any_access, is_device, holds, with_if, nodes_at, is_among, is_on_device, met_by, step_of, steps, takes}
use Rattle.ray_chains.specs.Tables.{has_stage, has_access, scopes_of, no_front, front_at, held, met, taken_at, raised, on_device, front_barrier, no_table, table_at, pair_barrier, handed_below, table_barrier, table_on_device}
use Rattle.ray_chains.specs.Keeping.{IsFront, IsTable, node_at}
use Rattle.ray_chains.proofs.Fronts.{acted, fronts-are-exact, still}
use Rattle.ray_chains.proofs.Nodes.{same-number}

-- ---- a number at each stage

zero-max : (a : ℕ) → max 0 a ≡ a
zero-max a = omega arith

max-zero : (a : ℕ) → max a 0 ≡ a
max-zero a = omega arith

pub raised-at :
    (stages : StageMask) (number : ℕ) (f : Front) (s : Stage)
    → front_at (raised stages number f) s ≡ max (front_at f s) (held stages s number)
raised-at stages number f Transfer = refl
raised-at stages number f Build = refl
raised-at stages number f StructureCopy = refl
raised-at stages number f Compute = refl
raised-at stages number f Host = refl

on-device-at :
    (number : ℕ) (f : Front) (s : Stage) → front_at (on_device number f) s ≡ max (front_at f s) (if is_device s then number else 0)
on-device-at number f Transfer = refl
on-device-at number f Build = refl
on-device-at number f StructureCopy = refl
on-device-at number f Compute = refl
on-device-at number f Host = sym (max-zero f.host)

none-at : (s : Stage) → 0 ≡ front_at no_front s
none-at Transfer = refl
none-at Build = refl
none-at StructureCopy = refl
none-at Compute = refl
none-at Host = refl

greatest-with-if :
    (f : Node → ℕ) (b : Bool) (x : Node) (xs : List Node)
    → greatest_of f (with_if b x xs) ≡ max (if b then f x else 0) (greatest_of f xs)
greatest-with-if f true x xs = refl
greatest-with-if f false x xs = sym (zero-max (greatest_of f xs))

-- what is met at stages of a queue
greatest-at :
    (f : Node → ℕ) (queue : ℕ) (stages : StageMask) (front : Front)
    → ((s : Stage) → f (At queue s) ≡ front_at front s)
    → greatest_of f (nodes_at queue (has_stage stages)) ≡ met stages front
greatest-at f queue stages front is =
    let hosts : List Node = with_if (has_stage stages Host) (At queue Host) [] in
    let computes : List Node = with_if (has_stage stages Compute) (At queue Compute) hosts in
    let copies : List Node = with_if (has_stage stages StructureCopy) (At queue StructureCopy) computes in
    let builds : List Node = with_if (has_stage stages Build) (At queue Build) copies in
    let at : Stage → ℕ = λ s. if has_stage stages s then f (At queue s) else 0 in
    greatest-with-if f (has_stage stages Transfer) (At queue Transfer) builds
    ∙ (ap (max (at Transfer))
    (greatest-with-if f (has_stage stages Build) (At queue Build) copies
    ∙ ap (max (at Build))
    (greatest-with-if f (has_stage stages StructureCopy) (At queue StructureCopy) computes
    ∙ ap (max (at StructureCopy))
    (greatest-with-if f (has_stage stages Compute) (At queue Compute) hosts
    ∙ ap (max (at Compute))
    (greatest-with-if f (has_stage stages Host) (At queue Host) [] ∙ max-zero (at Host)))))
    ∙ (λ j.
    max (if has_stage stages Transfer then is Transfer j else 0)
    (max (if has_stage stages Build then is Build j else 0)
    (max (if has_stage stages StructureCopy then is StructureCopy j else 0)
    (max (if has_stage stages Compute then is Compute j else 0) (if has_stage stages Host then is Host j else 0))))))

-- ---- a table

-- what a barrier does at one node, by the tests whether its scopes have the access and the stage
pair-at :
    (stages : StageMask) (has : Bool) (number : ℕ) (f : Front) (s : Stage)
    → front_at (if has then raised stages number f else f) s
    ≡ max (front_at f s) (if has_stage stages s && has then number else 0)
pair-at stages true number f s = raised-at stages number f s ∙ true-at (has_stage stages s)
  where
    true-at : (b : Bool) → max (front_at f s) (if b then number else 0) ≡ max (front_at f s) (if b && true then number else 0)
    true-at true = refl
    true-at false = refl
pair-at stages false number f s = false-at (has_stage stages s)
  where
    false-at : (b : Bool) → front_at f s ≡ max (front_at f s) (if b && false then number else 0)
    false-at true = sym (max-zero (front_at f s))
    false-at false = sym (max-zero (front_at f s))

handed-is : (number : ℕ) (b : MemoryBarrier) (t : Table) (x : AccessType) → table_at (handed_below number b t) (Some x) ≡ pair_barrier number b t x
handed-is number b t TransferRead = refl
handed-is number b t TransferWrite = refl
handed-is number b t ShaderRead = refl
handed-is number b t ShaderWrite = refl
handed-is number b t StructureRead = refl
handed-is number b t StructureWrite = refl
handed-is number b t HostRead = refl
handed-is number b t HostWrite = refl

handed-at :
    (number : ℕ) (b : MemoryBarrier) (t : Table) (s : Stage) (access : Option AccessType)
    → front_at (table_at (handed_below number b t) access) s
    ≡ max (front_at (table_at t access) s)
    (if holds (has_stage b.dst_stages) (has_access b.dst_access) s access then number else 0)
handed-at number b t s None = raised-at b.dst_stages number t.stages s
handed-at number b t s (Some x) =
    ap (λ (f : Front). front_at f s) (handed-is number b t x)
    ∙ pair-at b.dst_stages (has_access b.dst_access x) number (table_at t (Some x)) s

among-holds :
    (queue : ℕ) (stages : Stage → Bool) (accesses : AccessType → Bool) (s : Stage) (access : Option AccessType)
    → is_among queue stages accesses (node_at queue s access) ≡ holds stages accesses s access
among-holds queue stages accesses s None = ap (λ b. b && stages s) (same-number queue)
among-holds queue stages accesses s (Some x) = ap (λ b. b && (stages s && accesses x)) (same-number queue)

pub front-first : (acts : ℕ → Bool) (steps : ℕ → Step Node) (queue : ℕ) → IsFront acts steps queue 0 no_front
front-first acts steps queue = record { at = none-at }

pub table-first : (acts : ℕ → Bool) (steps : ℕ → Step Node) (queue : ℕ) → IsTable acts steps queue 0 no_table
table-first acts steps queue = record { fronts = λ s access. none-in s access }
  where
    none-in : (s : Stage) (access : Option AccessType) → 0 ≡ front_at (table_at no_table access) s
    none-in s None = none-at s
    none-in s (Some TransferRead) = none-at s
    none-in s (Some TransferWrite) = none-at s
    none-in s (Some ShaderRead) = none-at s
    none-in s (Some ShaderWrite) = none-at s
    none-in s (Some StructureRead) = none-at s
    none-in s (Some StructureWrite) = none-at s
    none-in s (Some HostRead) = none-at s
    none-in s (Some HostWrite) = none-at s

module _ (acts : ℕ → Bool) (events : ℕ → Event) (source : Source) (queue n : ℕ) where
  -- an event that acts hands on by its step
  after-event :
      (e : Event) (v : Node) → events n ≡ e → acts n ≡ true
      → front acts (steps events source) (suc n) v
      ≡ front_after (step_of events source n e) n (front acts (steps events source) n) v
  after-event e v is on =
      acted acts (steps events source) n v on
      ∙ ap (λ x. front_after (step_of events source n x) n (front acts (steps events source) n) v) is

  -- a front at the stages
  taken-is :
      (direct : Bool) (b : MemoryBarrier) (numbers : Front) (buffers : Option (List ℕ))
      → direct ≡ takes source queue (scopes_of b)
      → ((s : Stage) → front acts (steps events source) n (At queue s) ≡ front_at numbers s)
      → taken_up (step_of events source n (Barrier queue (scopes_of b) buffers)) n (front acts (steps events source) n)
      ≡ taken_at direct n b.src_stages numbers
  taken-is direct b numbers buffers direct_is is j =
      if sym direct_is j then n
      else greatest-at (front acts (steps events source) n) queue b.src_stages numbers is j

  pub front-barrier :
      (direct : Bool) (b : MemoryBarrier) (numbers : Front) (buffers : Option (List ℕ))
      → events n ≡ Barrier queue (scopes_of b) buffers → acts n ≡ true → direct ≡ takes source queue (scopes_of b)
      → IsFront acts (steps events source) queue n numbers
      → IsFront acts (steps events source) queue (suc n) (front_barrier direct n b numbers)
  front-barrier direct b numbers buffers is on direct_is front_is = record {
    at = λ s.
        after-event (Barrier queue (scopes_of b) buffers) (At queue s) is on
        ∙ ((λ j. max (front_is.at s j)
        (if among-holds queue (has_stage b.dst_stages) (has_access b.dst_access) s None j then
        taken-is direct b numbers buffers direct_is front_is.at j else 0))
        ∙ sym (raised-at b.dst_stages (taken_at direct n b.src_stages numbers) numbers s));
  }

  -- and for each access
  pub table-barrier :
      (direct : Bool) (b : MemoryBarrier) (t : Table) (buffers : Option (List ℕ))
      → events n ≡ Barrier queue (scopes_of b) buffers → acts n ≡ true → direct ≡ takes source queue (scopes_of b)
      → IsTable acts (steps events source) queue n t
      → IsTable acts (steps events source) queue (suc n) (table_barrier direct n b t)
  table-barrier direct b t buffers is on direct_is table =
      let number : ℕ = taken_at direct n b.src_stages t.stages in
      let same = taken-is direct b t.stages buffers direct_is (λ s. table.fronts s None) in
      record {
        fronts = λ s access.
            after-event (Barrier queue (scopes_of b) buffers) (node_at queue s access) is on
            ∙ ((λ j. max (table.fronts s access j)
            (if among-holds queue (has_stage b.dst_stages) (has_access b.dst_access) s access j then same j else 0))
            ∙ sym (handed-at number b t s access));
      }

  device-at : (s : Stage) (access : Option AccessType) → is_on_device (node_at queue s access) ≡ is_device s
  device-at s None = refl
  device-at s (Some x) = refl

  among-device :
      (s : Stage) (access : Option AccessType) → is_among queue is_device any_access (node_at queue s access) ≡ is_device s
  among-device s None = ap (λ b. b && is_device s) (same-number queue)
  among-device s (Some x) = ap (λ b. b && (is_device s && true)) (same-number queue) ∙ and-true (is_device s)
    where
      and-true : (b : Bool) → (b && true) ≡ b
      and-true true = refl
      and-true false = refl

  device-in :
      (number : ℕ) (t : Table) (s : Stage) (access : Option AccessType)
      → front_at (table_at (table_on_device number t) access) s
      ≡ max (front_at (table_at t access) s) (if is_device s then number else 0)
  device-in number t s None = on-device-at number t.stages s
  device-in number t s (Some TransferRead) = on-device-at number t.transfer_read s
  device-in number t s (Some TransferWrite) = on-device-at number t.transfer_write s
  device-in number t s (Some ShaderRead) = on-device-at number t.shader_read s
  device-in number t s (Some ShaderWrite) = on-device-at number t.shader_write s
  device-in number t s (Some StructureRead) = on-device-at number t.structure_read s
  device-in number t s (Some StructureWrite) = on-device-at number t.structure_write s
  device-in number t s (Some HostRead) = on-device-at number t.host_read s
  device-in number t s (Some HostWrite) = on-device-at number t.host_write s

  pub front-wait :
      (numbers : Front) → events n ≡ Wait → acts n ≡ true → IsFront acts (steps events source) queue n numbers
      → IsFront acts (steps events source) queue (suc n) (on_device n numbers)
  front-wait numbers is on front_is = record {
    at = λ s.
        after-event Wait (At queue s) is on
        ∙ ((λ j. max (front_is.at s j) (if is_device s then n else 0)) ∙ sym (on-device-at n numbers s));
  }

  pub front-begin :
      (number : ℕ) (numbers : Front) (waits : List TimelinePoint) → events n ≡ Begin queue waits → acts n ≡ true
      → number ≡ greatest_of (front acts (steps events source) n) (met_by events n waits)
      → IsFront acts (steps events source) queue n numbers
      → IsFront acts (steps events source) queue (suc n) (on_device number numbers)
  front-begin number numbers waits is on number_is front_is = record {
    at = λ s.
        after-event (Begin queue waits) (At queue s) is on
        ∙ ((λ j. max (front_is.at s j) (if among-device s None j then sym number_is j else 0))
        ∙ sym (on-device-at number numbers s));
  }

  pub table-wait :
      (t : Table) → events n ≡ Wait → acts n ≡ true → IsTable acts (steps events source) queue n t
      → IsTable acts (steps events source) queue (suc n) (table_on_device n t)
  table-wait t is on table = record {
    fronts = λ s access.
        after-event Wait (node_at queue s access) is on
        ∙ ((λ j. max (table.fronts s access j) (if device-at s access j then n else 0))
        ∙ sym (device-in n t s access));
  }

  pub table-begin :
      (number : ℕ) (t : Table) (waits : List TimelinePoint) → events n ≡ Begin queue waits → acts n ≡ true
      → number ≡ greatest_of (front acts (steps events source) n) (met_by events n waits)
      → IsTable acts (steps events source) queue n t
      → IsTable acts (steps events source) queue (suc n) (table_on_device number t)
  table-begin number t waits is on number_is table = record {
    fronts = λ s access.
        after-event (Begin queue waits) (node_at queue s access) is on
        ∙ ((λ j. max (table.fronts s access j) (if among-device s access j then sym number_is j else 0))
        ∙ sym (device-in number t s access));
  }

  -- an event that doesn't act, or hands nothing to the queue, leaves its table
  pub table-still :
      (t : Table) → acts n ≡ false → IsTable acts (steps events source) queue n t
      → IsTable acts (steps events source) queue (suc n) t
  table-still t off table = record {
    fronts = λ s access. still acts (steps events source) n (node_at queue s access) off ∙ table.fronts s access;
  }

-- ---- what numbers tell

pub front-tells :
    (numbers : Front) (stage : Stage) (acts : ℕ → Bool) (steps : ℕ → Step Node) (queue n i : ℕ)
    → IsFront acts steps queue n numbers
    → reached acts steps i n (At queue stage) ≡ nat_lt i (front_at numbers stage)
front-tells numbers stage acts steps queue n i is =
    fronts-are-exact Node acts steps i n (At queue stage) ∙ ap (nat_lt i) (is.at stage)

pub table-tells :
    (table : Table) (stage : Stage) (access : AccessType) (acts : ℕ → Bool) (steps : ℕ → Step Node) (queue n i : ℕ)
    → IsTable acts steps queue n table
    → reached acts steps i n (Visible queue stage access) ≡ nat_lt i (front_at (table_at table (Some access)) stage)
table-tells table stage access acts steps queue n i is =
    fronts-are-exact Node acts steps i n (Visible queue stage access) ∙ ap (nat_lt i) (is.fronts stage (Some access))
