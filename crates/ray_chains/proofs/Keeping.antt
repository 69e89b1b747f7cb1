-- What is kept of a thing gives its fronts, and goes from an event to the next.
use Rattle.std.proofs.Common.{◌≡◌, ◌<◌, ◌≤◌, ℕ, zero, suc, Bool, true, false, ◌&&◌, max, nat_lt, nat_le, if◌then◌else◌, List, [], ◌∷◌, Option, Some, None, is_some, refl, sym, subst, ◌∙◌, ap, inl, inr, arith}
use Rattle.std.proofs.lemmas.Bool.{both_ways, cases_eq, cond_both, eq-eqb, eqb-true, leb-true}
use Rattle.ray_chains.specs.declared.access_type.AccessType.{AccessType}
use Rattle.ray_chains.specs.declared.access_type.AccessType.TheVariants.{TransferRead, TransferWrite, ShaderRead, ShaderWrite, StructureRead, StructureWrite, HostRead, HostWrite}
use Rattle.ray_chains.specs.declared.chains.Chains.{Chains}
use Rattle.ray_chains.specs.declared.front.Front.{Front}
use Rattle.ray_chains.specs.declared.masks.MemoryBarrier.{MemoryBarrier}
use Rattle.ray_chains.specs.declared.kept.Override.{Override}
use Rattle.ray_chains.specs.declared.stage.Stage.{Stage}
use Rattle.ray_chains.specs.declared.stage.Stage.TheVariants.{Transfer, Build, StructureCopy, Compute, Host}
use Rattle.ray_chains.specs.declared.table.Table.{Table}
use Rattle.ray_chains.specs.Dependencies.{Step, IsIn}
use Rattle.ray_chains.specs.Fronts.{front, greatest_of}
use Rattle.ray_chains.specs.Overrides.{chain_from}
use Rattle.ray_chains.specs.Queues.{Node, At, Visible, Signalled, Scopes, Event, Barrier, Begin, Submit, Wait, Other, Source, TimelinePoint, any_access, met_by, is_device, acts_on_all, reaches_all, step_of, steps, takes, everywhere}
use Rattle.ray_chains.specs.QueueLaws.{IsOfQueue, ActsOver, holds_node, source_of}
use Rattle.ray_chains.specs.Tables.{scopes_of, front_at, table_at, table_barrier, table_on_device, has_stage}
use Rattle.ray_chains.specs.Overriding.{no_chains, chain_at, chains_barrier, chains_on_device, since_front, refreshed, own_table, own_front, override_after}
use Rattle.ray_chains.specs.Keeping.{IsTable, IsAll, IsCalm, AreChains, IsOverride, IsKept, node_at, hands_to, TablesStay, ChainsStay, KeptStays, NothingIsKept}
use Rattle.ray_chains.proofs.Numbers.{beyond}
use Rattle.ray_chains.proofs.Fronts.{stays, comes}
use Rattle.ray_chains.proofs.Nodes.{no, same-number, at-of, among-of, one-queue, no-signal, met-in}
use Rattle.ray_chains.proofs.Across.{sent-alike}
use Rattle.ray_chains.proofs.Things.{things-since, things-alike}
use Rattle.ray_chains.proofs.Tables.{table-first, table-barrier, table-wait, table-begin, table-still}

-- ---- by an override

node-of : (queue : ℕ) (s : Stage) (access : Option AccessType) → IsOfQueue queue (node_at queue s access)
node-of queue s None = at-of queue s
node-of queue s (Some x) = ap (λ b. b && true) (same-number queue)

hands-nothing :
    (events : ℕ → Event) (source : Source) (queue n : ℕ) (e : Event) (v : Node) → IsOfQueue queue v
    → (step_of events source n e).to v ≡ true → hands_to queue e ≡ true
hands-nothing events source queue n (Barrier at scopes buffers) v of h =
    eq-eqb at queue (one-queue queue at v of (among-of at scopes.dst_stages scopes.dst_access v h))
hands-nothing events source queue n (Begin at waits) v of h =
    eq-eqb at queue (one-queue queue at v of (among-of at is_device any_access v h))
hands-nothing events source queue n (Submit at signals) v of h = no-signal queue n v of h
hands-nothing events source queue n Wait v of h = refl
hands-nothing events source queue n Other v of h = no h

pub tables-stay : TablesStay
tables-stay acts events source queue n table off is = record {
  fronts = λ s access.
      let v : Node = node_at queue s access in
      let low = stays acts (steps events source) n v in
      let high =
      comes acts (steps events source) n v (front acts (steps events source) n v) (omega arith) (λ on h.
      let hands = hands-nothing events source queue n (events n) v (node-of queue s access) h in
      absurd (both_ways (acts n) (off hands) on))
      in
      let e = is.fronts s access in
      omega arith;
}

-- a chain from a stage is what has become of the commands of this stage
abbrev in_chain : Bool → Step Node → Step Node
in_chain takes_all s = record { takes_all = takes_all; from = s.from; to = s.to }

chain-step :
    (events : ℕ → Event) (source : Source) (queue : ℕ) (stage : Stage) (m : ℕ) (e : Event)
    → in_chain (step_of events (source_of queue stage None) m e).takes_all (step_of events source m e)
    ≡ step_of events (source_of queue stage None) m e
chain-step events source queue stage m (Barrier q scopes buffers) = refl
chain-step events source queue stage m (Begin q waits) = refl
chain-step events source queue stage m (Submit q signals) = refl
chain-step events source queue stage m Wait = refl
chain-step events source queue stage m Other = refl

chain-front :
    (events : ℕ → Event) (source : Source) (queue : ℕ) (stage : Stage) (n : ℕ) (v : Node)
    → front (everywhere events) (chain_from (holds_node events) (steps events source) (At queue stage)) n v
    ≡ front (everywhere events) (steps events (source_of queue stage None)) n v
chain-front events source queue stage n v j =
    front (everywhere events) (λ m. chain-step events source queue stage m (events m) j) n v

since-at :
    (all : Table) (over : Override) (chains : Chains) (s : Stage) (access : Option AccessType)
    → front_at (since_front all over chains access) s
    ≡ max (front_at (table_at all access) s)
    (max (front_at (table_at over.table access) s)
    (max (if nat_lt over.barrier (front_at (table_at chains.transfer access) s) then over.table.stages.transfer else 0)
    (max (if nat_lt over.barrier (front_at (table_at chains.build access) s) then over.table.stages.build else 0)
    (max (if nat_lt over.barrier (front_at (table_at chains.structure_copy access) s) then over.table.stages.structure_copy else 0)
    (max (if nat_lt over.barrier (front_at (table_at chains.compute access) s) then over.table.stages.compute else 0)
    (if nat_lt over.barrier (front_at (table_at chains.host access) s) then over.table.stages.host else 0))))))
since-at all over chains Transfer access = refl
since-at all over chains Build access = refl
since-at all over chains StructureCopy access = refl
since-at all over chains Compute access = refl
since-at all over chains Host access = refl

no-more : (a : ℕ) → max a 0 ≡ a
no-more a = omega arith

module _ (acts : ℕ → Bool) (events : ℕ → Event) (source : Source) (queue n : ℕ) where
  -- the fronts of a thing, by what is kept of it
  since-is :
      (all : Table) (over : Override) (chains : Chains) (s : Stage) (access : Option AccessType) → ActsOver events acts
      → IsAll events source queue n all → IsOverride acts events source queue n over → AreChains events queue n chains
      → front acts (steps events source) n (node_at queue s access) ≡ front_at (since_front all over chains access) s
  since-is all over chains s access acting is_all is_over are =
      let v : Node = node_at queue s access in
      let led_by : (u : Stage) → front (everywhere events) (chain_from (holds_node events) (steps events source) (At queue u)) n v ≡ front_at (table_at (chain_at chains u) access) s =
      λ u. chain-front events source queue u n v ∙ (are.from u).fronts s access
      in
      let had : (u : Stage) → front acts (steps events source) (suc over.barrier) (At queue u) ≡ front_at over.table.stages u =
      λ u. is_over.table.fronts u None
      in
      things-since acts events source queue over.barrier n v acting (node-of queue s access) is_over.below is_over.quiet
      ∙ ((λ j.
      max (is_all.fronts s access j)
      (max (is_over.table.fronts s access j)
      (max (if nat_lt over.barrier (led_by Transfer j) then had Transfer j else 0)
      (max (if nat_lt over.barrier (led_by Build j) then had Build j else 0)
      (max (if nat_lt over.barrier (led_by StructureCopy j) then had StructureCopy j else 0)
      (max (if nat_lt over.barrier (led_by Compute j) then had Compute j else 0)
      (no-more (if nat_lt over.barrier (led_by Host j) then had Host j else 0) j)))))))
      ∙ sym (since-at all over chains s access))

  refreshed-at :
      (all : Table) (over : Override) (chains : Chains) (access : Option AccessType)
      → table_at (refreshed all over chains) access ≡ since_front all over chains access
  refreshed-at all over chains None = refl
  refreshed-at all over chains (Some TransferRead) = refl
  refreshed-at all over chains (Some TransferWrite) = refl
  refreshed-at all over chains (Some ShaderRead) = refl
  refreshed-at all over chains (Some ShaderWrite) = refl
  refreshed-at all over chains (Some StructureRead) = refl
  refreshed-at all over chains (Some StructureWrite) = refl
  refreshed-at all over chains (Some HostRead) = refl
  refreshed-at all over chains (Some HostWrite) = refl

  -- where no chain was led on since, its old fronts are right
  calm-acts :
      (m : ℕ) (e : Event) (act : Bool)
      → ((scopes : Scopes) (buffers : Option (List ℕ)) → e ≡ Barrier queue scopes buffers → act ≡ acts_on_all e)
      → hands_to queue e ≡ true → acts_on_all e ≡ false → act ≡ false
  calm-acts m (Barrier at scopes buffers) act quiet h off =
      quiet scopes buffers (ap (λ k. Barrier k scopes buffers) (eqb-true at queue h)) ∙ off
  calm-acts m (Begin at waits) act quiet h off = no (sym off)
  calm-acts m (Submit at signals) act quiet h off = no h
  calm-acts m Wait act quiet h off = no (sym off)
  calm-acts m Other act quiet h off = no h

  calm-table :
      (over : Override) (last k : ℕ) → IsOverride acts events source queue n over → IsCalm events queue last n
      → last ≤ over.barrier → over.barrier < k → k ≤ n → IsTable acts (steps events source) queue k over.table
  calm-table over last zero is calm l after upto = absurd (omega arith)
  calm-table over last (suc k) is calm l after upto =
      elim (beyond k over.barrier) [
        | inl b ↦
            (let e : k ≡ over.barrier = omega arith in
            subst (λ m. IsTable acts (steps events source) queue (suc m) over.table) (sym e) is.table)
        | inr a ↦
            tables-stay acts events source queue k over.table
            (λ h. calm-acts k (events k) (acts k) (λ scopes buffers e. is.quiet k scopes buffers a (omega arith) e) h
            (calm k (omega arith) (omega arith) h))
            (calm-table over last k is calm l a (omega arith))
      ]

  over-table :
      (all : Table) (over : Override) (chains : Chains) → ActsOver events acts → IsAll events source queue n all
      → IsOverride acts events source queue n over → AreChains events queue n chains
      → IsTable acts (steps events source) queue n (refreshed all over chains)
  over-table all over chains acting is_all is_over are = record {
    fronts = λ s access.
        since-is all over chains s access acting is_all is_over are
        ∙ ap (λ (f : Front). front_at f s) (sym (refreshed-at all over chains access));
  }

  still-right :
      (over : Override) (chains : Chains) → IsOverride acts events source queue n over → AreChains events queue n chains
      → nat_le chains.last over.barrier ≡ true → IsTable acts (steps events source) queue n over.table
  still-right over chains is are l =
      let below : over.barrier < n = is.below in
      calm-table over chains.last n is are.calm (leb-true chains.last over.barrier l) below (omega arith)

  pub own-table :
      (all : Table) (kept : Option Override) (chains : Chains) → ActsOver events acts → IsAll events source queue n all
      → IsKept acts events source queue n kept → AreChains events queue n chains
      → IsTable acts (steps events source) queue n (own_table all kept chains)
  own-table all None chains acting is_all quiet are = record {
    fronts = λ s access.
        things-alike acts events source queue n (node_at queue s access) acting (node-of queue s access) quiet
        ∙ is_all.fronts s access;
  }
  own-table all (Some over) chains acting is_all is_over are =
      cond_both (nat_le chains.last over.barrier) over.table (refreshed all over chains)
      (IsTable acts (steps events source) queue n)
      (λ l. still-right over chains is_over are l)
      (λ g. over-table all over chains acting is_all is_over are)

  pub own-number :
      (all : Table) (kept : Option Override) (chains : Chains) (s : Stage) (x : AccessType) → ActsOver events acts
      → IsAll events source queue n all → IsKept acts events source queue n kept → AreChains events queue n chains
      → front acts (steps events source) n (Visible queue s x) ≡ front_at (own_front all kept chains x) s
  own-number all None chains s x acting is_all quiet are =
      things-alike acts events source queue n (Visible queue s x) acting (node-of queue s (Some x)) quiet
      ∙ is_all.fronts s (Some x)
  own-number all (Some over) chains s x acting is_all is_over are =
      cond_both (nat_le chains.last over.barrier) (table_at over.table (Some x)) (since_front all over chains (Some x))
      (λ (f : Front). front acts (steps events source) n (Visible queue s x) ≡ front_at f s)
      (λ l. (still-right over chains is_over are l).fronts s (Some x))
      (λ g. since-is all over chains s (Some x) acting is_all is_over are)

  -- a barrier that is limited to the thing
  pub kept-after :
      (all : Table) (kept : Option Override) (chains : Chains) (direct : Bool) (b : MemoryBarrier) (buffers : Option (List ℕ))
      → ActsOver events acts → IsAll events source queue n all → IsKept acts events source queue n kept
      → AreChains events queue n chains → events n ≡ Barrier queue (scopes_of b) buffers → acts n ≡ true
      → direct ≡ takes source queue (scopes_of b)
      → IsKept acts events source queue (suc n) (Some (override_after all kept chains direct n b))
  kept-after all kept chains direct b buffers acting is_all is_kept are is on direct_is = record {
    below = omega arith;
    table =
        table-barrier acts events source queue n direct b (own_table all kept chains) buffers is on direct_is
        (own-table all kept chains acting is_all is_kept are);
    quiet = λ m scopes others after before e. absurd (omega arith);
  }

-- ---- what stays

-- no event that acts on everything hands anything to the queue: so it stays, and so it is just after one
pub calm-on :
    (events : ℕ → Event) (queue last n : ℕ) → (hands_to queue (events n) ≡ true → everywhere events n ≡ false)
    → IsCalm events queue last n → IsCalm events queue last (suc n)
calm-on events queue last n off calm m after before h =
    elim (cases_eq m n) [
      | inl same ↦
          ap (everywhere events) same ∙ off (ap (λ k. hands_to queue (events k)) (sym same) ∙ h)
      | inr other ↦ calm m after (omega arith) h
    ]

calm-now : (events : ℕ → Event) (queue n : ℕ) → IsCalm events queue n (suc n)
calm-now events queue n m after before h = absurd (omega arith)

pub chains-stay : ChainsStay
chains-stay events queue n chains off are = record {
  from = λ s. tables-stay (everywhere events) events (source_of queue s None) queue n (chain_at chains s) off (are.from s);
  calm = calm-on events queue chains.last n off are.calm;
}

pub nothing-is-kept : NothingIsKept
nothing-is-kept acts events source queue m scopes buffers l e = absurd (omega arith)

pub kept-stays : KeptStays
kept-stays acts events source queue n None alike quiet = λ m scopes buffers l e.
    elim (cases_eq m n) [
      | inl same ↦
          subst (λ k. acts k ≡ everywhere events k) (sym same) (alike scopes buffers (ap events (sym same) ∙ e))
      | inr other ↦ quiet m scopes buffers (omega arith) e
    ]
kept-stays acts events source queue n (Some over) alike is = record {
  below = let l : over.barrier < n = is.below in omega arith;
  table = is.table;
  quiet = λ m scopes buffers after before e.
      elim (cases_eq m n) [
        | inl same ↦
            subst (λ k. acts k ≡ everywhere events k) (sym same) (alike scopes buffers (ap events (sym same) ∙ e))
        | inr other ↦ is.quiet m scopes buffers after (omega arith) e
      ];
}

-- ---- barriers that may be limited

limited-off : (buffers : Option (List ℕ)) → is_some buffers ≡ true → reaches_all buffers ≡ false
limited-off None h = no h
limited-off (Some ids) h = refl

limited-on : (buffers : Option (List ℕ)) → false ≡ is_some buffers → reaches_all buffers ≡ true
limited-on None h = refl
limited-on (Some ids) h = no h

pub all-after :
    (events : ℕ → Event) (source : Source) (queue n : ℕ) (limited direct : Bool) (b : MemoryBarrier) (t : Table)
    (buffers : Option (List ℕ)) → events n ≡ Barrier queue (scopes_of b) buffers → limited ≡ is_some buffers
    → direct ≡ takes source queue (scopes_of b) → IsAll events source queue n t
    → IsAll events source queue (suc n) (if limited then t else table_barrier direct n b t)
all-after events source queue n true direct b t buffers is limited_is direct_is table =
    table-still (everywhere events) events source queue n t
    (ap acts_on_all is ∙ limited-off buffers (sym limited_is)) table
all-after events source queue n false direct b t buffers is limited_is direct_is table =
    table-barrier (everywhere events) events source queue n direct b t buffers is
    (ap acts_on_all is ∙ limited-on buffers limited_is) direct_is table

-- ---- chains

pub chains-first : (events : ℕ → Event) (queue : ℕ) → AreChains events queue 0 no_chains
chains-first events queue = record { from = λ s. first s; calm = λ m after before h. absurd (omega arith) }
  where
    first : (s : Stage) → IsAll events (source_of queue s None) queue 0 (chain_at no_chains s)
    first Transfer = table-first (everywhere events) (steps events (source_of queue Transfer None)) queue
    first Build = table-first (everywhere events) (steps events (source_of queue Build None)) queue
    first StructureCopy = table-first (everywhere events) (steps events (source_of queue StructureCopy None)) queue
    first Compute = table-first (everywhere events) (steps events (source_of queue Compute None)) queue
    first Host = table-first (everywhere events) (steps events (source_of queue Host None)) queue

chain-after : (n : ℕ) (b : MemoryBarrier) (chains : Chains) (s : Stage) → chain_at (chains_barrier n b chains) s ≡ table_barrier (has_stage b.src_stages s) n b (chain_at chains s)
chain-after n b chains Transfer = refl
chain-after n b chains Build = refl
chain-after n b chains StructureCopy = refl
chain-after n b chains Compute = refl
chain-after n b chains Host = refl

chain-device : (n number : ℕ) (chains : Chains) (s : Stage) → chain_at (chains_on_device n number chains) s ≡ table_on_device number (chain_at chains s)
chain-device n number chains Transfer = refl
chain-device n number chains Build = refl
chain-device n number chains StructureCopy = refl
chain-device n number chains Compute = refl
chain-device n number chains Host = refl

pub chains-after :
    (events : ℕ → Event) (queue n : ℕ) (limited : Bool) (b : MemoryBarrier) (chains : Chains) (buffers : Option (List ℕ))
    → events n ≡ Barrier queue (scopes_of b) buffers → limited ≡ is_some buffers → AreChains events queue n chains
    → AreChains events queue (suc n) (if limited then chains else chains_barrier n b chains)
chains-after events queue n true b chains buffers is limited_is are =
    chains-stay events queue n chains (λ h. ap acts_on_all is ∙ limited-off buffers (sym limited_is)) are
chains-after events queue n false b chains buffers is limited_is are = record {
  from = λ s.
      subst (IsAll events (source_of queue s None) queue (suc n)) (sym (chain-after n b chains s))
      (table-barrier (everywhere events) events (source_of queue s None) queue n (has_stage b.src_stages s) b
      (chain_at chains s) buffers is (ap acts_on_all is ∙ limited-on buffers limited_is)
      (ap (λ c. c && has_stage b.src_stages s) (sym (same-number queue))) (are.from s));
  calm = calm-now events queue n;
}

pub chains-wait :
    (events : ℕ → Event) (queue n : ℕ) (chains : Chains) → events n ≡ Wait → AreChains events queue n chains
    → AreChains events queue (suc n) (chains_on_device n n chains)
chains-wait events queue n chains is are = record {
  from = λ s.
      subst (IsAll events (source_of queue s None) queue (suc n)) (sym (chain-device n n chains s))
      (table-wait (everywhere events) events (source_of queue s None) queue n (chain_at chains s) is
      (ap acts_on_all is) (are.from s));
  calm = calm-now events queue n;
}

-- what meets waits has the same fronts for each stage of a queue
met-alike :
    (acts : ℕ → Bool) (events : ℕ → Event) (queue n : ℕ) (a b : Stage) (x y : Option AccessType) (us : List Node)
    → ((u : Node) → IsIn u us → (k : ℕ) × (u ≡ Signalled k))
    → greatest_of (front acts (steps events (source_of queue a x)) n) us
    ≡ greatest_of (front acts (steps events (source_of queue b y)) n) us
met-alike acts events queue n a b x y [] sent = refl
met-alike acts events queue n a b x y (u ∷ us) sent =
    let (k, e) = sent u (inl refl) in
    let here : front acts (steps events (source_of queue a x)) n u ≡ front acts (steps events (source_of queue b y)) n u =
    subst (λ v. front acts (steps events (source_of queue a x)) n v ≡ front acts (steps events (source_of queue b y)) n v)
    (sym e) (sent-alike events queue k n a b x y acts)
    in
    let later = met-alike acts events queue n a b x y us (λ v i. sent v (inr i)) in
    λ j. max (here j) (later j)

pub chains-begin :
    (events : ℕ → Event) (queue n number : ℕ) (chains : Chains) (waits : List TimelinePoint) (stage : Stage)
    (access : Option AccessType) → events n ≡ Begin queue waits
    → number
    ≡ greatest_of (front (everywhere events) (steps events (source_of queue stage access)) n) (met_by events n waits)
    → AreChains events queue n chains → AreChains events queue (suc n) (chains_on_device n number chains)
chains-begin events queue n number chains waits stage access is number_is are = record {
  from = λ s.
      subst (IsAll events (source_of queue s None) queue (suc n)) (sym (chain-device n number chains s))
      (table-begin (everywhere events) events (source_of queue s None) queue n number (chain_at chains s) waits is
      (ap acts_on_all is)
      (number_is
      ∙ met-alike (everywhere events) events queue n stage s access None (met_by events n waits)
      (λ u i. met-in events n waits u i))
      (are.from s));
  calm = calm-now events queue n;
}
