-- Nodes, and lists of stages of a queue.
use Rattle.std.proofs.Common.{◌≡◌, ◌⊎◌, ℕ, Bool, true, false, ◌&&◌, if◌then◌else◌, List, [], ◌∷◌, ◌++◌, Option, Some, None, refl, sym, ◌∙◌, inl, inr}
use Rattle.std.specs.Prelude.{◌==◌}
use Rattle.std.proofs.lemmas.Bool.{and_parts, and_from, eqb-true, eq-eqb}
use Rattle.ray_chains.specs.declared.access_type.AccessType.{AccessType}
use Rattle.ray_chains.specs.declared.stage.Stage.{Stage}
use Rattle.ray_chains.specs.declared.stage.Stage.TheVariants.{Transfer, Build, StructureCopy, Compute, Host}
use Rattle.ray_chains.specs.Dependencies.{IsIn}
use Rattle.ray_chains.specs.Queues.{Node, At, Visible, Signalled, TimelinePoint, Event, any_access, is_device, with_if, nodes_at, is_among, is_on_device, is_signal, first_below, signals_enough, signal_of, meets, met_by}
use Rattle.ray_chains.specs.QueueLaws.{IsOfQueue}

pub no : {A : Type 0} → false ≡ true → A
no e = absurd (never e)
  where
    never : false ≡ true → ⊥
    never e = cc

pub same-number : (n : ℕ) → (n == n) ≡ true
same-number n = eq-eqb n n refl

-- ---- lists

module _ {X : Type 0} where
  with-if-in : (b : Bool) (x u : X) (xs : List X) → IsIn u (with_if b x xs) → ((b ≡ true) × (u ≡ x)) ⊎ IsIn u xs
  with-if-in true x u xs (inl e) = inl (refl, e)
  with-if-in true x u xs (inr i) = inr i
  with-if-in false x u xs i = inr i

  with-if-here : (b : Bool) (x : X) (xs : List X) → b ≡ true → IsIn x (with_if b x xs)
  with-if-here true x xs e = inl refl
  with-if-here false x xs e = no e

  with-if-later : (b : Bool) (x u : X) (xs : List X) → IsIn u xs → IsIn u (with_if b x xs)
  with-if-later true x u xs i = inr i
  with-if-later false x u xs i = i

  pub in-append : (xs ys : List X) (u : X) → IsIn u (xs ++ ys) → IsIn u xs ⊎ IsIn u ys
  in-append [] ys u i = inr i
  in-append (x ∷ xs) ys u (inl e) = inl (inl e)
  in-append (x ∷ xs) ys u (inr i) =
      elim (in-append xs ys u i) [ inl a ↦ inl (inr a) | inr b ↦ inr b ]

-- a node is a stage of a queue, one of a set
abbrev pub IsStage : ℕ → (Stage → Bool) → Node → Type 0
IsStage queue stages u = (s : Stage) × (stages s ≡ true) × (u ≡ At queue s)

pub nodes-at-in : (queue : ℕ) (stages : Stage → Bool) (u : Node) → IsIn u (nodes_at queue stages) → IsStage queue stages u
nodes-at-in queue stages u i =
    let hosts : List Node = with_if (stages Host) (At queue Host) [] in
    let computes : List Node = with_if (stages Compute) (At queue Compute) hosts in
    let copies : List Node = with_if (stages StructureCopy) (At queue StructureCopy) computes in
    let builds : List Node = with_if (stages Build) (At queue Build) copies in
    elim (with-if-in (stages Transfer) (At queue Transfer) u builds i) [
      | inl (t, e) ↦ (Transfer, t, e)
      | inr i1 ↦ elim (with-if-in (stages Build) (At queue Build) u copies i1) [
        | inl (t, e) ↦ (Build, t, e)
        | inr i2 ↦ elim (with-if-in (stages StructureCopy) (At queue StructureCopy) u computes i2) [
          | inl (t, e) ↦ (StructureCopy, t, e)
          | inr i3 ↦ elim (with-if-in (stages Compute) (At queue Compute) u hosts i3) [
            | inl (t, e) ↦ (Compute, t, e)
            | inr i4 ↦ elim (with-if-in (stages Host) (At queue Host) u [] i4) [
              | inl (t, e) ↦ (Host, t, e)
              | inr i5 ↦ absurd i5
            ]
          ]
        ]
      ]
    ]

pub at-in : (queue : ℕ) (stages : Stage → Bool) (s : Stage) → stages s ≡ true → IsIn (At queue s) (nodes_at queue stages)
at-in queue stages s e =
    let hosts : List Node = with_if (stages Host) (At queue Host) [] in
    let computes : List Node = with_if (stages Compute) (At queue Compute) hosts in
    let copies : List Node = with_if (stages StructureCopy) (At queue StructureCopy) computes in
    let builds : List Node = with_if (stages Build) (At queue Build) copies in
    let past1 : (u : Node) → IsIn u builds → IsIn u (nodes_at queue stages) = λ u. with-if-later (stages Transfer) (At queue Transfer) u builds in
    let past2 : (u : Node) → IsIn u copies → IsIn u builds = λ u. with-if-later (stages Build) (At queue Build) u copies in
    let past3 : (u : Node) → IsIn u computes → IsIn u copies = λ u. with-if-later (stages StructureCopy) (At queue StructureCopy) u computes in
    let past4 : (u : Node) → IsIn u hosts → IsIn u computes = λ u. with-if-later (stages Compute) (At queue Compute) u hosts in
    (elim s as (λ x. stages x ≡ true → IsIn (At queue x) (nodes_at queue stages)) [
      | Transfer ↦ λ t. with-if-here (stages Transfer) (At queue Transfer) builds t
      | Build ↦ λ t. past1 (At queue Build) (with-if-here (stages Build) (At queue Build) copies t)
      | StructureCopy ↦
          λ t. past1 (At queue StructureCopy) (past2 (At queue StructureCopy)
          (with-if-here (stages StructureCopy) (At queue StructureCopy) computes t))
      | Compute ↦
          λ t. past1 (At queue Compute) (past2 (At queue Compute) (past3 (At queue Compute)
          (with-if-here (stages Compute) (At queue Compute) hosts t)))
      | Host ↦
          λ t. past1 (At queue Host) (past2 (At queue Host) (past3 (At queue Host) (past4 (At queue Host)
          (with-if-here (stages Host) (At queue Host) [] t))))
    ]) e

-- ---- where a node is

pub at-of : (queue : ℕ) (s : Stage) → IsOfQueue queue (At queue s)
at-of queue s = and_from (queue == queue) true (same-number queue) refl

pub among-of :
    (queue : ℕ) (stages : Stage → Bool) (accesses : AccessType → Bool) (v : Node)
    → is_among queue stages accesses v ≡ true → IsOfQueue queue v
among-of queue stages accesses (At at s) h =
    and_from (at == queue) true (and_parts (at == queue) (stages s) h).0 refl
among-of queue stages accesses (Visible at s x) h =
    and_from (at == queue) (true && true) (and_parts (at == queue) (stages s && accesses x) h).0 refl
among-of queue stages accesses (Signalled submit) h = no h

pub of-queue : (queue : ℕ) (at : ℕ) (s : Stage) → IsOfQueue queue (At at s) → at ≡ queue
of-queue queue at s h = eqb-true at queue (and_parts (at == queue) true h).0

-- a node is of one queue
pub one-queue : (queue other : ℕ) (v : Node) → IsOfQueue queue v → IsOfQueue other v → other ≡ queue
one-queue queue other (At at s) h k =
    sym (eqb-true at other (and_parts (at == other) true k).0) ∙ eqb-true at queue (and_parts (at == queue) true h).0
one-queue queue other (Visible at s x) h k =
    sym (eqb-true at other (and_parts (at == other) (true && true) k).0)
    ∙ eqb-true at queue (and_parts (at == queue) (true && true) h).0
one-queue queue other (Signalled submit) h k = no h

pub device-on : (queue : ℕ) (v : Node) → is_among queue is_device any_access v ≡ true → is_on_device v ≡ true
device-on queue (At at s) h = (and_parts (at == queue) (is_device s) h).1
device-on queue (Visible at s x) h = (and_parts (is_device s) true (and_parts (at == queue) (is_device s && true) h).1).0
device-on queue (Signalled submit) h = no h

pub no-signal : {A : Type 0} (queue n : ℕ) (v : Node) → IsOfQueue queue v → is_signal n v ≡ true → A
no-signal queue n (At at s) h k = no k
no-signal queue n (Visible at s x) h k = no k
no-signal queue n (Signalled submit) h k = no h

-- ---- signals

-- a node is a signal
abbrev pub IsSent : Node → Type 0
IsSent u = (x : ℕ) × (u ≡ Signalled x)

signal-in : (o : Option ℕ) (u : Node) → IsIn u (signal_of o) → IsSent u
signal-in None u i = absurd i
signal-in (Some x) u (inl e) = (x, e)
signal-in (Some x) u (inr i) = absurd i

meets-in : (zero_value : Bool) (o : Option ℕ) (u : Node) → IsIn u (if zero_value then [] else signal_of o) → IsSent u
meets-in true o u i = absurd i
meets-in false o u i = signal-in o u i

pub met-in : (events : ℕ → Event) (n : ℕ) (waits : List TimelinePoint) (u : Node) → IsIn u (met_by events n waits) → IsSent u
met-in events n [] u i = absurd i
met-in events n (wait ∷ waits) u i =
    elim (in-append (meets events n wait) (met_by events n waits) u i) [
      | inl a ↦ meets-in (wait.value == 0) (first_below (λ m. signals_enough wait (events m)) n) u a
      | inr b ↦ met-in events n waits u b
    ]
