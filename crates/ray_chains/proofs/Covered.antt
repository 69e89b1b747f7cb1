-- What is covered is ordered, and what stands before a wait of the host is.
use Rattle.std.proofs.Common.{◌≡◌, ℕ, suc, Bool, true, ◌&&◌, Some, None, refl, sym, subst, ◌∙◌, ap, arith}
use Rattle.std.specs.Prelude.{◌==◌}
use Rattle.std.proofs.lemmas.Bool.{and_parts, and_from, ltb-true, lt-ltb}
use Rattle.ray_chains.specs.declared.access_type.AccessType.{AccessType}
use Rattle.ray_chains.specs.declared.stage.Stage.{Stage}
use Rattle.ray_chains.specs.Dependencies.{IsIn}
use Rattle.ray_chains.specs.Fronts.{front, AreTakenOver}
use Rattle.ray_chains.specs.Queues.{Node, At, Visible, Signalled, Event, Barrier, Begin, Submit, Wait, Other, Source, is_device, step_of, steps, acts_on}
use Rattle.ray_chains.specs.QueueLaws.{source_of, CoveredIsOrdered, WaitsOrder}
use Rattle.ray_chains.proofs.Fronts.{fronts-are-exact, stays-on, gives-all, front-through}
use Rattle.ray_chains.proofs.Nodes.{no, nodes-at-in, met-in}
use Rattle.ray_chains.proofs.Events.{from-same}

-- a node without its access
abbrev pub without_access : Node → Node
without_access (At queue stage) = At queue stage
without_access (Visible queue stage access) = At queue stage
without_access (Signalled submit) = Signalled submit

module _ (events : ℕ → Event) (n q : ℕ) (stage : Stage) (access : AccessType) where
  abbrev written : Source
  written = source_of q stage (Some access)

  abbrev done : Source
  done = source_of q stage None

  plain-takes : (e : Event) → (step_of events written n e).takes_all ≡ true → (step_of events done n e).takes_all ≡ true
  plain-takes (Barrier queue scopes buffers) h =
      let parts = and_parts (queue == q) (scopes.src_stages stage && scopes.src_access access) h in
      and_from (queue == q) (scopes.src_stages stage) parts.0
      (and_parts (scopes.src_stages stage) (scopes.src_access access) parts.1).0
  plain-takes (Begin queue waits) h = h
  plain-takes (Submit queue signals) h = h
  plain-takes Wait h = h
  plain-takes Other h = h

  plain-stage : (queue : ℕ) (stages : Stage → Bool) (u : Node) → (s : Stage) × (stages s ≡ true) × (u ≡ At queue s) → without_access u ≡ u
  plain-stage queue stages u (s, t, e) = ap without_access e ∙ sym e

  plain-is : (e : Event) (u : Node) → IsIn u (step_of events written n e).from → without_access u ≡ u
  plain-is (Barrier queue scopes buffers) u i =
      plain-stage queue scopes.src_stages u (nodes-at-in queue scopes.src_stages u i)
  plain-is (Begin queue waits) u i = let (x, e) = met-in events n waits u i in ap without_access e ∙ sym e
  plain-is (Submit queue signals) u i = plain-stage queue (λ s. true) u (nodes-at-in queue (λ s. true) u i)
  plain-is Wait u i = absurd i
  plain-is Other u i = absurd i

  plain-from :
      (e : Event) (u : Node) → IsIn u (step_of events written n e).from → IsIn (without_access u) (step_of events done n e).from
  plain-from e u i =
      subst (λ x. IsIn x (step_of events done n e).from) (sym (plain-is e u i)) (from-same events n written done e u i)

  less : (at : Bool) (a b : Bool) → (at && (a && b)) ≡ true → (at && a) ≡ true
  less at a b h =
      let parts = and_parts at (a && b) h in and_from at a parts.0 (and_parts a b parts.1).0

  plain-to : (e : Event) (v : Node) → (step_of events written n e).to v ≡ true → (step_of events done n e).to (without_access v) ≡ true
  plain-to (Barrier queue scopes buffers) (At at s) h = h
  plain-to (Barrier queue scopes buffers) (Visible at s x) h = less (at == queue) (scopes.dst_stages s) (scopes.dst_access x) h
  plain-to (Barrier queue scopes buffers) (Signalled submit) h = h
  plain-to (Begin queue waits) (At at s) h = h
  plain-to (Begin queue waits) (Visible at s x) h = less (at == queue) (is_device s) true h
  plain-to (Begin queue waits) (Signalled submit) h = h
  plain-to (Submit queue signals) (At at s) h = h
  plain-to (Submit queue signals) (Visible at s x) h = h
  plain-to (Submit queue signals) (Signalled submit) h = h
  plain-to Wait (At at s) h = h
  plain-to Wait (Visible at s x) h = h
  plain-to Wait (Signalled submit) h = h
  plain-to Other v h = no h

taken-over :
    (events : ℕ → Event) (acts : ℕ → Bool) (q : ℕ) (stage : Stage) (access : AccessType)
    → AreTakenOver without_access acts (steps events (source_of q stage (Some access))) (λ m. true)
    (steps events (source_of q stage None))
taken-over events acts q stage access = record {
  acting = λ m h. refl;
  taking = λ m. plain-takes events m q stage access (events m);
  from = λ m. plain-from events m q stage access (events m);
  to = λ m. plain-to events m q stage access (events m);
}

pub covered-is-ordered : CoveredIsOrdered
covered-is-ordered events q stage access thing i n to_queue to x h =
    let acts : ℕ → Bool = λ m. acts_on thing (events m) in
    let covered = fronts-are-exact Node acts (steps events (source_of q stage (Some access))) i n (Visible to_queue to x) in
    let ordered = fronts-are-exact Node (λ m. true) (steps events (source_of q stage None)) i n (At to_queue to) in
    let below =
    ltb-true i (front acts (steps events (source_of q stage (Some access))) n (Visible to_queue to x)) (sym covered ∙ h)
    in
    let through =
    front-through without_access acts (steps events (source_of q stage (Some access))) (λ m. true)
    (steps events (source_of q stage None)) (taken-over events acts q stage access) n (Visible to_queue to x)
    in
    ordered
    ∙ lt-ltb i (front (λ m. true) (steps events (source_of q stage None)) n (At to_queue to)) (omega arith)

pub waits-order : WaitsOrder
waits-order events source i w n queue to is before after device =
    let takes = ap (λ e. (step_of events source w e).takes_all) is in
    let hands = ap (λ e. (step_of events source w e).to (At queue to)) is ∙ device in
    let g = gives-all (λ m. true) (steps events source) w (At queue to) refl takes hands in
    let s = stays-on (λ m. true) (steps events source) (suc w) n (At queue to) after in
    fronts-are-exact Node (λ m. true) (steps events source) i n (At queue to)
    ∙ lt-ltb i (front (λ m. true) (steps events source) n (At queue to)) (omega arith)
