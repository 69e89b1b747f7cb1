-- What an event does, by its cases. Each lemma is over the event as a variable.
use Rattle.std.proofs.Common.{◌≡◌, ◌⊎◌, ℕ, Bool, true, false, List, Option, None, refl, sym, subst, ◌∙◌, ap, inl, inr}
use Rattle.std.specs.Prelude.{◌==◌}
use Rattle.std.proofs.lemmas.Bool.{cases_Bool, and_parts, and_from, both_ways, eqb-true, eq-eqb}
use Rattle.ray_chains.specs.declared.access_type.AccessType.{AccessType}
use Rattle.ray_chains.specs.declared.stage.Stage.{Stage}
use Rattle.ray_chains.specs.declared.stage.Stage.TheVariants.{Transfer}
use Rattle.ray_chains.specs.Dependencies.{IsIn}
use Rattle.ray_chains.specs.Queues.{Node, At, Signalled, Scopes, Event, Barrier, Begin, Submit, Wait, Other, Source, any_stage, any_access, is_device, nodes_at, is_among, takes_source, step_of, acts_on_all}
use Rattle.ray_chains.specs.QueueLaws.{IsOfQueue, source_of}
use Rattle.ray_chains.proofs.Nodes.{no, same-number, IsStage, nodes-at-in, at-in, among-of, one-queue, device-on, no-signal, IsSent, met-in}

module _ (events : ℕ → Event) (n : ℕ) where
  -- from and to don't depend on whose order is asked for
  pub from-same : (s other : Source) (e : Event) (u : Node) → IsIn u (step_of events s n e).from → IsIn u (step_of events other n e).from
  from-same s other (Barrier queue scopes buffers) u i = i
  from-same s other (Begin queue waits) u i = i
  from-same s other (Submit queue signals) u i = i
  from-same s other Wait u i = i
  from-same s other Other u i = i

  pub to-same : (s other : Source) (e : Event) (v : Node) → (step_of events s n e).to v ≡ true → (step_of events other n e).to v ≡ true
  to-same s other (Barrier queue scopes buffers) v h = h
  to-same s other (Begin queue waits) v h = h
  to-same s other (Submit queue signals) v h = h
  to-same s other Wait v h = h
  to-same s other Other v h = h

  -- what is handed to a queue comes from its stages, or from signals
  pub from-known :
      (s : Source) (e : Event) (queue : ℕ) (v u : Node) → IsOfQueue queue v → (step_of events s n e).to v ≡ true
      → IsIn u (step_of events s n e).from → IsStage queue any_stage u ⊎ IsSent u
  from-known s (Barrier q scopes buffers) queue v u of h i =
      let (stage, t, e) = nodes-at-in q scopes.src_stages u i in
      let same : q ≡ queue = one-queue queue q v of (among-of q scopes.dst_stages scopes.dst_access v h) in
      inl (stage, refl, e ∙ ap (λ k. At k stage) same)
  from-known s (Begin q waits) queue v u of h i = inr (met-in events n waits u i)
  from-known s (Submit q signals) queue v u of h i = no-signal queue n v of h
  from-known s Wait queue v u of h i = absurd i
  from-known s Other queue v u of h i = absurd i

  -- a thing is acted on as everything is, where this queue has no barrier limited to it
  pub acting-alike :
      (s : Source) (e : Event) (act : Bool) (queue : ℕ) (v : Node) → IsOfQueue queue v → (step_of events s n e).to v ≡ true
      → ((scopes : Scopes) (buffers : Option (List ℕ)) → e ≡ Barrier queue scopes buffers → act ≡ acts_on_all e)
      → (acts_on_all e ≡ true → act ≡ true)
      → act ≡ acts_on_all e
  acting-alike s (Barrier q scopes buffers) act queue v of h quiet over =
      let same : q ≡ queue = one-queue queue q v of (among-of q scopes.dst_stages scopes.dst_access v h) in
      quiet scopes buffers (ap (λ k. Barrier k scopes buffers) same)
  acting-alike s (Begin q waits) act queue v of h quiet over = over refl
  acting-alike s (Submit q signals) act queue v of h quiet over = over refl
  acting-alike s Wait act queue v of h quiet over = over refl
  acting-alike s Other act queue v of h quiet over = over refl

  -- which events hold a stage
  pub hold-taken :
      (s : Source) (e : Event) (queue : ℕ) (stage : Stage) → IsIn (At queue stage) (step_of events s n e).from
      → (step_of events (source_of queue stage None) n e).takes_all ≡ true
  hold-taken s (Barrier q scopes buffers) queue stage i =
      let (found, t, e) = nodes-at-in q scopes.src_stages (At queue stage) i in
      let same : queue ≡ q = cc in
      let that : stage ≡ found = cc in
      and_from (q == queue) (scopes.src_stages stage) (eq-eqb q queue (sym same)) (ap scopes.src_stages that ∙ t)
  hold-taken s (Begin q waits) queue stage i =
      let (x, e) = met-in events n waits (At queue stage) i in
      absurd (cc)
  hold-taken s (Submit q signals) queue stage i =
      let (found, t, e) = nodes-at-in q any_stage (At queue stage) i in
      let same : queue ≡ q = cc in
      eq-eqb q queue (sym same)
  hold-taken s Wait queue stage i = refl
  hold-taken s Other queue stage i = absurd i

  pub hold-only :
      (s : Source) (e : Event) (queue : ℕ) (stage : Stage)
      → (step_of events (source_of queue stage None) n e).takes_all ≡ true
      → IsIn (At queue stage) (step_of events s n e).from ⊎ ((step_of events s n e).takes_all ≡ true)
  hold-only s (Barrier q scopes buffers) queue stage h =
      let parts = and_parts (q == queue) (scopes.src_stages stage) h in
      let same : q ≡ queue = eqb-true q queue parts.0 in
      inl (subst (λ k. IsIn (At k stage) (nodes_at q scopes.src_stages)) same (at-in q scopes.src_stages stage parts.1))
  hold-only s (Begin q waits) queue stage h = no h
  hold-only s (Submit q signals) queue stage h =
      let same : q ≡ queue = eqb-true q queue h in
      inl (subst (λ k. IsIn (At k stage) (nodes_at q any_stage)) same (at-in q any_stage stage refl))
  hold-only s Wait queue stage h = inr refl
  hold-only s Other queue stage h = no h

  -- ---- what is handed to another queue

  -- what takes all there acts on everything and hands all to each device
  pub far-takes :
      (e : Event) (q queue : ℕ) (a b : Stage) (x y : Option AccessType) (w v : Node) → (queue == q) ≡ false
      → IsOfQueue queue w → is_among queue is_device any_access v ≡ true
      → (step_of events (source_of q a x) n e).to w ≡ true
      → (step_of events (source_of q a x) n e).takes_all ≡ true
      → (acts_on_all e ≡ true)
      × ((step_of events (source_of q b y) n e).takes_all ≡ true)
      × ((step_of events (source_of q b y) n e).to v ≡ true)
  far-takes (Barrier r scopes buffers) q queue a b x y w v far of dev h t =
      let same : r ≡ queue = one-queue queue r w of (among-of r scopes.dst_stages scopes.dst_access w h) in
      let near = (and_parts (r == q) (takes_source (source_of q a x) scopes.src_stages scopes.src_access) t).0 in
      absurd (both_ways (queue == q) far (ap (λ k. k == q) (sym same) ∙ near))
  far-takes (Begin r waits) q queue a b x y w v far of dev h t = no t
  far-takes (Submit r signals) q queue a b x y w v far of dev h t = no-signal queue n w of h
  far-takes Wait q queue a b x y w v far of dev h t = (refl, refl, device-on queue v dev)
  far-takes Other q queue a b x y w v far of dev h t = no t

  -- the same at one node, which may be the host's
  pub far-takes-same :
      (e : Event) (q queue : ℕ) (a b : Stage) (x y : Option AccessType) (w : Node) → (queue == q) ≡ false
      → IsOfQueue queue w → (step_of events (source_of q a x) n e).to w ≡ true
      → (step_of events (source_of q a x) n e).takes_all ≡ true
      → (step_of events (source_of q b y) n e).takes_all ≡ true
  far-takes-same (Barrier r scopes buffers) q queue a b x y w far of h t =
      let same : r ≡ queue = one-queue queue r w of (among-of r scopes.dst_stages scopes.dst_access w h) in
      let near = (and_parts (r == q) (takes_source (source_of q a x) scopes.src_stages scopes.src_access) t).0 in
      absurd (both_ways (queue == q) far (ap (λ k. k == q) (sym same) ∙ near))
  far-takes-same (Begin r waits) q queue a b x y w far of h t = no t
  far-takes-same (Submit r signals) q queue a b x y w far of h t = t
  far-takes-same Wait q queue a b x y w far of h t = refl
  far-takes-same Other q queue a b x y w far of h t = no t

  -- a signal that is taken up is handed to the whole device
  pub far-signals :
      (e : Event) (s other : Source) (queue submit : ℕ) (w v : Node) → IsOfQueue queue w
      → is_among queue is_device any_access v ≡ true → (step_of events s n e).to w ≡ true
      → IsIn (Signalled submit) (step_of events s n e).from
      → (acts_on_all e ≡ true) × ((step_of events other n e).to v ≡ true)
  far-signals (Barrier r scopes buffers) s other queue submit w v of dev h i =
      let (found, t, e) = nodes-at-in r scopes.src_stages (Signalled submit) i in
      absurd (cc)
  far-signals (Begin r waits) s other queue submit w v of dev h i =
      let same : r ≡ queue = one-queue queue r w of (among-of r is_device any_access w h) in
      (refl, subst (λ k. is_among k is_device any_access v ≡ true) (sym same) dev)
  far-signals (Submit r signals) s other queue submit w v of dev h i = no-signal queue n w of h
  far-signals Wait s other queue submit w v of dev h i = absurd i
  far-signals Other s other queue submit w v of dev h i = absurd i

  -- ---- what is handed to a signal

  -- it is handed there by the submission itself
  pub sent-at : (s : Source) (e : Event) (submit : ℕ) → (step_of events s n e).to (Signalled submit) ≡ true → submit ≡ n
  sent-at s (Barrier queue scopes buffers) submit h = no h
  sent-at s (Begin queue waits) submit h = no h
  sent-at s (Submit queue signals) submit h = eqb-true submit n h
  sent-at s Wait submit h = no h
  sent-at s Other submit h = no h

  pub sent-acts : (s : Source) (e : Event) (submit : ℕ) → (step_of events s n e).to (Signalled submit) ≡ true → acts_on_all e ≡ true
  sent-acts s (Barrier queue scopes buffers) submit h = no h
  sent-acts s (Begin queue waits) submit h = refl
  sent-acts s (Submit queue signals) submit h = refl
  sent-acts s Wait submit h = refl
  sent-acts s Other submit h = refl

  pub sent-takes :
      (e : Event) (q submit : ℕ) (a b : Stage) (x y : Option AccessType)
      → (step_of events (source_of q a x) n e).to (Signalled submit) ≡ true
      → (step_of events (source_of q a x) n e).takes_all ≡ true
      → (step_of events (source_of q b y) n e).takes_all ≡ true
  sent-takes (Barrier queue scopes buffers) q submit a b x y h t = no h
  sent-takes (Begin queue waits) q submit a b x y h t = no h
  sent-takes (Submit queue signals) q submit a b x y h t = t
  sent-takes Wait q submit a b x y h t = no h
  sent-takes Other q submit a b x y h t = no h

  -- a signal's queue is that of the source, which it takes up whole, or another, of which it takes up every
  -- stage
  abbrev pub ComesFrom : Source → Event → Node → Type 0
  ComesFrom s e u =
      ((step_of events s n e).takes_all ≡ true)
      ⊎ ((queue : ℕ)
      × ((queue == s.queue) ≡ false)
      × IsOfQueue queue u
      × IsIn (At queue Transfer) (step_of events s n e).from)

  pub sent-from :
      (e : Event) (s : Source) (submit : ℕ) (u : Node) → (step_of events s n e).to (Signalled submit) ≡ true
      → IsIn u (step_of events s n e).from → ComesFrom s e u
  sent-from (Barrier queue scopes buffers) s submit u h i = no h
  sent-from (Begin queue waits) s submit u h i = no h
  sent-from (Submit queue signals) s submit u h i =
      elim (cases_Bool (queue == s.queue)) [
        | inl t ↦ inl t
        | inr f ↦
            (let (stage, t, e) = nodes-at-in queue any_stage u i in
            let of : IsOfQueue queue u = subst (IsOfQueue queue) (sym e) (and_from (queue == queue) true (same-number queue) refl) in
            inr (queue, f, of, at-in queue any_stage Transfer refl))
      ]
  sent-from Wait s submit u h i = no h
  sent-from Other s submit u h i = no h
