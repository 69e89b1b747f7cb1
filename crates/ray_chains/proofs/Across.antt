-- Between queues one front says all.
use Rattle.std.proofs.Common.{◌≡◌, ◌≤◌, ◌<◌, ℕ, zero, suc, Bool, true, false, List, Option, Some, None, refl, sym, subst, ◌∙◌, ap, inl, inr, arith}
use Rattle.std.specs.Prelude.{◌==◌}
use Rattle.std.proofs.lemmas.Bool.{cases_Bool, cond-true, cond-false, both_ways}
use Rattle.ray_chains.specs.declared.access_type.AccessType.{AccessType}
use Rattle.ray_chains.specs.declared.stage.Stage.{Stage}
use Rattle.ray_chains.specs.declared.stage.Stage.TheVariants.{Transfer}
use Rattle.ray_chains.specs.Dependencies.{IsIn}
use Rattle.ray_chains.specs.Fronts.{front}
use Rattle.ray_chains.specs.Queues.{Node, Thing, At, Signalled, TimelinePoint, Event, Barrier, Begin, Submit, Wait, Other, Source, acts_on, any_stage, any_access, is_device, is_among, nodes_at, step_of, steps, acts_on_all, everywhere}
use Rattle.ray_chains.specs.QueueLaws.{IsOfQueue, ActsOver, source_of, CrossesAlike, FarAlike, SentAlike, SignalsAlike, SignalsCarry}
use Rattle.ray_chains.proofs.Numbers.{beyond}
use Rattle.ray_chains.proofs.Fronts.{within, within-after, stays, stays-on, gives, gives-all, comes}
use Rattle.ray_chains.proofs.Nodes.{no, at-of, at-in, same-number, nodes-at-in}
use Rattle.ray_chains.proofs.Events.{from-same, to-same, from-known, far-takes, far-takes-same, far-signals, sent-at, sent-acts, sent-takes, sent-from}

module _ (events : ℕ → Event) (q : ℕ) (a b : Stage) (x y : Option AccessType) where
  abbrev source_a : Source
  source_a = source_of q a x

  abbrev source_b : Source
  source_b = source_of q b y

  -- ---- the device of another queue, whatever acts

  module _ (acts more : ℕ → Bool) where
    abbrev one : ℕ → Node → ℕ
    one n v = front acts (steps events source_a) n v

    abbrev all : ℕ → Node → ℕ
    all n v = front more (steps events source_b) n v

    -- where number n stands
    pub record CrossAt (n : ℕ) : Type 0 where
      pub nodes :
          (queue : ℕ) (w v : Node) → (queue == q) ≡ false → IsOfQueue queue w
          → is_among queue is_device any_access v ≡ true → one n w ≤ all n v
      pub signals : (submit : ℕ) → one n (Signalled submit) ≤ all n (Signalled submit)

    cross-nodes :
        (n : ℕ) → ActsOver events more → CrossAt n → (queue : ℕ) (w v : Node) → (queue == q) ≡ false → IsOfQueue queue w
        → is_among queue is_device any_access v ≡ true → one (suc n) w ≤ all (suc n) v
    cross-nodes n over at queue w v far of dev =
        let s = stays more (steps events source_b) n v in
        let old = at.nodes queue w v far of dev in
        comes acts (steps events source_a) n w (all (suc n) v) (omega arith) (λ on h. (
          λ t.
              let (acting, takes, to) = far-takes events n (events n) q queue a b x y w v far of dev h t in
              gives-all more (steps events source_b) n v (over n acting) takes to,
          λ u i. elim (from-known events n source_a (events n) queue w u of h i) [
            | inl (stage, t, e) ↦
                (let new = at.nodes queue u v far (subst (IsOfQueue queue) (sym e) (at-of queue stage)) dev in
                omega arith)
            | inr (submit, e) ↦
                (let (acting, to) = far-signals events n (events n) source_a source_b queue submit w v of dev h
                (subst (λ k. IsIn k (steps events source_a n).from) e i) in
                let from = from-same events n source_a source_b (events n) u i in
                let g = gives more (steps events source_b) n u v (over n acting) from to in
                let new = subst (λ k. one n k ≤ all n k) (sym e) (at.signals submit) in
                omega arith)
          ],
        ))

    cross-signals :
        (n : ℕ) → ActsOver events more → CrossAt n → (submit : ℕ) → one (suc n) (Signalled submit) ≤ all (suc n) (Signalled submit)
    cross-signals n over at submit =
        let s = stays more (steps events source_b) n (Signalled submit) in
        let old = at.signals submit in
        comes acts (steps events source_a) n (Signalled submit) (all (suc n) (Signalled submit)) (omega arith) (λ on h.
        let acting = over n (sent-acts events n source_a (events n) submit h) in
        let to = to-same events n source_a source_b (events n) (Signalled submit) h in
        let takes : (steps events source_a n).takes_all ≡ true → n ≤ all (suc n) (Signalled submit) =
        λ t. gives-all more (steps events source_b) n (Signalled submit) acting
        (sent-takes events n (events n) q submit a b x y h t) to
        in (
          takes,
          λ u i. elim (sent-from events n (events n) source_a submit u h i) [
            | inl t ↦
                (let w = within acts (steps events source_a) n u in
                let g = takes t in
                omega arith)
            | inr (queue, far, of, from) ↦
                (let new = at.nodes queue u (At queue Transfer) far of (at-of queue Transfer) in
                let g =
                gives more (steps events source_b) n (At queue Transfer) (Signalled submit) acting
                (from-same events n source_a source_b (events n) (At queue Transfer) from) to
                in
                omega arith)
          ],
        ))

    pub crosses : ActsOver events more → (n : ℕ) → CrossAt n
    crosses over zero = record {
      nodes = λ queue w v far of dev. omega arith;
      signals = λ submit. omega arith;
    }
    crosses over (suc n) = record {
      nodes = cross-nodes n over (crosses over n);
      signals = cross-signals n over (crosses over n);
    }

  -- ---- every node of another queue, by the same steps

  module _ (acts : ℕ → Bool) where
    abbrev by_a : ℕ → Node → ℕ
    by_a n v = front acts (steps events source_a) n v

    abbrev by_b : ℕ → Node → ℕ
    by_b n v = front acts (steps events source_b) n v

    pub record FarAt (n : ℕ) : Type 0 where
      pub nodes : (queue : ℕ) (w : Node) → (queue == q) ≡ false → IsOfQueue queue w → by_a n w ≤ by_b n w
      pub signals : (submit : ℕ) → by_a n (Signalled submit) ≤ by_b n (Signalled submit)

    far-nodes :
        (n : ℕ) → FarAt n → (queue : ℕ) (w : Node) → (queue == q) ≡ false → IsOfQueue queue w → by_a (suc n) w ≤ by_b (suc n) w
    far-nodes n at queue w far of =
        let s = stays acts (steps events source_b) n w in
        let old = at.nodes queue w far of in
        comes acts (steps events source_a) n w (by_b (suc n) w) (omega arith) (λ on h.
        let to = to-same events n source_a source_b (events n) w h in (
          λ t. gives-all acts (steps events source_b) n w on (far-takes-same events n (events n) q queue a b x y w far of h t) to,
          λ u i.
              let g = gives acts (steps events source_b) n u w on (from-same events n source_a source_b (events n) u i) to in
              elim (from-known events n source_a (events n) queue w u of h i) [
                | inl (stage, t, e) ↦
                    (let new = at.nodes queue u far (subst (IsOfQueue queue) (sym e) (at-of queue stage)) in
                    omega arith)
                | inr (submit, e) ↦
                    (let new = subst (λ k. by_a n k ≤ by_b n k) (sym e) (at.signals submit) in
                    omega arith)
              ],
        ))

    far-sent :
        (n : ℕ) → FarAt n → (submit : ℕ) → by_a (suc n) (Signalled submit) ≤ by_b (suc n) (Signalled submit)
    far-sent n at submit =
        let s = stays acts (steps events source_b) n (Signalled submit) in
        let old = at.signals submit in
        comes acts (steps events source_a) n (Signalled submit) (by_b (suc n) (Signalled submit)) (omega arith) (λ on h.
        let to = to-same events n source_a source_b (events n) (Signalled submit) h in
        let takes : (steps events source_a n).takes_all ≡ true → n ≤ by_b (suc n) (Signalled submit) =
        λ t. gives-all acts (steps events source_b) n (Signalled submit) on
        (sent-takes events n (events n) q submit a b x y h t) to
        in (
          takes,
          λ u i. elim (sent-from events n (events n) source_a submit u h i) [
            | inl t ↦
                (let w = within acts (steps events source_a) n u in
                let g = takes t in
                omega arith)
            | inr (queue, far, of, from) ↦
                (let new = at.nodes queue u far of in
                let g =
                gives acts (steps events source_b) n u (Signalled submit) on
                (from-same events n source_a source_b (events n) u i) to
                in
                omega arith)
          ],
        ))

    pub far-at : (n : ℕ) → FarAt n
    far-at zero = record { nodes = λ queue w far of. omega arith; signals = λ submit. omega arith }
    far-at (suc n) = record { nodes = far-nodes n (far-at n); signals = far-sent n (far-at n) }

-- ---- the laws

pub crosses-alike : CrossesAlike
crosses-alike events q queue n a b x y acts more w v over far of dev =
    (crosses events q a b x y acts more over n).nodes queue w v far of dev

pub far-alike : FarAlike
far-alike events q queue n a b x y acts w far of =
    let l = (far-at events q a b x y acts n).nodes queue w far of in
    let m = (far-at events q b a y x acts n).nodes queue w far of in
    omega arith

pub sent-alike : SentAlike
sent-alike events q submit n a b x y acts =
    let l = (far-at events q a b x y acts n).signals submit in
    let m = (far-at events q b a y x acts n).signals submit in
    omega arith

-- what acts on everything acts over itself
pub everywhere-over : (events : ℕ → Event) → ActsOver events (everywhere events)
everywhere-over events m h = h

pub signals-alike : SignalsAlike
signals-alike acts events s n submit over =
    let l =
    (crosses events s.queue s.stage s.stage s.access s.access acts (everywhere events) (everywhere-over events) n).signals submit
    in
    let m =
    (crosses events s.queue s.stage s.stage s.access s.access (everywhere events) acts over n).signals submit
    in
    omega arith

-- ---- what a signal carries

module _ (acts : ℕ → Bool) (events : ℕ → Event) (source : Source) (submit : ℕ) where
  abbrev sent : ℕ → ℕ
  sent n = front acts (steps events source) n (Signalled submit)

  -- nothing but the submission comes to it
  sent-next : (n : ℕ) → (submit ≡ n → ⊥) → sent (suc n) ≤ sent n
  sent-next n other =
      comes acts (steps events source) n (Signalled submit) (sent n) (omega arith) (λ on h.
      absurd (other (sent-at events n source (events n) submit h)))

  sent-before : (n : ℕ) → n ≤ submit → sent n ≤ 0
  sent-before zero l = omega arith
  sent-before (suc n) l =
      let u = sent-before n (omega arith) in
      let v = sent-next n (λ e. omega arith) in
      omega arith

  sent-later : (n : ℕ) → submit < n → sent n ≤ sent (suc submit)
  sent-later zero l = omega arith
  sent-later (suc n) l =
      elim (beyond n submit) [
        | inl k ↦
            (let e : n ≡ submit = omega arith in
            let u = ap (λ k. sent (suc k)) e in
            omega arith)
        | inr k ↦
            (let u = sent-later n k in
            let v = sent-next n (λ e. omega arith) in
            omega arith)
      ]

  -- what the submission hands to it
  module _ (queue : ℕ) (signals : List TimelinePoint) (is : events submit ≡ Submit queue signals) (over : ActsOver events acts) where
    acting : acts submit ≡ true
    acting = over submit (ap acts_on_all is)

    hands : (steps events source submit).to (Signalled submit) ≡ true
    hands = ap (λ e. (step_of events source submit e).to (Signalled submit)) is ∙ same-number submit

    takes-is : (steps events source submit).takes_all ≡ (queue == source.queue)
    takes-is = ap (λ e. (step_of events source submit e).takes_all) is

    from-is : (steps events source submit).from ≡ nodes_at queue any_stage
    from-is = ap (λ e. (step_of events source submit e).from) is

    carries-own : (queue == source.queue) ≡ true → sent (suc submit) ≡ submit
    carries-own own =
        let g = gives-all acts (steps events source) submit (Signalled submit) acting (takes-is ∙ own) hands in
        let w = within-after acts (steps events source) submit (Signalled submit) in
        omega arith

    carries-other :
        (queue == source.queue) ≡ false → sent (suc submit) ≡ front acts (steps events source) submit (At queue Transfer)
    carries-other far =
        let z = sent-before submit (omega arith) in
        let g =
        gives acts (steps events source) submit (At queue Transfer) (Signalled submit) acting
        (subst (IsIn (At queue Transfer)) (sym from-is) (at-in queue any_stage Transfer refl)) hands
        in
        let c =
        comes acts (steps events source) submit (Signalled submit)
        (front acts (steps events source) submit (At queue Transfer)) (omega arith) (λ on h. (
          λ t. absurd (both_ways (queue == source.queue) far (sym takes-is ∙ t)),
          λ u i.
              let (stage, t, e) = nodes-at-in queue any_stage u (subst (IsIn u) from-is i) in
              crosses-alike events source.queue queue submit source.stage source.stage source.access source.access
              acts acts u (At queue Transfer) over far (subst (IsOfQueue queue) (sym e) (at-of queue stage))
              (at-of queue Transfer),
        ))
        in
        omega arith

pub signals-carry : SignalsCarry
signals-carry acts events source queue submit n signals over is l =
    let u = sent-later acts events source submit n l in
    let v = stays-on acts (steps events source) (suc submit) n (Signalled submit) l in
    elim (cases_Bool (queue == source.queue)) [
      | inl own ↦
          (let c =
          cond-true (queue == source.queue) submit (front acts (steps events source) submit (At queue Transfer)) own
          in
          let k = carries-own acts events source submit queue signals is over own in
          omega arith)
      | inr far ↦
          (let c =
          cond-false (queue == source.queue) submit (front acts (steps events source) submit (At queue Transfer)) far
          in
          let k = carries-other acts events source submit queue signals is over far in
          omega arith)
    ]

-- what acts on everything acts on each thing
pub thing-over : (events : ℕ → Event) (thing : Thing) → ActsOver events (λ m. acts_on thing (events m))
thing-over events thing m h = reached-by (events m) h
  where
    reached-by : (e : Event) → acts_on_all e ≡ true → acts_on thing e ≡ true
    reached-by (Barrier queue scopes None) h = refl
    reached-by (Barrier queue scopes (Some buffers)) h = no h
    reached-by (Begin queue waits) h = refl
    reached-by (Submit queue signals) h = refl
    reached-by Wait h = refl
    reached-by Other h = refl
