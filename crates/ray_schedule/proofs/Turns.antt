-- Waves one after the other are a permitted schedule.
use Rattle.std.proofs.Common.{◌≡◌, ◌<◌, ◌≤◌, ℕ, ◌+◌, zero, suc, Bool, false, List, [], ◌∷◌, ◌++◌, map, refl, sym, ◌∙◌, ap, subst, arith, inl, inr, ◌⊎◌}
use Rattle.std.specs.Prelude.{Some, slice_get}
use Rattle.std.specs.List.{range_with_len}
use Rattle.std.proofs.lemmas.Bool.{cases_eq, cases_order, cases_Bool, both_ways, cond-true, cond-false}
use Rattle.std.proofs.lemmas.Option.{same_Some, none-some}
use Rattle.ray_schedule.specs.Units.{Device}
use Rattle.ray_schedule.specs.Events.{Event, Fetch, Store, Act, unit_of}
use Rattle.ray_schedule.specs.Schedules.{StandsAt, IsEvent, IsPermitted}
use Rattle.ray_schedule.specs.Waves.{IsAmong, EachLater, AreDistinct, Wave, begin, events_of, IsWave, AreWaves, RisesAlong, alone, recording_order}

-- ---- lists

pub among-append_left : {X : Type 0} (x : X) (xs ys : List X) → IsAmong x xs → IsAmong x (xs ++ ys)
among-append_left x [] ys h = absurd h
among-append_left x (y ∷ xs) ys (inl h) = inl h
among-append_left x (y ∷ xs) ys (inr h) = inr (among-append_left x xs ys h)

pub among-append_right : {X : Type 0} (x : X) (xs ys : List X) → IsAmong x ys → IsAmong x (xs ++ ys)
among-append_right x [] ys h = h
among-append_right x (y ∷ xs) ys h = inr (among-append_right x xs ys h)

pub among-append : {X : Type 0} (x : X) (xs ys : List X) → IsAmong x (xs ++ ys) → IsAmong x xs ⊎ IsAmong x ys
among-append x [] ys h = inr h
among-append x (y ∷ xs) ys (inl h) = inl (inl h)
among-append x (y ∷ xs) ys (inr h) =
    elim (among-append x xs ys h) [ inl a ↦ inl (inr a) | inr a ↦ inr a ]

pub among-map : {X Y : Type 0} (f : X → Y) (x : X) (xs : List X) → IsAmong x xs → IsAmong (f x) (map f xs)
among-map f x [] h = absurd h
among-map f x (y ∷ ys) (inl h) = inl (ap f h)
among-map f x (y ∷ ys) (inr h) = inr (among-map f x ys h)

-- a member of images is the image of a member
pub record IsImage {X Y : Type 0} (f : X → Y) (xs : List X) (y : Y) : Type 0 where
  pub of : X
  pub among : IsAmong of xs
  pub is : y ≡ f of

pub image-among : {X Y : Type 0} (f : X → Y) (xs : List X) (y : Y) → IsAmong y (map f xs) → IsImage f xs y
image-among f [] y h = absurd h
image-among f (x ∷ xs) y (inl h) = record { of = x; among = inl refl; is = h }
image-among f (x ∷ xs) y (inr h) =
    let rest : IsImage f xs y = image-among f xs y h in
    record { of = rest.of; among = inr rest.among; is = rest.is }

pub each_later-append :
    {X : Type 0} (R : X → X → Type 0) (xs ys : List X) → EachLater R xs → EachLater R ys
    → ((x y : X) → IsAmong x xs → IsAmong y ys → R x y) → EachLater R (xs ++ ys)
each_later-append R [] ys h g across = g
each_later-append R (x ∷ xs) ys (first, rest) g across = (
  λ y a. elim (among-append y xs ys a) [ inl here ↦ first y here | inr there ↦ across x y (inl refl) there ],
  each_later-append R xs ys rest g (λ z y a b. across z y (inr a) b),
)

pub each_later-map :
    {X Y : Type 0} (f : X → Y) (R : X → X → Type 0) (S : Y → Y → Type 0) (xs : List X)
    → EachLater R xs → ((x y : X) → IsAmong x xs → IsAmong y xs → R x y → S (f x) (f y))
    → EachLater S (map f xs)
each_later-map f R S [] h carries = tt
each_later-map f R S (x ∷ xs) (first, rest) carries = (
  λ y a.
      let image : IsImage f xs y = image-among f xs y a in
      subst (S (f x)) (sym image.is)
      (carries x image.of (inl refl) (inr image.among) (first image.of image.among)),
  each_later-map f R S xs rest (λ z y a b r. carries z y (inr a) (inr b) r),
)

-- what stands at a place is a member, and a member stands at a place
pub among_at : (es : List Event) (i : ℕ) (e : Event) → StandsAt es i e → IsAmong e es
among_at [] i e h = absurd (none-some e h)
among_at (x ∷ xs) zero e h = inl (sym (same_Some x e h))
among_at (x ∷ xs) (suc i) e h = inr (among_at xs i e h)

pub stands_somewhere : (es : List Event) (e : Event) → IsAmong e es → (i : ℕ) × StandsAt es i e
stands_somewhere [] e h = absurd h
stands_somewhere (x ∷ xs) e (inl h) = (zero, ap Some (sym h))
stands_somewhere (x ∷ xs) e (inr h) = let s = stands_somewhere xs e h in (suc s.0, s.1)

-- what holds of each and each later one holds at each place and each later one
pub at_later :
    (R : Event → Event → Type 0) (es : List Event) (i j : ℕ) (e f : Event) → EachLater R es → i < j
    → StandsAt es i e → StandsAt es j f → R e f
at_later R [] i j e f h l at to = absurd (none-some e at)
at_later R (x ∷ xs) zero zero e f h l at to = absurd (omega arith)
at_later R (x ∷ xs) zero (suc j) e f h l at to =
    subst (λ y. R y f) (same_Some x e at) (h.0 f (among_at xs j f to))
at_later R (x ∷ xs) (suc i) zero e f h l at to = absurd (omega arith)
at_later R (x ∷ xs) (suc i) (suc j) e f h l at to = at_later R xs i j e f h.1 (omega arith) at to

-- ---- turns

-- twice the number of the wave, and one more for a store
abbrev pub turn : (ℕ → ℕ) → Event → ℕ
turn number (Fetch p) = number p + number p
turn number (Store p) = suc (number p + number p)
turn number (Act p) = number p + number p

-- of two events, one after the other, the turn doesn't fall, and they differ
pub record Follows (number : ℕ → ℕ) (e f : Event) : Type 0 where
  pub rises : turn number e ≤ turn number f
  pub differ : e ≡ f → ⊥

-- the turn of an event by its wave
pub turn_bounds :
    (number : ℕ → ℕ) (e : Event)
    → (number (unit_of e) + number (unit_of e) ≤ turn number e)
    × (turn number e ≤ suc (number (unit_of e) + number (unit_of e)))
turn_bounds number (Fetch p) = (omega arith, omega arith)
turn_bounds number (Store p) = (omega arith, omega arith)
turn_bounds number (Act p) = (omega arith, omega arith)

module _ {Location : Type 0} {Held : Location → Type 0} {Outcome : Type 0} (d : Device Held Outcome) where
  -- the events of n units, in whose order the turns don't fall, are a permitted schedule
  pub permitted_by_turns :
      (before : ℕ → ℕ → Bool) (n : ℕ) (es : List Event) (number : ℕ → ℕ) → RisesAlong d before number n
      → EachLater (Follows number) es
      → ((e : Event) → IsAmong e es → IsEvent d n e) → ((e : Event) → IsEvent d n e → IsAmong e es)
      → IsPermitted d before n es
  permitted_by_turns before n es number rising later only all = record {
    schedule = record {
      only = λ i e at. only e (among_at es i e at);
      all = λ e is. stands_somewhere es e (all e is);
      once = λ i j e at to. elim (cases_order i j) [
        | inl same ↦ same
        | inr (inl less) ↦ absurd ((at_later (Follows number) es i j e e later less at to).differ refl)
        | inr (inr more) ↦ absurd ((at_later (Follows number) es j i e e later more to at).differ refl)
      ];
    };
    fetched_first = λ p i j at to. elim (cases_order i j) [
      | inl same ↦ absurd (fetch_no_store p (same_Some (Fetch p) (Store p) (sym at ∙ (ap (slice_get es) same ∙ to))))
      | inr (inl less) ↦ less
      | inr (inr more) ↦
          (let falls : turn number (Store p) ≤ turn number (Fetch p) =
          (at_later (Follows number) es j i (Store p) (Fetch p) later more to at).rises in
          absurd (omega arith))
    ];
    ordered = λ e f h i j at to.
        let below : unit_of e < n = within e (only e (among_at es i e at)) in
        let inside : unit_of f < n = within f (only f (among_at es j f to)) in
        let rises : number (unit_of e) < number (unit_of f) = rising (unit_of e) (unit_of f) below inside h in
        let first = turn_bounds number e in
        let second = turn_bounds number f in
        let upper : turn number e ≤ suc (number (unit_of e) + number (unit_of e)) = first.1 in
        let lower : number (unit_of f) + number (unit_of f) ≤ turn number f = second.0 in
        elim (cases_order i j) [
          | inl same ↦
              (let one : e ≡ f = same_Some e f (sym at ∙ (ap (slice_get es) same ∙ to)) in
              let equal : number (unit_of e) ≡ number (unit_of f) = ap (λ x. number (unit_of x)) one in
              absurd (omega arith))
          | inr (inl less) ↦ less
          | inr (inr more) ↦
              (let falls : turn number f ≤ turn number e = (at_later (Follows number) es j i f e later more to at).rises in
              absurd (omega arith))
        ];
  }
    where
      fetch_no_store : (p : ℕ) → Fetch p ≡ Store p → ⊥
      fetch_no_store p h = cc

      within : (e : Event) → IsEvent d n e → unit_of e < n
      within (Fetch p) h = h.0
      within (Store p) h = h.0
      within (Act p) h = h.0

  -- the beginning of a unit
  pub unit-begin : (p : ℕ) → unit_of (begin d p) ≡ p
  unit-begin p = elim (cases_Bool (d.is_host p)) [
    | inl host ↦ ap unit_of (cond-true (d.is_host p) (Act p) (Fetch p) host)
    | inr piece ↦ ap unit_of (cond-false (d.is_host p) (Act p) (Fetch p) piece)
  ]

  pub turn-begin : (number : ℕ → ℕ) (p : ℕ) → turn number (begin d p) ≡ number p + number p
  turn-begin number p = elim (cases_Bool (d.is_host p)) [
    | inl host ↦ ap (turn number) (cond-true (d.is_host p) (Act p) (Fetch p) host)
    | inr piece ↦ ap (turn number) (cond-false (d.is_host p) (Act p) (Fetch p) piece)
  ]

  pub begin-is_event : (n p : ℕ) → p < n → IsEvent d n (begin d p)
  begin-is_event n p h = elim (cases_Bool (d.is_host p)) [
    | inl host ↦ subst (IsEvent d n) (sym (cond-true (d.is_host p) (Act p) (Fetch p) host)) (h, host)
    | inr piece ↦ subst (IsEvent d n) (sym (cond-false (d.is_host p) (Act p) (Fetch p) piece)) (h, piece)
  ]

  -- the events of waves from number v on have a turn of 2 v or more, and are events of units
  pub record IsOfWaves (number : ℕ → ℕ) (n v : ℕ) (e : Event) : Type 0 where
    pub is_event : IsEvent d n e
    pub above : v + v ≤ turn number e

  pub of_begun :
      (number : ℕ → ℕ) (n v : ℕ) (wave : Wave) (e : Event) → IsWave d number n v wave
      → IsAmong e (map (begin d) wave.begun)
      → IsEvent d n e × (turn number e ≡ v + v)
  of_begun number n v wave e is h =
      let image : IsImage (begin d) wave.begun e = image-among (begin d) wave.begun e h in
      let unit = (is.begins image.of).0 image.among in (
        subst (IsEvent d n) (sym image.is) (begin-is_event n image.of unit.0),
        ap (turn number) image.is ∙ (turn-begin number image.of ∙ ap (λ k. k + k) unit.1),
      )

  pub of_stored :
      (number : ℕ → ℕ) (n v : ℕ) (wave : Wave) (e : Event) → IsWave d number n v wave
      → IsAmong e (map Store wave.stored)
      → IsEvent d n e × (turn number e ≡ suc (v + v))
  of_stored number n v wave e is h =
      let image : IsImage Store wave.stored e = image-among Store wave.stored e h in
      let unit = (is.stores image.of).0 image.among in (
        subst (IsEvent d n) (sym image.is) (unit.0, unit.2),
        ap (turn number) image.is ∙ ap (λ k. suc (k + k)) unit.1,
      )

  pub of_waves :
      (number : ℕ → ℕ) (n v : ℕ) (waves : List Wave) (e : Event) → AreWaves d number n v waves
      → IsAmong e (events_of d waves) → IsOfWaves number n v e
  of_waves number n v [] e are h = absurd h
  of_waves number n v (wave ∷ waves) e (is, rest) h =
      elim (among-append e (map (begin d) wave.begun) (map Store wave.stored ++ events_of d waves) h) [
        | inl begun ↦
            (let b = of_begun number n v wave e is begun in
            let t : turn number e ≡ v + v = b.1 in
            record { is_event = b.0; above = omega arith })
        | inr later ↦ elim (among-append e (map Store wave.stored) (events_of d waves) later) [
          | inl stored ↦
              (let s = of_stored number n v wave e is stored in
              let t : turn number e ≡ suc (v + v) = s.1 in
              record { is_event = s.0; above = omega arith })
          | inr other ↦
              (let o : IsOfWaves number n (suc v) e = of_waves number n (suc v) waves e rest other in
              let t : suc v + suc v ≤ turn number e = o.above in
              record { is_event = o.is_event; above = omega arith })
        ]
      ]

  -- two events of different turns follow one another
  follows_by :
      (number : ℕ → ℕ) (e f : Event) (a b : ℕ) → turn number e ≡ a → b ≤ turn number f → a < b → Follows number e f
  follows_by number e f a b at above less = record {
    rises = omega arith;
    differ = λ same. let t : turn number e ≡ turn number f = ap (turn number) same in absurd (omega arith);
  }

  waves_follow :
      (number : ℕ → ℕ) (n v : ℕ) (waves : List Wave) → AreWaves d number n v waves
      → EachLater (Follows number) (events_of d waves)
  waves_follow number n v [] are = tt
  waves_follow number n v (wave ∷ waves) (is, rest) =
      each_later-append (Follows number) (map (begin d) wave.begun) (map Store wave.stored ++ events_of d waves)
      (each_later-map (begin d) (λ p q. p ≡ q → ⊥) (Follows number) wave.begun is.begins_once
      (λ p q a b differ.
      let s : turn number (begin d p) ≡ v + v =
      turn-begin number p ∙ ap (λ k. k + k) ((is.begins p).0 a).1 in
      let t : turn number (begin d q) ≡ v + v =
      turn-begin number q ∙ ap (λ k. k + k) ((is.begins q).0 b).1 in
      record {
        rises = omega arith;
        differ = λ same. differ (sym (unit-begin p) ∙ (ap unit_of same ∙ unit-begin q));
      }))
      (each_later-append (Follows number) (map Store wave.stored) (events_of d waves)
      (each_later-map Store (λ p q. p ≡ q → ⊥) (Follows number) wave.stored is.stores_once
      (λ p q a b differ.
      let s : number p ≡ v = ((is.stores p).0 a).1 in
      let t : number q ≡ v = ((is.stores q).0 b).1 in
      record {
        rises = omega arith;
        differ = λ same. differ (ap unit_of same);
      }))
      (waves_follow number n (suc v) waves rest)
      (λ e f a b. follows_by number e f (suc (v + v)) (suc v + suc v) (of_stored number n v wave e is a).1
      (of_waves number n (suc v) waves f rest b).above (omega arith)))
      (λ e f a b. elim (among-append f (map Store wave.stored) (events_of d waves) b) [
        | inl stored ↦
            (let t : turn number f ≡ suc (v + v) = (of_stored number n v wave f is stored).1 in
            follows_by number e f (v + v) (suc (v + v)) (of_begun number n v wave e is a).1 (omega arith) (omega arith))
        | inr other ↦
            follows_by number e f (v + v) (suc v + suc v) (of_begun number n v wave e is a).1
            (of_waves number n (suc v) waves f rest other).above (omega arith)
      ])

  -- each unit that begins, or is stored, does so in its wave
  begins_there :
      (number : ℕ → ℕ) (n v : ℕ) (waves : List Wave) (p : ℕ) → AreWaves d number n v waves → p < n → v ≤ number p
      → IsAmong (begin d p) (events_of d waves)
  begins_there number n v [] p are h g = let l : number p < v = are p h in absurd (omega arith)
  begins_there number n v (wave ∷ waves) p (is, rest) h g =
      elim (cases_eq (number p) v) [
        | inl same ↦
            among-append_left (begin d p) (map (begin d) wave.begun) (map Store wave.stored ++ events_of d waves)
            (among-map (begin d) p wave.begun ((is.begins p).1 (h, same)))
        | inr differs ↦
            among-append_right (begin d p) (map (begin d) wave.begun) (map Store wave.stored ++ events_of d waves)
            (among-append_right (begin d p) (map Store wave.stored) (events_of d waves)
            (begins_there number n (suc v) waves p rest h (omega arith)))
      ]

  stored_there :
      (number : ℕ → ℕ) (n v : ℕ) (waves : List Wave) (p : ℕ) → AreWaves d number n v waves → p < n → v ≤ number p
      → d.is_host p ≡ false → IsAmong (Store p) (events_of d waves)
  stored_there number n v [] p are h g piece = let l : number p < v = are p h in absurd (omega arith)
  stored_there number n v (wave ∷ waves) p (is, rest) h g piece =
      elim (cases_eq (number p) v) [
        | inl same ↦
            among-append_right (Store p) (map (begin d) wave.begun) (map Store wave.stored ++ events_of d waves)
            (among-append_left (Store p) (map Store wave.stored) (events_of d waves)
            (among-map Store p wave.stored ((is.stores p).1 (h, same, piece))))
        | inr differs ↦
            among-append_right (Store p) (map (begin d) wave.begun) (map Store wave.stored ++ events_of d waves)
            (among-append_right (Store p) (map Store wave.stored) (events_of d waves)
            (stored_there number n (suc v) waves p rest h (omega arith) piece))
      ]

  all_there :
      (number : ℕ → ℕ) (n : ℕ) (waves : List Wave) → AreWaves d number n 0 waves
      → (e : Event) → IsEvent d n e → IsAmong e (events_of d waves)
  all_there number n waves are (Fetch p) h =
      subst (λ e. IsAmong e (events_of d waves)) (cond-false (d.is_host p) (Act p) (Fetch p) h.1)
      (begins_there number n 0 waves p are h.0 (omega arith))
  all_there number n waves are (Store p) h = stored_there number n 0 waves p are h.0 (omega arith) h.1
  all_there number n waves are (Act p) h =
      subst (λ e. IsAmong e (events_of d waves)) (cond-true (d.is_host p) (Act p) (Fetch p) h.1)
      (begins_there number n 0 waves p are h.0 (omega arith))

  pub waves_permitted :
      (before : ℕ → ℕ → Bool) (n : ℕ) (number : ℕ → ℕ) (waves : List Wave)
      → RisesAlong d before number n → AreWaves d number n 0 waves → IsPermitted d before n (events_of d waves)
  waves_permitted before n number waves rising are =
      permitted_by_turns before n (events_of d waves) number rising (waves_follow number n 0 waves are)
      (λ e h. (of_waves number n 0 waves e are h).is_event) (all_there number n waves are)

  -- units one by one are waves
  alone_is_wave : (n p : ℕ) → p < n → IsWave d (λ q. q) n p (alone d p)
  alone_is_wave n p h = record {
    begins = λ q. (
      λ a. elim a [ inl same ↦ (subst (λ r. r < n) (sym same) h, same) | inr none ↦ absurd none ],
      λ is. inl is.1,
    );
    begins_once = (λ q none. absurd none, tt);
    stores = λ q. elim (cases_Bool (d.is_host p)) [
      | inl host ↦
          (let empty : (alone d p).stored ≡ [] = cond-true (d.is_host p) [] (p ∷ []) host in (
            λ a. absurd (subst (IsAmong q) empty a),
            λ is. absurd (both_ways (d.is_host q) is.2 (ap d.is_host is.1 ∙ host)),
          ))
      | inr piece ↦
          (let one : (alone d p).stored ≡ p ∷ [] = cond-false (d.is_host p) [] (p ∷ []) piece in (
            λ a.
                let same : q ≡ p = only_one q (subst (IsAmong q) one a) in
                (subst (λ r. r < n) (sym same) h, same, ap d.is_host same ∙ piece),
            λ is. subst (IsAmong q) (sym one) (inl is.1),
          ))
    ];
    stores_once = elim (cases_Bool (d.is_host p)) [
      | inl host ↦ subst AreDistinct (sym (cond-true (d.is_host p) [] (p ∷ []) host)) tt
      | inr piece ↦ subst AreDistinct (sym (cond-false (d.is_host p) [] (p ∷ []) piece)) (λ q none. absurd none, tt)
    ];
  }
    where
      only_one : (q : ℕ) → IsAmong q (p ∷ []) → q ≡ p
      only_one q (inl same) = same
      only_one q (inr none) = absurd none

  alone_are_waves :
      (n m p : ℕ) → p + m ≡ n → AreWaves d (λ q. q) n p (map (alone d) (range_with_len p m))
  alone_are_waves n zero p h = λ q l. omega arith
  alone_are_waves n (suc m) p h = (
    alone_is_wave n p (omega arith),
    subst (λ k. AreWaves d (λ q. q) n (suc p) (map (alone d) (range_with_len k m))) (let e : suc p ≡ p + 1 = omega arith in e)
        (alone_are_waves n m (suc p) (omega arith)),
  )

  pub recording_order_permitted :
      (before : ℕ → ℕ → Bool) (n : ℕ) → RisesAlong d before (λ p. p) n
      → IsPermitted d before n (recording_order d n)
  recording_order_permitted before n forward =
      waves_permitted before n (λ p. p) (map (alone d) (range_with_len 0 n)) forward
      (alone_are_waves n n 0 (omega arith))
