-- A fetch and a store that may happen keep a run on course.
use Rattle.std.proofs.Common.{◌≡◌, ◌<◌, ◌≤◌, ℕ, zero, suc, true, false, refl, sym, ◌∙◌, ap, subst, arith, inl, inr, ◌⊎◌, ◌&&◌, not}
use Rattle.std.specs.Prelude.{Some, ◌==◌}
use Rattle.std.proofs.lemmas.Bool.{cases_lt, cases_eq, cases_Bool, cond-true, cond-false, eq-eqb, ne_eqb, and_right, both_ways, false_from_ne_true}
use Rattle.ray_schedule.specs.Units.{Device, Memory, held_after, put, memory_before, outcome_at}
use Rattle.ray_schedule.specs.Events.{Moment, after_fetch, after_store, put_kept}
use Rattle.ray_schedule.specs.Conflicts.{IsLocal}
use Rattle.ray_schedule.specs.Progress.{IsSound}

module _ {Location : Type 0} {Held : Location → Type 0} {Outcome : Type 0} (d : Device Held Outcome) (start : Memory Held) where
  -- a moment at which some units are fetched and some stored: what is kept is as in recording order
  pub record IsOnCourse (Fetched Stored : ℕ → Type 0) (moment : Moment Held Outcome) : Type 0 where
    pub kept : (p : ℕ) → Fetched p → moment.kept p ≡ Some (outcome_at d start p)
    pub sound : IsSound d start Stored moment.memory

module _ {Location : Type 0} {Held : Location → Type 0} {Outcome : Type 0} (d : Device Held Outcome) where
  -- a unit may be fetched: of the units that write what it reads, the earlier ones are stored and the
  -- later ones, and itself, are not
  pub record MayFetch (Stored : ℕ → Type 0) (p : ℕ) : Type 0 where
    pub earlier : (l : Location) (q : ℕ) → d.reads p l ≡ true → q < p → d.writes q l ≡ true → Stored q
    pub later : (l : Location) (q : ℕ) → d.reads p l ≡ true → p ≤ q → d.writes q l ≡ true → Stored q → ⊥

  -- a unit may be stored: it isn't yet, and of the later units that write what it writes none is
  pub record MayStore (Stored : ℕ → Type 0) (p : ℕ) : Type 0 where
    pub fresh : Stored p → ⊥
    pub over : (l : Location) (q : ℕ) → d.writes p l ≡ true → p < q → d.writes q l ≡ true → Stored q → ⊥

module _ {Location : Type 0} {Held : Location → Type 0} {Outcome : Type 0} (d : Device Held Outcome) where
  -- what a unit doesn't write stays
  pub held_after-unwritten :
      (p : ℕ) (outcome : Outcome) (l : Location) (old : Held l) → d.writes p l ≡ false
      → held_after d p outcome l old ≡ old
  held_after-unwritten p outcome l old h =
      cond-false (not (d.is_fault outcome) && d.writes p l) (d.stored p outcome l old) old
      (and_right (not (d.is_fault outcome)) (d.writes p l) h)

  -- between two numbers a location stays that no unit between writes
  pub memory_before-unwritten :
      (start : Memory Held) (l : Location) (a k : ℕ) → a ≤ k
      → ((q : ℕ) → a ≤ q → q < k → d.writes q l ≡ true → ⊥)
      → memory_before d start k l ≡ memory_before d start a l
  memory_before-unwritten start l a zero h none =
      let e : zero ≡ a = omega arith in ap (λ k. memory_before d start k l) e
  memory_before-unwritten start l a (suc k) h none =
      elim (cases_lt k a) [
        | inl less ↦ (let e : suc k ≡ a = omega arith in ap (λ n. memory_before d start n l) e)
        | inr upto ↦
            held_after-unwritten k (outcome_at d start k) l (memory_before d start k l)
            (false_from_ne_true (d.writes k l) (λ w. none k upto (omega arith) w))
            ∙ memory_before-unwritten start l a k upto (λ q g m w. none q g (omega arith) w)
      ]

module _ {Location : Type 0} {Held : Location → Type 0} {Outcome : Type 0} (d : Device Held Outcome) (start : Memory Held) where
  -- at first nothing is stored
  pub sound_at_first : (Stored : ℕ → Type 0) → ((q : ℕ) → Stored q → ⊥) → IsSound d start Stored start
  sound_at_first Stored none l k before after =
      sym (memory_before-unwritten d start l 0 k (omega arith) (λ q g m w. none q (before q m w)))

  -- the same of other words for the units that are stored
  pub sound_with :
      (Stored Also : ℕ → Type 0) (memory : Memory Held)
      → ((q : ℕ) → Stored q → Also q) → ((q : ℕ) → Also q → Stored q)
      → IsSound d start Stored memory → IsSound d start Also memory
  sound_with Stored Also memory there back sound l k before after =
      sound l k (λ q m w. back q (before q m w)) (λ q g w s. after q g w (there q s))

  -- what a unit reads is, where it may be fetched, as in recording order
  pub reads_in_order :
      (Stored : ℕ → Type 0) (memory : Memory Held) (p : ℕ)
      → IsSound d start Stored memory → MayFetch d Stored p
      → (l : Location) → d.reads p l ≡ true → memory l ≡ memory_before d start p l
  reads_in_order Stored memory p sound may l r =
      sound l p (λ q m w. may.earlier l q r m w) (λ q g w s. may.later l q r g w s)

  -- and so is its outcome
  pub outcome_in_order :
      (Stored : ℕ → Type 0) (memory : Memory Held) (p : ℕ)
      → IsLocal d → IsSound d start Stored memory → MayFetch d Stored p
      → d.outcome p memory ≡ outcome_at d start p
  outcome_in_order Stored memory p local sound may =
      local p memory (memory_before d start p) (reads_in_order Stored memory p sound may)

  -- a unit's outcome is stored where it may be
  pub sound_after_store :
      (Stored Also : ℕ → Type 0) (memory : Memory Held) (p : ℕ)
      → IsSound d start Stored memory → MayStore d Stored p
      → ((q : ℕ) → Also q → (q ≡ p) ⊎ Stored q) → ((q : ℕ) → (q ≡ p) ⊎ Stored q → Also q)
      → IsSound d start Also (put d p (outcome_at d start p) memory)
  sound_after_store Stored Also memory p sound may less more l k before after =
      elim (cases_Bool (d.writes p l)) [ inl w ↦ written w | inr n ↦ unwritten n ]
    where
      apart : (q : ℕ) → (q ≡ p → ⊥) → Also q → Stored q
      apart q differs a = elim (less q a) [ inl e ↦ absurd (differs e) | inr s ↦ s ]

      unwritten : d.writes p l ≡ false → put d p (outcome_at d start p) memory l ≡ memory_before d start k l
      unwritten n =
          held_after-unwritten d p (outcome_at d start p) l (memory l) n
          ∙ sound l k
          (λ q m w. apart q (λ e. both_ways (d.writes p l) n (subst (λ r. d.writes r l ≡ true) e w)) (before q m w))
          (λ q g w s. after q g w (more q (inr s)))

      written : d.writes p l ≡ true → put d p (outcome_at d start p) memory l ≡ memory_before d start k l
      written w =
          let below : p < k = elim (cases_lt p k) [ inl m ↦ m | inr g ↦ absurd (after p g w (more p (inl refl))) ] in
          let old : memory l ≡ memory_before d start p l =
          sound l p
          (λ q m x. apart q (λ e. omega arith) (before q (omega arith) x))
          (λ q g x s. elim (cases_lt p q) [
            | inl m ↦ may.over l q w m x s
            | inr u ↦ (let e : q ≡ p = omega arith in may.fresh (subst Stored e s))
          ])
          in
          ap (held_after d p (outcome_at d start p) l) old
          ∙ sym (memory_before-unwritten d start l (suc p) k (omega arith) (λ q g m x.
          may.over l q w (omega arith) x (apart q (λ e. omega arith) (before q m x))))

  -- a fetch of a unit that may be fetched keeps a run on course
  pub on_course_after_fetch :
      (Fetched Also Stored : ℕ → Type 0) (moment : Moment Held Outcome) (p : ℕ)
      → IsLocal d → IsOnCourse d start Fetched Stored moment → MayFetch d Stored p
      → ((q : ℕ) → Also q → (q ≡ p) ⊎ Fetched q)
      → IsOnCourse d start Also Stored (after_fetch d p moment)
  on_course_after_fetch Fetched Also Stored moment p local course may less = record {
    kept = λ q a. elim (cases_eq q p) [
      | inl same ↦
          cond-true (q == p) (Some (d.outcome p moment.memory)) (moment.kept q) (eq-eqb q p same)
          ∙ (ap Some (outcome_in_order Stored moment.memory p local course.sound may)
          ∙ ap (λ r. Some (outcome_at d start r)) (sym same))
      | inr differs ↦
          cond-false (q == p) (Some (d.outcome p moment.memory)) (moment.kept q) (ne_eqb q p differs)
          ∙ course.kept q (elim (less q a) [ inl e ↦ absurd (differs e) | inr f ↦ f ])
    ];
    sound = course.sound;
  }

  -- and so does a store of a unit that is fetched and may be stored
  pub on_course_after_store :
      (Fetched Stored Also : ℕ → Type 0) (moment : Moment Held Outcome) (p : ℕ)
      → IsOnCourse d start Fetched Stored moment → Fetched p → MayStore d Stored p
      → ((q : ℕ) → Also q → (q ≡ p) ⊎ Stored q) → ((q : ℕ) → (q ≡ p) ⊎ Stored q → Also q)
      → IsOnCourse d start Fetched Also (after_store d p moment)
  on_course_after_store Fetched Stored Also moment p course fetched may less more = record {
    kept = course.kept;
    sound = λ l k before after.
        ap (λ o. put_kept d p o moment.memory l) (course.kept p fetched)
        ∙ sound_after_store Stored Also moment.memory p course.sound may less more l k before after;
  }
