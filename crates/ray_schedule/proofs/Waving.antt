-- A run in waves stays as in recording order, and comes upon the first fault of recording order.
use Rattle.std.proofs.Common.{◌≡◌, ◌<◌, ◌≤◌, ℕ, ◌+◌, zero, suc, Bool, true, false, List, [], ◌∷◌, refl, sym, ◌∙◌, ap, subst, arith, inl, inr, ◌⊎◌, ◌&&◌, ◌||◌}
use Rattle.std.specs.Prelude.{nat_lt, ◌==◌}
use Rattle.std.proofs.lemmas.Bool.{cases_lt, cases_eq, cases_order, cases_Bool, and_parts, and_from, or_cases, or_left, or_right, both_ways, false_from_ne_true, false≢true, eq-eqb, eqb-true, ltb-true, lt-ltb}
use Rattle.ray_schedule.specs.Units.{Device, Work, Memory, held_after, put, memory_before, is_faulty}
use Rattle.ray_schedule.specs.Conflicts.{Conflict, ReadAfterWrite, WriteAfterRead, WriteAfterWrite, IsLocal}
use Rattle.ray_schedule.specs.Waves.{IsAmong, AreDistinct}
use Rattle.ray_schedule.specs.Progress.{IsSound, AreRising, IsAfterWave, IsDoneTo, put_each}
use Rattle.ray_schedule.specs.Laws.{WavesBegin, WavesGoOn, WavesFetchTheSame, WavesFetchApart, WavesStoreApart, WavesEnd, WavesAreFree, WavesRise}
use Rattle.ray_schedule.proofs.Course.{MayFetch, MayStore, held_after-unwritten, sound_at_first, outcome_in_order, sound_after_store}

-- a test passes at some number below n, or at none
pub record IsPassing (test : ℕ → Bool) (n : ℕ) : Type 0 where
  pub at : ℕ
  pub below : at < n
  pub passes : test at ≡ true

pub some_below : (test : ℕ → Bool) (n : ℕ) → IsPassing test n ⊎ ((q : ℕ) → q < n → test q ≡ true → ⊥)
some_below test zero = inr (λ q l h. absurd (omega arith))
some_below test (suc n) =
    elim (cases_Bool (test n)) [
      | inl here ↦ inl (record { at = n; below = omega arith; passes = here })
      | inr none ↦ elim (some_below test n) [
        | inl s ↦ (let b : s.at < n = s.below in inl (record { at = s.at; below = omega arith; passes = s.passes }))
        | inr others ↦ inr (λ q l h. elim (cases_eq q n) [
          | inl same ↦ both_ways (test n) none (subst (λ k. test k ≡ true) same h)
          | inr differs ↦ others q (omega arith) h
        ])
      ]
    ]

module _ {Location : Type 0} {Held : Location → Type 0} {Outcome : Type 0} (work : Work Held Outcome) where
  -- a conflict is one both ways
  turned : (p q : ℕ) (l : Location) → Conflict work.device p q l → Conflict work.device q p l
  turned p q l (WriteAfterWrite x y) = WriteAfterWrite y x
  turned p q l (ReadAfterWrite x y) = WriteAfterRead y x
  turned p q l (WriteAfterRead x y) = ReadAfterWrite y x

  pub waves_are_free : WavesAreFree work
  waves_are_free number p q l rising below inside same differ conflict =
      elim (cases_order p q) [
        | inl equal ↦ differ equal
        | inr (inl less) ↦ (let r : number p < number q = rising p q l less inside conflict in absurd (omega arith))
        | inr (inr more) ↦
            (let r : number q < number p = rising q p l more below (turned p q l conflict) in absurd (omega arith))
      ]

  pub waves_rise : WavesRise work
  waves_rise number ordered along p q l less below conflict =
      along p q (omega arith) below (ordered p q l less below conflict)

module _ {Location : Type 0} {Held : Location → Type 0} {Outcome : Type 0} (work : Work Held Outcome) where
  pub waves_begin : WavesBegin work
  waves_begin number = record {
    stored = λ q. false;
    all = λ q l m. absurd (omega arith);
    only = λ q s. absurd (false≢true s);
    sound = sound_at_first work.device work.start (λ q. false ≡ true) (λ q s. false≢true s);
    within = omega arith;
    none_below = λ q l m. absurd (omega arith);
    here = λ l. absurd (omega arith);
  }

  -- a unit of the next wave may be fetched
  pub may_fetch_in_wave :
      (number : ℕ → ℕ) (v bound p : ℕ) (memory : Memory Held) → AreRising work.device number work.count
      → (done : IsDoneTo work number v bound memory) → p < bound → number p ≡ v
      → MayFetch work.device (λ q. done.stored q ≡ true) p
  may_fetch_in_wave number v bound p memory rising done below is =
      let within : bound ≤ work.count = done.within in
      record {
        earlier = λ l q r m w.
            let rises : number q < number p = rising q p l m (omega arith) (ReadAfterWrite w r) in
            done.all q (omega arith) (omega arith);
        later = λ l q r g w s.
            let of = done.only q s in
            let inside : q < work.count = of.0 in
            let before : number q < v = of.1 in
            elim (cases_eq q p) [
              | inl same ↦ (let e : number q ≡ number p = ap number same in absurd (omega arith))
              | inr differs ↦
                  (let rises : number p < number q = rising p q l (omega arith) inside (WriteAfterRead r w) in
                  absurd (omega arith))
            ];
      }

  -- and stored
  may_store_in_wave :
      (number : ℕ → ℕ) (v bound p : ℕ) (memory : Memory Held) → AreRising work.device number work.count
      → (done : IsDoneTo work number v bound memory) → number p ≡ v
      → MayStore work.device (λ q. done.stored q ≡ true) p
  may_store_in_wave number v bound p memory rising done is = record {
    fresh = λ s. let before : number p < v = (done.only p s).1 in absurd (omega arith);
    over = λ l q w m x s.
        let of = done.only q s in
        let before : number q < v = of.1 in
        let rises : number p < number q = rising p q l m of.0 (WriteAfterWrite w x) in
        absurd (omega arith);
  }

  pub waves_fetch_the_same : IsLocal work.device → WavesFetchTheSame work
  waves_fetch_the_same local number v bound memory rising done p below is =
      outcome_in_order work.device work.start (λ q. done.stored q ≡ true) memory p local done.sound
      (may_fetch_in_wave number v bound p memory rising done below is)

  -- the units that are stored after one wave more
  abbrev stored_after : (ℕ → Bool) → (ℕ → ℕ) → ℕ → ℕ → ℕ → Bool
  stored_after stored number v bound q = stored q || (nat_lt q bound && number q == v)

  sound_after_wave :
      (number : ℕ → ℕ) (v bound new : ℕ) (memory after : Memory Held) → IsLocal work.device → AreRising work.device number work.count
      → (done : IsDoneTo work number v bound memory) → new ≤ bound
      → IsAfterWave work.device number v new memory after
      → IsSound work.device work.start (λ q. stored_after done.stored number v new q ≡ true) after
  sound_after_wave number v bound new memory after local rising done upto wave l k earlier later =
      elim (some_below (λ q. (nat_lt q new && number q == v) && work.device.writes q l) new) [
        | inl some ↦ written some
        | inr none ↦
            wave.same l (λ p m is w. none p m
            (and_from (nat_lt p new && number p == v) (work.device.writes p l)
            (and_from (nat_lt p new) (number p == v) (lt-ltb p new m) (eq-eqb (number p) v is)) w))
            ∙ done.sound l k
            (λ q m w. elim (or_cases (done.stored q) (nat_lt q new && number q == v) (earlier q m w)) [
              | inl s ↦ s
              | inr t ↦ absurd (none q (ltb-true q new (and_parts (nat_lt q new) (number q == v) t).0)
                  (and_from (nat_lt q new && number q == v) (work.device.writes q l) t w))
            ])
            (λ q g w s. later q g w (or_left (done.stored q) (nat_lt q new && number q == v) s))
      ]
    where
      within : bound ≤ work.count
      within = done.within

      written :
          IsPassing (λ q. (nat_lt q new && number q == v) && work.device.writes q l) new
          → after l ≡ memory_before work.device work.start k l
      written some =
          let p : ℕ = some.at in
          let parts = and_parts (nat_lt some.at new && number some.at == v) (work.device.writes some.at l) some.passes in
          let is : number some.at ≡ v = eqb-true (number some.at) v (and_parts (nat_lt some.at new) (number some.at == v) parts.0).1 in
          let below : some.at < new = some.below in
          let inside : bound ≤ work.count = within in
          wave.changed some.at l some.below is parts.1
          ∙ (ap (λ o. put work.device some.at o memory l)
          (waves_fetch_the_same local number v bound memory rising done some.at (omega arith) is)
          ∙ sound_after_store work.device work.start (λ q. done.stored q ≡ true) (λ q. (q ≡ some.at) ⊎ (done.stored q ≡ true)) memory some.at
          done.sound (may_store_in_wave number v bound some.at memory rising done is)
          (λ q a. a) (λ q a. a) l k
          (λ q m w. elim (or_cases (done.stored q) (nat_lt q new && number q == v) (earlier q m w)) [
            | inl s ↦ inr s
            | inr t ↦ elim (cases_eq q some.at) [
              | inl same ↦ inl same
              | inr differs ↦
                  (let other = and_parts (nat_lt q new) (number q == v) t in
                  let less : q < new = ltb-true q new other.0 in
                  absurd (waves_are_free work number q some.at l rising (omega arith) (omega arith)
                  (eqb-true (number q) v other.1 ∙ sym is) differs (WriteAfterWrite w parts.1)))
            ]
          ])
          (λ q g w a. later q g w (elim a [
            | inl same ↦
                or_right (done.stored q) (nat_lt q new && number q == v)
                (and_from (nat_lt q new) (number q == v)
                (lt-ltb q new (subst (λ r. r < new) (sym same) some.below))
                (eq-eqb (number q) v (ap number same ∙ is)))
            | inr s ↦ or_left (done.stored q) (nat_lt q new && number q == v) s
          ])))

  pub waves_go_on : IsLocal work.device → WavesGoOn work
  waves_go_on local number v bound new memory after rising done found wave =
      let upto : new ≤ bound = found.within in
      let within : bound ≤ work.count = done.within in
      record {
        stored = stored_after done.stored number v new;
        all = λ q l m. elim (cases_eq (number q) v) [
          | inl same ↦
              or_right (done.stored q) (nat_lt q new && number q == v)
              (and_from (nat_lt q new) (number q == v) (lt-ltb q new l) (eq-eqb (number q) v same))
          | inr differs ↦
              or_left (done.stored q) (nat_lt q new && number q == v) (done.all q (omega arith) (omega arith))
        ];
        only = λ q s. elim (or_cases (done.stored q) (nat_lt q new && number q == v) s) [
          | inl t ↦
              (let of = done.only q t in
              let before : number q < v = of.1 in
              (of.0, let b : number q < v + 1 = omega arith in b))
          | inr t ↦
              (let parts = and_parts (nat_lt q new) (number q == v) t in
              let less : q < new = ltb-true q new parts.0 in
              let is : number q ≡ v = eqb-true (number q) v parts.1 in
              (let b : q < work.count = omega arith in b, let b : number q < v + 1 = omega arith in b))
        ];
        sound = sound_after_wave number v bound new memory after local rising done found.within wave;
        within = omega arith;
        none_below = λ q l m. elim (cases_eq (number q) v) [
          | inl same ↦
              ap work.device.is_fault (sym (waves_fetch_the_same local number v bound memory rising done q (omega arith) same))
              ∙ found.none_below q l same
          | inr differs ↦ done.none_below q (omega arith) (omega arith)
        ];
        here = λ l. elim (cases_lt new bound) [
          | inl less ↦
              ap work.device.is_fault (sym (waves_fetch_the_same local number v bound memory rising done new less (found.in_wave less)))
              ∙ found.here less
          | inr more ↦
              (let same : new ≡ bound = omega arith in
              subst (λ b. is_faulty work.device work.start b ≡ true) (sym same) (done.here (omega arith)))
        ];
      }

  pub waves_end : WavesEnd work
  waves_end number v bound memory past done =
      let within : bound ≤ work.count = done.within in (
        record {
          within = done.within;
          none_below = λ q l. done.none_below q l (past q (omega arith));
          here = done.here;
        },
        λ all l. done.sound l work.count
            (λ q m w. done.all q (omega arith) (past q m))
            (λ q g w s. let inside : q < work.count = (done.only q s).0 in absurd (omega arith)),
      )

module _ {Location : Type 0} {Held : Location → Type 0} {Outcome : Type 0} (d : Device Held Outcome) where
  -- what none of some units writes stays when they are stored
  put_each-unwritten :
      (outcomes : ℕ → Outcome) (ps : List ℕ) (memory : Memory Held) (l : Location)
      → ((p : ℕ) → IsAmong p ps → d.writes p l ≡ true → ⊥)
      → put_each d outcomes ps memory l ≡ memory l
  put_each-unwritten outcomes [] memory l none = refl
  put_each-unwritten outcomes (q ∷ qs) memory l none =
      put_each-unwritten outcomes qs (put d q (outcomes q) memory) l (λ p a w. none p (inr a) w)
      ∙ held_after-unwritten d q (outcomes q) l (memory l)
      (false_from_ne_true (d.writes q l) (λ w. none q (inl refl) w))

  -- what one of them alone writes changes as it would by this one
  put_each-written :
      (outcomes : ℕ → Outcome) (ps : List ℕ) (memory : Memory Held) (p : ℕ) (l : Location)
      → AreDistinct ps → IsAmong p ps
      → ((q : ℕ) → IsAmong q ps → (q ≡ p → ⊥) → d.writes q l ≡ true → ⊥)
      → put_each d outcomes ps memory l ≡ put d p (outcomes p) memory l
  put_each-written outcomes [] memory p l distinct among alone = absurd among
  put_each-written outcomes (q ∷ qs) memory p l (first, rest) (inl same) alone =
      put_each-unwritten outcomes qs (put d q (outcomes q) memory) l
      (λ r a w. alone r (inr a) (λ e. first r a (sym same ∙ sym e)) w)
      ∙ ap (λ r. put d r (outcomes r) memory l) (sym same)
  put_each-written outcomes (q ∷ qs) memory p l (first, rest) (inr later) alone =
      put_each-written outcomes qs (put d q (outcomes q) memory) p l rest later (λ r a e w. alone r (inr a) e w)
      ∙ ap (held_after d p (outcomes p) l)
      (held_after-unwritten d q (outcomes q) l (memory l)
      (false_from_ne_true (d.writes q l) (λ w. alone q (inl refl) (λ e. first p later e) w)))

module _ {Location : Type 0} {Held : Location → Type 0} {Outcome : Type 0} (work : Work Held Outcome) where
  pub waves_fetch_apart : IsLocal work.device → WavesFetchApart work
  waves_fetch_apart local number p q outcome memory rising below inside same differ =
      local p (put work.device q outcome memory) memory (λ l r.
      held_after-unwritten work.device q outcome l (memory l)
      (false_from_ne_true (work.device.writes q l) (λ w.
      waves_are_free work number p q l rising below inside same differ (WriteAfterRead r w))))

  pub waves_store_apart : WavesStoreApart work
  waves_store_apart number v bound memory ps rising upto distinct are = record {
    changed = λ p l below is w.
        put_each-written work.device (λ q. work.device.outcome q memory) ps memory p l distinct ((are p).1 (below, is))
        (λ q a differ x.
        let of = (are q).0 a in
        let inside : q < bound = of.0 in
        waves_are_free work number q p l rising (omega arith) (omega arith) (of.1 ∙ sym is) differ
        (WriteAfterWrite x w));
    same = λ l none.
        put_each-unwritten work.device (λ q. work.device.outcome q memory) ps memory l (λ q a w.
        let of = (are q).0 a in none q of.0 of.1 w);
  }
