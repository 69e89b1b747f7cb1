-- What was done in turn is on course, whatever else is done.
use Rattle.std.proofs.Common.{◌≡◌, ◌<◌, ℕ, true, false, List, [], ◌∷◌, Some, refl, sym, subst, arith, inl, inr, ◌⊎◌}
use Rattle.std.specs.Prelude.{◌==◌}
use Rattle.std.proofs.lemmas.Bool.{cases_eq, cond-true, both_ways, eq-eqb, eqb-true, false≢true, or_cases, or_left, or_right}
use Rattle.ray_schedule.specs.Units.{Work, outcome_at}
use Rattle.ray_schedule.specs.Conflicts.{IsLocal}
use Rattle.ray_schedule.specs.Events.{Event, Fetch, Store, Act}
use Rattle.ray_schedule.specs.InTurn.{is_fetched, is_stored, moment_of, AreInTurn, IsOutput, MayAsk}
use Rattle.ray_schedule.proofs.Course.{IsOnCourse, MayFetch, MayStore, on_course_after_fetch, on_course_after_store, sound_at_first}

module _ {Location : Type 0} {Held : Location → Type 0} {Outcome : Type 0} (work : Work Held Outcome) where
  -- what is so after events in turn
  pub record IsCourse (es : List Event) : Type 0 where
    pub on : IsOnCourse work.device work.start (λ q. is_fetched es q ≡ true) (λ q. is_stored es q ≡ true) (moment_of work es)
    pub were_fetched : (q : ℕ) → is_stored es q ≡ true → is_fetched es q ≡ true
    pub closed :
        (q r : ℕ) (l : Location) → q < r → is_fetched es r ≡ true → work.device.writes q l ≡ true
        → (work.device.reads r l ≡ true) ⊎ (work.device.writes r l ≡ true) → is_stored es q ≡ true
    pub gave : (q : ℕ) → is_stored es q ≡ true → work.device.is_fault (outcome_at work.device work.start q) ≡ false

  -- a unit that may be asked for may be fetched
  pub may_fetch_asked : (es : List Event) (p : ℕ) → MayAsk work es p → MayFetch work.device (λ q. is_stored es q ≡ true) p
  may_fetch_asked es p may = record {
    earlier = λ l q r m w. may.earlier q l m w (inl r);
    later = λ l q r g w s. elim (cases_eq q p) [
      | inl same ↦ both_ways (is_stored es p) may.fresh (subst (λ k. is_stored es k ≡ true) same s)
      | inr differs ↦ both_ways (is_stored es q) (may.later q l (omega (arith, g, differs)) w r) s
    ];
  }

  fetched : (es : List Event) (p : ℕ) → IsLocal work.device → MayAsk work es p → IsCourse es → IsCourse (Fetch p ∷ es)
  fetched es p local may course = record {
    on = on_course_after_fetch work.device work.start (λ q. is_fetched es q ≡ true) (λ q. is_fetched (Fetch p ∷ es) q ≡ true)
        (λ q. is_stored es q ≡ true) (moment_of work es) p local course.on (may_fetch_asked es p may)
        (λ q f. elim (or_cases (q == p) (is_fetched es q) f) [ inl s ↦ inl (eqb-true q p s) | inr s ↦ inr s ]);
    were_fetched = λ q s. or_right (q == p) (is_fetched es q) (course.were_fetched q s);
    closed = λ q r l m f w t. elim (or_cases (r == p) (is_fetched es r) f) [
      | inl s ↦
          (let same : r ≡ p = eqb-true r p s in
          may.earlier q l (omega (arith, m, same)) w
          (subst (λ k. (work.device.reads k l ≡ true) ⊎ (work.device.writes k l ≡ true)) same t))
      | inr s ↦ course.closed q r l m s w t
    ];
    gave = course.gave;
  }

  stored :
      (es : List Event) (p : ℕ) → is_fetched es p ≡ true → is_stored es p ≡ false → IsOutput work ((moment_of work es).kept p)
      → IsCourse es → IsCourse (Store p ∷ es)
  stored es p there fresh output course = record {
    on = on_course_after_store work.device work.start (λ q. is_fetched es q ≡ true) (λ q. is_stored es q ≡ true)
        (λ q. is_stored (Store p ∷ es) q ≡ true) (moment_of work es) p course.on there may_store
        (λ q s. elim (or_cases (q == p) (is_stored es q) s) [ inl e ↦ inl (eqb-true q p e) | inr t ↦ inr t ])
        (λ q s. elim s [ inl same ↦ or_left (q == p) (is_stored es q) (eq-eqb q p same) | inr t ↦ or_right (q == p) (is_stored es q) t ]);
    were_fetched = λ q s. elim (or_cases (q == p) (is_stored es q) s) [
      | inl e ↦ subst (λ k. is_fetched es k ≡ true) (sym (eqb-true q p e)) there
      | inr t ↦ course.were_fetched q t
    ];
    closed = λ q r l m f w t. or_right (q == p) (is_stored es q) (course.closed q r l m f w t);
    gave = λ q s. elim (or_cases (q == p) (is_stored es q) s) [
      | inl e ↦ subst (λ k. work.device.is_fault (outcome_at work.device work.start k) ≡ false) (sym (eqb-true q p e)) here
      | inr t ↦ course.gave q t
    ];
  }
    where
      may_store : MayStore work.device (λ q. is_stored es q ≡ true) p
      may_store = record {
        fresh = λ s. both_ways (is_stored es p) fresh s;
        over = λ l q w m x s. both_ways (is_stored es p) fresh (course.closed p q l m (course.were_fetched q s) w (inr x));
      }

      here : work.device.is_fault (outcome_at work.device work.start p) ≡ false
      here = subst (IsOutput work) (course.on.kept p there) output

  pub in_turn : IsLocal work.device → (es : List Event) → AreInTurn work es → IsCourse es
  in_turn local [] done = record {
    on = record {
      kept = λ q f. absurd (false≢true f);
      sound = sound_at_first work.device work.start (λ q. false ≡ true) (λ q s. false≢true s);
    };
    were_fetched = λ q s. absurd (false≢true s);
    closed = λ q r l m f w t. absurd (false≢true f);
    gave = λ q s. absurd (false≢true s);
  }
  in_turn local (Fetch p ∷ es) done = fetched es p local done.0 (in_turn local es done.1)
  in_turn local (Store p ∷ es) done = stored es p done.0.0 done.0.1 done.0.2 (in_turn local es done.1)
  in_turn local (Act p ∷ es) done =
      let m = moment_of work es in
      let course =
      stored (Fetch p ∷ es) p (or_left (p == p) (is_fetched es p) (eq-eqb p p refl)) done.0.0.fresh
      (subst (IsOutput work) (sym (cond-true (p == p) (Some (work.device.outcome p m.memory)) (m.kept p) (eq-eqb p p refl))) done.0.1)
      (fetched es p local done.0.0 (in_turn local es done.1)) in
      record { on = course.on; were_fetched = course.were_fetched; closed = course.closed; gave = course.gave }
