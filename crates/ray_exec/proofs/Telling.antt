-- The texts of waves, in recording order; and what outcomes come to.
use Rattle.std.proofs.Common.{ℕ, zero, suc, ◌≡◌, ◌<◌, ◌≤◌, ◌+◌, ◌++◌, inl, inr, Bool, true, false, List, [], ◌∷◌, length, filter, flat_map, Some, refl, ap, sym, subst, ◌∙◌, arith, append_assoc, append-nil, cond}
use Rattle.std.specs.Prelude.{◌==◌, nat_lt}
use Rattle.std.specs.List.{range_with_len}
use Rattle.std.proofs.lemmas.Bool.{cases_Bool, cases_lt, cases_eq, cond-true, cond-false, eq-eqb, ne_eqb, ltb-true, lt-ltb, le-ltb, false_from_ne_true}
use Rattle.ray_schedule.specs.Waves.{EachLater, IsAmong}
use Rattle.ray_action.specs.Outcomes.{Fault, Outcome, Gives, Breaks, Undefined}
use Rattle.ray_action.specs.Pieces.{Numbered}
use Rattle.ray_action.specs.Running.{Run, Text, Refused, action_at, number_at, refusal_by, text_with, then_run, with_text}
use Rattle.ray_ready.specs.Laws.{IsGiven}
use Rattle.ray_permitted.specs.Along.{run_kept}
use Rattle.ray_exec.proofs.Lists.{among-filter}

-- ---- the texts of one wave more

-- the texts of numbers that all have none
no_texts : (t : ℕ → List ℕ) (ps : List ℕ) → ((p : ℕ) → IsAmong p ps → t p ≡ []) → flat_map t ps ≡ []
no_texts t [] none = refl
no_texts t (p ∷ ps) none = ap (λ x. x ++ flat_map t ps) (none p (inl refl)) ∙ no_texts t ps (λ q a. none q (inr a))

-- of a list that rises, only some numbers have texts, and their waves rise
pub record HaveTexts (t : ℕ → List ℕ) (wave : ℕ → ℕ) (has : ℕ → Bool) (ps : List ℕ) : Type 0 where
  pub silent : (p : ℕ) → IsAmong p ps → has p ≡ false → t p ≡ []
  pub rise : EachLater (λ p q. has p ≡ true → has q ≡ true → wave p ≤ wave q) ps

later_texts : (t : ℕ → List ℕ) (wave : ℕ → ℕ) (has : ℕ → Bool) (p : ℕ) (ps : List ℕ) → HaveTexts t wave has (p ∷ ps) → HaveTexts t wave has ps
later_texts t wave has p ps have = record { silent = λ q a. have.silent q (inr a); rise = have.rise.1 }

-- the text of the first goes before that of the lesser waves behind it: one of the two is empty
in_front : (t : ℕ → List ℕ) (wave : ℕ → ℕ) (has : ℕ → Bool) (p : ℕ) (ps : List ℕ) → HaveTexts t wave has (p ∷ ps)
    → t p ++ flat_map t (filter (λ q. nat_lt (wave q) (wave p)) ps) ≡ flat_map t (filter (λ q. nat_lt (wave q) (wave p)) ps) ++ t p
in_front t wave has p ps have = elim (cases_Bool (has p)) [
  | inr none ↦
      (let empty = have.silent p (inl refl) none in
      ap (λ x. x ++ flat_map t (filter (λ q. nat_lt (wave q) (wave p)) ps)) empty
      ∙ (sym (append-nil (flat_map t (filter (λ q. nat_lt (wave q) (wave p)) ps)))
      ∙ ap (λ x. flat_map t (filter (λ q. nat_lt (wave q) (wave p)) ps) ++ x) (sym empty)))
  | inl some ↦
      (let empty : flat_map t (filter (λ q. nat_lt (wave q) (wave p)) ps) ≡ [] =
      no_texts t (filter (λ q. nat_lt (wave q) (wave p)) ps) (λ q a.
      let f = among-filter (λ r. nat_lt (wave r) (wave p)) q ps a in
      have.silent q (inr f.0) (false_from_ne_true (has q) (λ h.
      let upto : wave p ≤ wave q = have.rise.0 q f.0 some h in
      let less : wave q < wave p = ltb-true (wave q) (wave p) f.1 in omega (arith, upto, less)))) in
      ap (λ x. t p ++ x) empty ∙ (append-nil (t p) ∙ ap (λ x. x ++ t p) (sym empty)))
]

with_first : (t : ℕ → List ℕ) (b : Bool) (p : ℕ) (ps : List ℕ) → b ≡ true → flat_map t (cond b (p ∷ ps) ps) ≡ t p ++ flat_map t ps
with_first t b p ps e = ap (flat_map t) (cond-true b (p ∷ ps) ps e)

without_first : (t : ℕ → List ℕ) (b : Bool) (p : ℕ) (ps : List ℕ) → b ≡ false → flat_map t (cond b (p ∷ ps) ps) ≡ flat_map t ps
without_first t b p ps e = ap (flat_map t) (cond-false b (p ∷ ps) ps e)

pub texts_more : (t : ℕ → List ℕ) (wave : ℕ → ℕ) (has : ℕ → Bool) (v : ℕ) (ps : List ℕ) → HaveTexts t wave has ps
    → flat_map t (filter (λ p. nat_lt (wave p) (v + 1)) ps)
    ≡ flat_map t (filter (λ p. nat_lt (wave p) v) ps) ++ flat_map t (filter (λ p. wave p == v) ps)
texts_more t wave has v [] have = refl
texts_more t wave has v (p ∷ ps) have =
    let less : List ℕ = filter (λ q. nat_lt (wave q) v) ps in
    let here : List ℕ = filter (λ q. wave q == v) ps in
    let upto : List ℕ = filter (λ q. nat_lt (wave q) (v + 1)) ps in
    let rest : flat_map t upto ≡ flat_map t less ++ flat_map t here = texts_more t wave has v ps (later_texts t wave has p ps have) in
    elim (cases_lt (wave p) v) [
      | inl l ↦
          with_first t (nat_lt (wave p) (v + 1)) p upto (lt-ltb (wave p) (v + 1) (omega (arith, l)))
          ∙ (ap (λ x. t p ++ x) rest
          ∙ (sym (append_assoc (t p) (flat_map t less) (flat_map t here))
          ∙ (ap (λ x. x ++ flat_map t here) (sym (with_first t (nat_lt (wave p) v) p less (lt-ltb (wave p) v l)))
          ∙ ap (λ x. flat_map t (cond (nat_lt (wave p) v) (p ∷ less) less) ++ x)
          (sym (without_first t (wave p == v) p here (ne_eqb (wave p) v (λ e. omega (arith, l, e))))))))
      | inr g ↦ elim (cases_eq (wave p) v) [
        | inl same ↦
            (let turned : t p ++ flat_map t less ≡ flat_map t less ++ t p =
            subst (λ k. t p ++ flat_map t (filter (λ q. nat_lt (wave q) k) ps) ≡ flat_map t (filter (λ q. nat_lt (wave q) k) ps) ++ t p) same
            (in_front t wave has p ps have) in
            with_first t (nat_lt (wave p) (v + 1)) p upto (lt-ltb (wave p) (v + 1) (omega (arith, same)))
            ∙ (ap (λ x. t p ++ x) rest
            ∙ (sym (append_assoc (t p) (flat_map t less) (flat_map t here))
            ∙ (ap (λ x. x ++ flat_map t here) turned
            ∙ (append_assoc (flat_map t less) (t p) (flat_map t here)
            ∙ (ap (λ x. x ++ (t p ++ flat_map t here)) (sym (without_first t (nat_lt (wave p) v) p less (le-ltb (wave p) v g)))
            ∙ ap (λ x. flat_map t (cond (nat_lt (wave p) v) (p ∷ less) less) ++ x)
            (sym (with_first t (wave p == v) p here (eq-eqb (wave p) v same)))))))))
        | inr differs ↦
            without_first t (nat_lt (wave p) (v + 1)) p upto (le-ltb (wave p) (v + 1) (omega (arith, g, differs)))
            ∙ (rest
            ∙ (ap (λ x. x ++ flat_map t here) (sym (without_first t (nat_lt (wave p) v) p less (le-ltb (wave p) v g)))
            ∙ ap (λ x. flat_map t (cond (nat_lt (wave p) v) (p ∷ less) less) ++ x)
            (sym (without_first t (wave p == v) p here (ne_eqb (wave p) v differs)))))
      ]
    ]

-- ---- the run

shifted : (f : ℕ → List ℕ) (a m : ℕ) → flat_map f (range_with_len (a + 1) m) ≡ flat_map (λ p. f (suc p)) (range_with_len a m)
shifted f a zero = refl
shifted f a (suc m) =
    let next : a + 1 ≡ suc a = omega arith in
    ap (λ k. f k ++ flat_map f (range_with_len (a + 1 + 1) m)) next
    ∙ ap (λ x. f (suc a) ++ x) (shifted f (a + 1) m)

then_told : (u : Numbered) (x : Outcome) (text : List ℕ) (later : Run) → IsGiven x → later ≡ Text text → then_run u x later ≡ Text (text_with u.action x ++ text)
then_told u (Gives output) text later given same = ap (with_text (text_with u.action (Gives output))) same
then_told u (Breaks fault) text later given same = absurd given
then_told u Undefined text later given same = absurd given

-- where every action gives an output, a run comes to their texts
pub told : (us : List Numbered) (out : ℕ → Outcome) → ((p : ℕ) → p < length us → IsGiven (out p))
    → run_kept (λ p. Some (out p)) us ≡ Text (flat_map (λ p. text_with (action_at us p) (out p)) (range_with_len 0 (length us)))
told [] out given = refl
told (u ∷ us) out given =
    let later = told us (λ p. out (suc p)) (λ p l. given (suc p) (omega (arith, l))) in
    then_told u (out 0) (flat_map (λ p. text_with (action_at us p) (out (suc p))) (range_with_len 0 (length us))) (run_kept (λ p. Some (out (suc p))) us)
    (given 0 (omega arith)) later
    ∙ ap (λ x. Text (text_with u.action (out 0) ++ x)) (sym (shifted (λ p. text_with (action_at (u ∷ us) p) (out p)) 0 (length us)))

then_refused : (u : Numbered) (x : Outcome) (refusal : Run) (later : Run) → IsGiven x → later ≡ refusal → ((text : List ℕ) → with_text text refusal ≡ refusal)
    → then_run u x later ≡ refusal
then_refused u (Gives output) refusal later given same stays = ap (with_text (text_with u.action (Gives output))) same ∙ stays (text_with u.action (Gives output))
then_refused u (Breaks fault) refusal later given same stays = absurd given
then_refused u Undefined refusal later given same stays = absurd given

-- where the first that doesn't breaks a data rule, it comes to its refusal
pub refused : (us : List Numbered) (out : ℕ → Outcome) (b : ℕ) (fault : Fault) → b < length us → ((p : ℕ) → p < b → IsGiven (out p)) → out b ≡ Breaks fault
    → run_kept (λ p. Some (out p)) us ≡ Refused (refusal_by (number_at us b) fault)
refused [] out b fault less given broken = absurd (omega (arith, less))
refused (u ∷ us) out zero fault less given broken = ap (λ x. then_run u x (run_kept (λ p. Some (out (suc p))) us)) broken
refused (u ∷ us) out (suc b) fault less given broken =
    then_refused u (out 0) (Refused (refusal_by (number_at us b) fault)) (run_kept (λ p. Some (out (suc p))) us) (given 0 (omega arith))
    (refused us (λ p. out (suc p)) b fault (omega (arith, less)) (λ p l. given (suc p) (omega (arith, l))) broken) (λ text. refl)
