-- What stands under each id once one comes or goes, in a list of entries whose ids rise.
use Rattle.std.proofs.Common.{◌≡◌, ◌<◌, ◌≤◌, ℕ, [], ◌∷◌, Some, None, refl, sym, ◌∙◌, ap, subst, inl, inr, cond, arith}
use Rattle.std.specs.Prelude.{◌==◌, if◌then◌else◌}
use Rattle.std.specs.BTreeMap.{is_at}
use Rattle.std.specs.Ordering.{nat_cmp, MatchOrdering, match_ordering}
use Rattle.std.specs.declared.cmp.Ordering.{Ordering}
use Rattle.std.specs.declared.cmp.Ordering.TheVariants.{Less, Equal, Greater}
use Rattle.std.proofs.lemmas.Bool.{cases_eq, cond-true, cond-false, eq-eqb, ne_eqb}
use Rattle.std.proofs.lemmas.Bool.Decides.{nat_tests}
use Rattle.std.proofs.lemmas.Cmp.{ranked}
use Rattle.ray_rules.specs.Ids.{Ids, look, with_id, without_id}

-- ids rise: below the first, and at it, nothing stands among the others
abbrev pub Rise : {X : Type 0} → Ids X → Type 0
Rise [] = Unit {0}
Rise (e ∷ es) = ((q : ℕ) → q ≤ e.0 → look es q ≡ None) × Rise es

at_key : (key other : ℕ) → is_at (nat_cmp key) other ≡ (other == key)
at_key key other = grind (arith, nat_tests)

-- a look-up in the first entry and in the others
pub look_first : {X : Type 0} (q : ℕ) (e : ℕ × X) (es : Ids X) → e.0 ≡ q → look (e ∷ es) q ≡ Some e.1
look_first q e es same = cond-true (is_at (nat_cmp q) e.0) _ _ (at_key q e.0 ∙ eq-eqb e.0 q same)

pub look_later : {X : Type 0} (q : ℕ) (e : ℕ × X) (es : Ids X) → (e.0 ≡ q → ⊥) → look (e ∷ es) q ≡ look es q
look_later q e es differs = cond-false (is_at (nat_cmp q) e.0) _ _ (at_key q e.0 ∙ ne_eqb e.0 q differs)

pub here : {X : Type 0} (q id : ℕ) (x y : X) → q ≡ id → (if q == id then x else y) ≡ x
here q id x y same = cond-true (q == id) _ _ (eq-eqb q id same)

pub there : {X : Type 0} (q id : ℕ) (x y : X) → (q ≡ id → ⊥) → (if q == id then x else y) ≡ y
there q id x y differs = cond-false (q == id) _ _ (ne_eqb q id differs)

-- ---- one comes

abbrev put_by : {X : Type 0} → Ordering → ℕ → X → ℕ × X → Ids X → Ids X
put_by order id x e es = match_ordering order ((id, x) ∷ e ∷ es) ((e.0, x) ∷ es) (e ∷ with_id id x es)

-- two entries give the same where they have one id, and the others do
look_both : {X : Type 0} (q : ℕ) (e f : ℕ × X) (es fs : Ids X) → e ≡ f → (look es q ≡ look fs q) → look (e ∷ es) q ≡ look (f ∷ fs) q
look_both q e f es fs same rest = λ i. cond (is_at (nat_cmp q) (same i).0) (Some (same i).1) (rest i)

with_by : {X : Type 0} (order : Ordering) (id : ℕ) (x : X) (e : ℕ × X) (es : Ids X) (q : ℕ) → MatchOrdering order (id < e.0) (id ≡ e.0) (e.0 < id)
    → look (with_id id x es) q ≡ (if q == id then Some x else look es q)
    → look (put_by order id x e es) q ≡ (if q == id then Some x else look (e ∷ es) q)
with_by Less id x e es q below next =
    elim (cases_eq q id) [
      | inl same ↦ look_first q (id, x) (e ∷ es) (sym same) ∙ sym (here q id _ _ same)
      | inr differs ↦ look_later q (id, x) (e ∷ es) (λ is. differs (sym is)) ∙ sym (there q id _ _ differs)
    ]
with_by Equal id x e es q at next =
    elim (cases_eq q id) [
      | inl same ↦ look_first q (e.0, x) es (sym at ∙ sym same) ∙ sym (here q id _ _ same)
      | inr differs ↦
          look_later q (e.0, x) es (λ is. differs (sym is ∙ sym at))
          ∙ (sym (look_later q e es (λ is. differs (sym is ∙ sym at))) ∙ sym (there q id _ _ differs))
    ]
with_by Greater id x e es q above next =
    elim (cases_eq q id) [
      | inl same ↦
          look_later q e (with_id id x es) (λ is. let equal : e.0 ≡ id = is ∙ same in absurd (omega (arith, above, equal)))
          ∙ (next ∙ (here q id _ _ same ∙ sym (here q id _ _ same)))
      | inr differs ↦
          look_both q e e (with_id id x es) es refl (next ∙ there q id _ _ differs) ∙ sym (there q id _ _ differs)
    ]

pub look_with : {X : Type 0} (id : ℕ) (x : X) (es : Ids X) (q : ℕ) → look (with_id id x es) q ≡ (if q == id then Some x else look es q)
look_with id x [] q =
    elim (cases_eq q id) [
      | inl same ↦ look_first q (id, x) [] (sym same) ∙ sym (here q id _ _ same)
      | inr differs ↦ look_later q (id, x) [] (λ is. differs (sym is)) ∙ sym (there q id _ _ differs)
    ]
look_with id x (e ∷ es) q = with_by (nat_cmp id e.0) id x e es q (ranked id e.0 (nat_cmp id e.0) refl) (look_with id x es q)

rise_by : {X : Type 0} (order : Ordering) (id : ℕ) (x : X) (e : ℕ × X) (es : Ids X) → MatchOrdering order (id < e.0) (id ≡ e.0) (e.0 < id)
    → Rise (e ∷ es) → Rise (with_id id x es) → Rise (put_by order id x e es)
rise_by Less id x e es below rise next = (
  λ q low.
      look_later q e es (λ is. absurd (omega (arith, below, low, is)))
      ∙ rise.0 q (omega (arith, below, low)),
  rise,
)
rise_by Equal id x e es at rise next = rise
rise_by Greater id x e es above rise next = (
  λ q low. look_with id x es q ∙ (there q id _ _ (λ is. absurd (omega (arith, above, low, is))) ∙ rise.0 q low),
  next,
)

pub rise_with : {X : Type 0} (id : ℕ) (x : X) (es : Ids X) → Rise es → Rise (with_id id x es)
rise_with id x [] rise = (λ q low. refl, tt)
rise_with id x (e ∷ es) rise = rise_by (nat_cmp id e.0) id x e es (ranked id e.0 (nat_cmp id e.0) refl) rise (rise_with id x es rise.1)

-- ---- one goes

go_first : {X : Type 0} (id : ℕ) (e : ℕ × X) (es : Ids X) → e.0 ≡ id → without_id id (e ∷ es) ≡ es
go_first id e es same = cond-true (is_at (nat_cmp id) e.0) _ _ (at_key id e.0 ∙ eq-eqb e.0 id same)

go_later : {X : Type 0} (id : ℕ) (e : ℕ × X) (es : Ids X) → (e.0 ≡ id → ⊥) → without_id id (e ∷ es) ≡ e ∷ without_id id es
go_later id e es differs = cond-false (is_at (nat_cmp id) e.0) _ _ (at_key id e.0 ∙ ne_eqb e.0 id differs)

pub look_without : {X : Type 0} (id : ℕ) (es : Ids X) (q : ℕ) → Rise es → look (without_id id es) q ≡ (if q == id then None else look es q)
look_without id [] q rise = elim (cases_eq q id) [ inl same ↦ sym (here q id _ _ same) | inr differs ↦ sym (there q id _ _ differs) ]
look_without id (e ∷ es) q rise =
    elim (cases_eq e.0 id) [
      | inl first ↦
          ap (λ names. look names q) (go_first id e es first)
          ∙ elim (cases_eq q id) [
            | inl same ↦ rise.0 q (omega (arith, first, same)) ∙ sym (here q id _ _ same)
            | inr differs ↦
                sym (look_later q e es (λ is. differs (sym is ∙ first))) ∙ sym (there q id _ _ differs)
          ]
      | inr later ↦
          ap (λ names. look names q) (go_later id e es later)
          ∙ elim (cases_eq q id) [
            | inl same ↦
                look_later q e (without_id id es) (λ is. later (is ∙ same))
                ∙ (look_without id es q rise.1 ∙ (here q id _ _ same ∙ sym (here q id _ _ same)))
            | inr differs ↦
                look_both q e e (without_id id es) es refl (look_without id es q rise.1 ∙ there q id _ _ differs)
                ∙ sym (there q id _ _ differs)
          ]
    ]

pub rise_without : {X : Type 0} (id : ℕ) (es : Ids X) → Rise es → Rise (without_id id es)
rise_without id [] rise = tt
rise_without id (e ∷ es) rise =
    elim (cases_eq e.0 id) [
      | inl first ↦ subst Rise (sym (go_first id e es first)) rise.1
      | inr later ↦ subst Rise (sym (go_later id e es later)) (
        λ q low. look_without id es q rise.1 ∙ elim (cases_eq q id) [
          | inl same ↦ here q id _ _ same
          | inr differs ↦ there q id _ _ differs ∙ rise.0 q low
        ],
        rise_without id es rise.1,
      )
    ]
