-- The commands that go on go on as the rules on hazards want.
use Rattle.std.proofs.Common.{◌≡◌, ◌<◌, ◌≤◌, ◌++◌, ◌&&◌, ◌==◌, if◌then◌else◌, ℕ, zero, suc, Bool, true, false, List, [], ◌∷◌, Option, Some, None, length, slice_get, ap, ◌∙◌, arith, inl, inr, nat_eq, subst, sym, refl}
use Rattle.std.specs.List.{cons_option}
use Rattle.std.specs.Option.{option_map_or}
use Rattle.std.specs.Prelude.{is_none}
use Rattle.std.proofs.lemmas.Bool.{cases_Bool}
use Rattle.std.proofs.lemmas.Bool.Decides.{nat_tests}
use Rattle.std.proofs.lemmas.List.{length-append}
use Rattle.ray_cmd.specs.declared.command.Command.{Command}
use Rattle.ray_cmd.specs.declared.refusal.Refusal.{Refusal}
use Rattle.ray_rules.specs.Buffers.{v2}
use Rattle.ray_rules.specs.Hazards.{status_at}
use Rattle.ray_rules.specs.Names.{v1}
use Rattle.ray_rules.specs.Order.{Ordering}
use Rattle.ray_rules.specs.Status.{Status, after, after_if}
use Rattle.ray_rules.specs.Structures.{v6}
use Rattle.ray_rules.specs.Verdict.{GoOn, hazard_of}
use Rattle.ray_sync.specs.Hazards.{hazards_below}
use Rattle.ray_valid.specs.Going.{goes_on}
use Rattle.ray_refusals.specs.Every.{going_below, goes_on_at, next_going, passed, status_before}

-- ---- how many go on

next-within : (going n : ℕ) (goes : Bool) → going ≤ n → next_going going n goes ≤ suc n
next-within going n goes below =
    elim (cases_Bool ((going == n) && goes)) [
      | inl t ↦ subst (λ b. (if b then suc n else going) ≤ suc n) (sym t) (omega arith)
      | inr f ↦ subst (λ b. (if b then suc n else going) ≤ suc n) (sym f) (omega (arith, below))
    ]

pub going-within : (rec : List Command) (n : ℕ) → going_below rec n ≤ n
going-within rec zero = omega arith
going-within rec (suc n) = next-within (going_below rec n) n (goes_on_at rec n) (going-within rec n)

and-left : (a b : Bool) → (a && b) ≡ true → a ≡ true
and-left true b e = refl
and-left false b e = absurd cc

and-right : (a b : Bool) → (a && b) ≡ true → b ≡ true
and-right true b e = e
and-right false b e = absurd cc

-- each of them does
pub each-goes : (rec : List Command) (n i : ℕ) → i < going_below rec n → goes_on_at rec i ≡ true
each-goes rec zero i below = absurd (omega (arith, below))
each-goes rec (suc n) i below =
    elim (cases_Bool ((going_below rec n == n) && goes_on_at rec n)) [
      | inl t ↦
          let all : going_below rec n ≡ n = grind (arith, nat_tests, and-left (going_below rec n == n) (goes_on_at rec n) t) in
          let here : i < suc n = subst (λ b. i < (if b then suc n else going_below rec n)) t below in
          elim (cases_Bool (nat_eq i n)) [
            | inl same ↦
                let is : n ≡ i = grind (arith, nat_tests, same) in
                subst (λ k. goes_on_at rec k ≡ true) is (and-right (going_below rec n == n) (goes_on_at rec n) t)
            | inr other ↦
                let less : i < n = grind (arith, nat_tests, other, here) in
                each-goes rec n i (subst (λ k. i < k) (sym all) less)
          ]
      | inr f ↦ each-goes rec n i (subst (λ b. i < (if b then suc n else going_below rec n)) f below)
    ]

-- ---- the status before them

none-of : {T : Type 0} (o : Option T) → is_none o ≡ true → o ≡ None
none-of None e = refl
none-of (Some x) e = absurd cc

pass-goes : (i : ℕ) (c : Command) (z : Status) → goes_on z c ≡ true → passed i c z ≡ after i c z
pass-goes i c z e = ap (λ b. if b then after i c z else z) e

pass-there : (rec : List Command) (i : ℕ) (z : Status) (o : Option Command) → option_map_or (goes_on z) o true ≡ true
    → option_map_or (λ c. passed i c z) o z ≡ after_if i o z
pass-there rec i z None e = refl
pass-there rec i z (Some c) e = pass-goes i c z e

pub status-same : (rec : List Command) (n : ℕ) → ((i : ℕ) → i < n → goes_on_at rec i ≡ true) → status_before rec n ≡ status_at rec n
status-same rec zero each = refl
status-same rec (suc n) each =
    pass-there rec n (status_before rec n) (slice_get rec n) (each n (omega arith))
    ∙ ap (after_if n (slice_get rec n)) (status-same rec n (λ i l. each i (omega (arith, l))))

-- ---- they go on

goes-here :
    (rec : List Command) (n i : ℕ) (c : Command) → i < going_below rec n → slice_get rec i ≡ Some c → goes_on (status_at rec i) c ≡ true
goes-here rec n i c below there =
    let same = status-same rec i (λ j l. each-goes rec n j (omega (arith, l, below))) in
    subst (λ z. goes_on z c ≡ true) same
    (subst (λ o. option_map_or (goes_on (status_before rec i)) o true ≡ true) there (each-goes rec n i below))

pub go-on : (rec : List Command) (n : ℕ) → GoOn rec (going_below rec n)
go-on rec n = record {
  named = λ i c below there. none-of (v1 (status_at rec i) c) (and-left (is_none (v1 (status_at rec i) c)) _ (goes-here rec n i c below there));
  sized =
      λ i c below there.
      none-of (v2 (status_at rec i) c)
      (and-left (is_none (v2 (status_at rec i) c)) _ (and-right (is_none (v1 (status_at rec i) c)) _ (goes-here rec n i c below there)));
  placed =
      λ i c below there.
      none-of (v6 (status_at rec i) c)
      (and-right (is_none (v2 (status_at rec i) c)) _ (and-right (is_none (v1 (status_at rec i) c)) _ (goes-here rec n i c below there)));
}

-- ---- how many hazards there are

one-more : (xs : List Refusal) (o : Option Refusal) (n : ℕ) → length xs ≤ n → length (xs ++ cons_option o []) ≤ suc n
one-more xs None n few = subst (λ k. k ≤ suc n) (sym (length-append xs [])) (omega (arith, few))
one-more xs (Some r) n few = subst (λ k. k ≤ suc n) (sym (length-append xs (r ∷ []))) (omega (arith, few))

pub few-hazards : (order : Ordering) (rec : List Command) (n : ℕ) → length (hazards_below order rec n) ≤ n
few-hazards order rec zero = omega arith
few-hazards order rec (suc n) = one-more (hazards_below order rec n) (hazard_of order rec n) n (few-hazards order rec n)
