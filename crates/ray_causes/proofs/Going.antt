-- The commands before the one for which a recording is refused go on.
use Rattle.std.proofs.Common.{◌≡◌, ◌<◌, ◌≤◌, ℕ, suc, ◌+◌, List, [], ◌∷◌, slice_get, Option, Some, None, refl, sym, ◌∙◌, ap, subst, inl, inr, arith}
use Rattle.std.specs.Prelude.{option_map}
use Rattle.std.proofs.lemmas.Bool.{cases_lt}
use Rattle.std.proofs.lemmas.Option.{none-some, same_Some}
use Rattle.ray_cmd.specs.declared.command.Command.{Command}
use Rattle.ray_cmd.specs.declared.place.Place.{Place}
use Rattle.ray_cmd.specs.declared.refusal.Refusal.{Refusal}
use Rattle.ray_rules.specs.Buffers.{v2, v3}
use Rattle.ray_rules.specs.Hazards.{status_at}
use Rattle.ray_rules.specs.Names.{v1}
use Rattle.ray_rules.specs.Order.{Ordering, barriers}
use Rattle.ray_rules.specs.Phases.{v28_at_end}
use Rattle.ray_rules.specs.Refusals.{Row, least_broken, or_after, refused}
use Rattle.ray_rules.specs.Spans.{v4, v5}
use Rattle.ray_rules.specs.Status.{Status, after, at_first}
use Rattle.ray_rules.specs.Structures.{v6}
use Rattle.ray_rules.specs.Verdict.{GoOn, rule_refusal, rule_refusal_from, rule_refusal_of, rule_table}
use Rattle.ray_causes.proofs.Telling.{status_next}

-- a command names what is live, has the sizes that it needs and makes no structure over another
record GoesOn (z : Status) (c : Command) : Type 0 where
  named : v1 z c ≡ None
  sized : v2 z c ≡ None
  placed : v6 z c ≡ None

-- where no row of a table is broken, the first, the second and the sixth aren't
record AreNone (a b f : Option Place) : Type 0 where
  first : a ≡ None
  second : b ≡ None
  sixth : f ≡ None

none_of_rows :
    (i : ℕ) (a b c d e f : Option Place) (rows : List Row)
    → least_broken i ((1, a) ∷ (2, b) ∷ (3, c) ∷ (4, d) ∷ (5, e) ∷ (6, f) ∷ rows) ≡ None → AreNone a b f
none_of_rows i None None None None None None rows n = record { first = refl; second = refl; sixth = refl }
none_of_rows i None None None None None (Some p) rows n = absurd (none-some _ (sym n))
none_of_rows i None None None None (Some p) f rows n = absurd (none-some _ (sym n))
none_of_rows i None None None (Some p) e f rows n = absurd (none-some _ (sym n))
none_of_rows i None None (Some p) d e f rows n = absurd (none-some _ (sym n))
none_of_rows i None (Some p) c d e f rows n = absurd (none-some _ (sym n))
none_of_rows i (Some p) b c d e f rows n = absurd (none-some _ (sym n))

-- the rows of a table behind the sixth
abbrev later_rows : List Row → List Row
later_rows (a ∷ b ∷ c ∷ d ∷ e ∷ f ∷ rows) = rows
later_rows rows = []

goes_on_here :
    (order : Ordering) (rec : List Command) (i : ℕ) (z : Status) (c : Command) → rule_refusal_of order rec i z c ≡ None
    → GoesOn z c
unfolding rule_refusal_of
goes_on_here order rec i z c n =
    let rows = later_rows (rule_table order rec i z c) in
    let kept = none_of_rows i (v1 z c) (v2 z c) (v3 z c) (v4 z c) (v5 c) (v6 z c) rows n in
    record { named = kept.first; sized = kept.second; placed = kept.sixth }

-- a refusal by a table is of its command
of_rows : (i : ℕ) (rows : List Row) (r : Refusal) → least_broken i rows ≡ Some r → r.command ≡ i
of_rows i [] r e = absurd (none-some r e)
of_rows i ((number, None) ∷ rows) r e = of_rows i rows r e
of_rows i ((number, Some place) ∷ rows) r e =
    sym (ap (λ (q : Refusal). q.command) (same_Some (refused i number place) r e))

of_command :
    (order : Ordering) (rec : List Command) (i : ℕ) (z : Status) (c : Command) (r : Refusal)
    → rule_refusal_of order rec i z c ≡ Some r → r.command ≡ i
unfolding rule_refusal_of
of_command order rec i z c r e = of_rows i (rule_table order rec i z c) r e

of_end : (i : ℕ) (o : Option Place) (r : Refusal) → option_map (refused i 28) o ≡ Some r → r.command ≡ i
of_end i None r e = absurd (none-some r e)
of_end i (Some p) r e = sym (ap (λ (q : Refusal). q.command) (same_Some (refused i 28 p) r e))

-- where the refusal is of a later command, it is that of what comes after this one, which has none
record IsLater (one later : Option Refusal) (r : Refusal) : Type 0 where
  kept : one ≡ None
  rest : later ≡ Some r

is_later :
    (i j : ℕ) (one later : Option Refusal) (r : Refusal) → ((q : Refusal) → one ≡ Some q → q.command ≡ i) → i ≤ j
    → j < r.command → or_after one later ≡ Some r → IsLater one later r
is_later i j None later r at l w e = record { kept = refl; rest = e }
is_later i j (Some q) later r at l w e =
    let here = at q refl in
    let same : q.command ≡ r.command = ap (λ (x : Refusal). x.command) (same_Some q r e) in
    absurd (omega arith)

goes_on_at :
    (rec : List Command) (i j : ℕ) (z : Status) (d c : Command) → slice_get rec i ≡ Some d → z ≡ status_at rec i
    → GoesOn z d → i ≡ j → slice_get rec j ≡ Some c → GoesOn (status_at rec j) c
goes_on_at rec i j z d c at p g e there =
    subst (λ x. GoesOn x c) (p ∙ ap (status_at rec) e)
    (subst (λ x. GoesOn z x) (same_Some d c (sym at ∙ (ap (slice_get rec) e ∙ there))) g)

goes_on_from :
    (order : Ordering) (rec cs : List Command) (i : ℕ) (z : Status) (r : Refusal)
    → ((k : ℕ) → slice_get rec (i + k) ≡ slice_get cs k) → z ≡ status_at rec i
    → rule_refusal_from order rec i z cs ≡ Some r → (j : ℕ) (c : Command) → i ≤ j → j < r.command
    → slice_get rec j ≡ Some c → GoesOn (status_at rec j) c
goes_on_from order rec [] i z r left p e j c l w there =
    let same = of_end i (v28_at_end z) r e in absurd (omega arith)
goes_on_from order rec (d ∷ cs) i z r left p e j c l w there =
    let first : i ≡ i + 0 = omega arith in
    let at : slice_get rec i ≡ Some d = ap (slice_get rec) first ∙ left 0 in
    let now =
    is_later i j (rule_refusal_of order rec i z d) (rule_refusal_from order rec (i + 1) (after i d z) cs) r
    (of_command order rec i z d) l w e
    in
    elim (cases_lt i j) [
      | inl b ↦
          goes_on_from order rec cs (i + 1) (after i d z) r
          (λ k. let more : (i + 1) + k ≡ i + suc k = omega arith in ap (slice_get rec) more ∙ left (suc k))
          (status_next rec i z (after i d z) d at p refl) now.rest j c (omega arith) w there
      | inr g ↦
          let same : i ≡ j = omega arith in
          goes_on_at rec i j z d c at p (goes_on_here order rec i z d now.kept) same there
    ]

pub goes_on : (rec : List Command) (r : Refusal) → rule_refusal (barriers rec) rec ≡ Some r → GoOn rec r.command
unfolding rule_refusal
goes_on rec r e =
    let whole : (k : ℕ) → slice_get rec (0 + k) ≡ slice_get rec k =
    λ k. let none : 0 + k ≡ k = omega arith in ap (slice_get rec) none
    in
    record {
      named =
          λ i c below there.
          (goes_on_from (barriers rec) rec rec 0 at_first r whole refl e i c (omega arith) below there).named;
      sized =
          λ i c below there.
          (goes_on_from (barriers rec) rec rec 0 at_first r whole refl e i c (omega arith) below there).sized;
      placed =
          λ i c below there.
          (goes_on_from (barriers rec) rec rec 0 at_first r whole refl e i c (omega arith) below there).placed;
    }
