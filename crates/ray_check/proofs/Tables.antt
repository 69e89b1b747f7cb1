-- The refusal of one command by all rules is the first of that by the static rules and that by those on
-- hazards.
use Rattle.std.proofs.Common.{◌≡◌, ◌<◌, ℕ, List, [], ◌∷◌, ◌++◌, Option, Some, None, Bool, true, false, ◌&&◌, nat_lt, refl, sym, ◌∙◌, ap, arith}
use Rattle.std.proofs.lemmas.Bool.{cond-true, cond-false, ltb-true, ltb-false}
use Rattle.std.proofs.lemmas.Option.{none-some, same_Some}
use Rattle.std.proofs.lemmas.Bool.Decides.{nat_tests}
use Rattle.ray_cmd.specs.declared.command.Command.{Command}
use Rattle.ray_cmd.specs.declared.place.Place.{Place}
use Rattle.ray_cmd.specs.declared.refusal.Refusal.{Refusal}
use Rattle.ray_rules.specs.Buffers.{v2, v3, v30}
use Rattle.ray_rules.specs.Conflicts.{v16}
use Rattle.ray_rules.specs.FlagRules.{v22, v23, v24}
use Rattle.ray_rules.specs.Hazards.{v25, v26, v27, v32}
use Rattle.ray_rules.specs.Names.{v1}
use Rattle.ray_rules.specs.Phases.{v28, v29}
use Rattle.ray_rules.specs.Order.{Ordering}
use Rattle.ray_rules.specs.Refusals.{Row, AreKept, refused, least_broken, or_after, static_refusal_of}
use Rattle.ray_rules.specs.Shapes.{v7, v8, v9, v10}
use Rattle.ray_rules.specs.Sources.{v13, v14, v15, v17, v18, v20, v21}
use Rattle.ray_rules.specs.Spans.{v4, v5, v12, v31}
use Rattle.ray_rules.specs.Status.{Status}
use Rattle.ray_rules.specs.Structures.{v6, v11, v19}
use Rattle.ray_rules.specs.Verdict.{hazard_of, rule_refusal_of}
use Rattle.ray_submits.specs.Submits.{QueueCommands}
use Rattle.ray_queues.specs.QueueOrder.{queue_order}
use Rattle.ray_queues.specs.Refusals.{queue_refusal_of}
use Rattle.ray_check.specs.Joining.{is_before, is_early, first_of_two}
use Rattle.ray_check.specs.Queues.{queue_rule_refusal_of, semaphore_rows}

-- the first row of a table that is broken: its number and the place
abbrev pub first_broken : List Row → Option (ℕ × Place)
first_broken [] = None
first_broken ((number, None) ∷ rows) = first_broken rows
first_broken ((number, Some place) ∷ rows) = Some (number, place)

-- the refusal of command number i by a row that is broken
abbrev pub by_row : ℕ → Option (ℕ × Place) → Option Refusal
by_row i None = None
by_row i (Some (number, place)) = Some (refused i number place)

pub by-first : (i : ℕ) (rows : List Row) → least_broken i rows ≡ by_row i (first_broken rows)
by-first i [] = refl
by-first i ((number, None) ∷ rows) = by-first i rows
by-first i ((number, Some place) ∷ rows) = refl

pub split : (i : ℕ) (xs ys : List Row) → least_broken i (xs ++ ys) ≡ or_after (least_broken i xs) (least_broken i ys)
split i [] ys = refl
split i ((number, None) ∷ xs) ys = split i xs ys
split i ((number, Some place) ∷ xs) ys = refl

pub of-rows :
    (i : ℕ) (xs ys : List Row)
    → least_broken i (xs ++ ys) ≡ or_after (by_row i (first_broken xs)) (by_row i (first_broken ys))
of-rows i xs ys = split i xs ys ∙ (λ j. or_after (by-first i xs j) (by-first i ys j))

-- whether all numbers of a table are above one number and below another
abbrev pub are_between : ℕ → ℕ → List Row → Bool
are_between low high [] = true
are_between low high ((number, broken) ∷ rows) = (nat_lt low number && nat_lt number high) && are_between low high rows

-- that of a row that is broken, too
abbrev pub IsBetween : ℕ → ℕ → Option (ℕ × Place) → Type 0
IsBetween low high None = Unit {0}
IsBetween low high (Some (number, place)) = (low < number) × (number < high)

and-left : (a b : Bool) → (a && b) ≡ true → a ≡ true
and-left true b e = refl
and-left false b e = e

and-right : (a b : Bool) → (a && b) ≡ true → b ≡ true
and-right true b e = e
and-right false b e = absurd cc

pub first-between : (low high : ℕ) (rows : List Row) → are_between low high rows ≡ true → IsBetween low high (first_broken rows)
first-between low high [] e = tt
first-between low high ((number, None) ∷ rows) e = first-between low high rows (and-right _ _ e)
first-between low high ((number, Some place) ∷ rows) e =
    let own = and-left _ (are_between low high rows) e in
    (ltb-true low number (and-left (nat_lt low number) (nat_lt number high) own), ltb-true number high (and-right (nat_lt low number) (nat_lt number high) own))

-- of two refusals of one command that by the lesser rule is the first
pub stays : (i k l : ℕ) (p q : Place) → k < l → first_of_two (Some (refused i k p)) (Some (refused i l q)) ≡ Some (refused i k p)
stays i k l p q h =
    let late : is_before (refused i l q) (refused i k p) ≡ false = grind (arith, nat_tests) in
    cond-false (is_before (refused i l q) (refused i k p)) (Some (refused i l q)) (Some (refused i k p)) late

pub goes : (i k l : ℕ) (p q : Place) → l < k → first_of_two (Some (refused i k p)) (Some (refused i l q)) ≡ Some (refused i l q)
goes i k l p q h =
    let soon : is_before (refused i l q) (refused i k p) ≡ true = grind (arith, nat_tests) in
    cond-true (is_before (refused i l q) (refused i k p)) (Some (refused i l q)) (Some (refused i k p)) soon

-- the first broken rows of four tables whose numbers rise from one to the next; the second and the last
-- are those on hazards
pub join-rows :
    (i : ℕ) (a h s t : Option (ℕ × Place)) → IsBetween 0 25 a → IsBetween 24 28 h → IsBetween 27 32 s → IsBetween 31 35 t
    → or_after (by_row i a) (or_after (by_row i h) (or_after (by_row i s) (by_row i t)))
    ≡ first_of_two (or_after (by_row i a) (by_row i s)) (or_after (by_row i h) (by_row i t))
join-rows i (Some (k, p)) (Some (l, q)) s t a h _ _ = sym (stays i k l p q (omega (arith, a, h)))
join-rows i (Some (k, p)) None s (Some (l, q)) a _ _ t = sym (stays i k l p q (omega (arith, a, t)))
join-rows i (Some (k, p)) None s None a _ _ _ = refl
join-rows i None (Some (l, q)) (Some (k, p)) t _ h s _ = sym (goes i k l p q (omega (arith, h, s)))
join-rows i None (Some (l, q)) None t _ h _ _ = refl
join-rows i None None (Some (k, p)) (Some (l, q)) _ _ s t = sym (stays i k l p q (omega (arith, s, t)))
join-rows i None None (Some (k, p)) None _ _ s _ = refl
join-rows i None None None (Some (l, q)) _ _ _ t = refl
join-rows i None None None None _ _ _ _ = refl

pub join-tables :
    (i : ℕ) (a h s t : List Row) → are_between 0 25 a ≡ true → are_between 24 28 h ≡ true
    → are_between 27 32 s ≡ true → are_between 31 35 t ≡ true
    → least_broken i (a ++ (h ++ (s ++ t))) ≡ first_of_two (least_broken i (a ++ s)) (least_broken i (h ++ t))
join-tables i a h s t la lh ls lt =
    split i a (h ++ (s ++ t))
    ∙ ((λ j. or_after (by-first i a j) ((split i h (s ++ t) ∙ (λ k. or_after (by-first i h k) (of-rows i s t k))) j))
    ∙ (join-rows i (first_broken a) (first_broken h) (first_broken s) (first_broken t) (first-between 0 25 a la)
    (first-between 24 28 h lh) (first-between 27 32 s ls) (first-between 31 35 t lt)
    ∙ (λ j. first_of_two (sym (of-rows i a s) j) (sym (of-rows i h t) j))))

-- a refusal is of this command, and by a rule of the first 24 it is there before any hazard
pub record IsJoined (i : ℕ) (static hazard rule : Option Refusal) : Type 0 where
  pub joined : rule ≡ first_of_two static hazard
  pub static_at : (r : Refusal) → static ≡ Some r → r.command ≡ i
  pub rule_at : (r : Refusal) → rule ≡ Some r → r.command ≡ i
  pub hazard_at : (r : Refusal) → hazard ≡ Some r → r.command ≡ i
  pub early : (r : Refusal) → static ≡ Some r → is_early r.rule ≡ true → first_of_two static hazard ≡ static

-- a refusal is of the command whose table it is
pub by-row-at : (i : ℕ) (o : Option (ℕ × Place)) (r : Refusal) → by_row i o ≡ Some r → r.command ≡ i
by-row-at i None r e = absurd (none-some r e)
by-row-at i (Some (k, p)) r e = sym (ap (λ (q : Refusal). q.command) (same_Some (refused i k p) r e))

pub least-at : (i : ℕ) (rows : List Row) (r : Refusal) → least_broken i rows ≡ Some r → r.command ≡ i
least-at i rows r e = by-row-at i (first_broken rows) r (sym (by-first i rows) ∙ e)

-- a number that isn't among the first 24, and one that is
late-number : (k : ℕ) → 27 < k → nat_lt k 25 ≡ true → ⊥
late-number k h e = let below = ltb-true k 25 e in omega arith

early-number : (k : ℕ) → k < 25 → nat_lt k 25 ≡ false → ⊥
early-number k h e = let above = ltb-false k 25 e in omega arith

early-rows :
    (i : ℕ) (a h s t : Option (ℕ × Place)) → IsBetween 0 25 a → IsBetween 24 28 h → IsBetween 27 32 s → IsBetween 31 35 t
    → (r : Refusal) → or_after (by_row i a) (by_row i s) ≡ Some r → is_early r.rule ≡ true
    → first_of_two (or_after (by_row i a) (by_row i s)) (or_after (by_row i h) (by_row i t))
    ≡ or_after (by_row i a) (by_row i s)
early-rows i (Some (k, p)) (Some (l, q)) s t a h _ _ r e f = stays i k l p q (omega (arith, a, h))
early-rows i (Some (k, p)) None s (Some (l, q)) a _ _ t r e f = stays i k l p q (omega (arith, a, t))
early-rows i (Some (k, p)) None s None a _ _ _ r e f = refl
early-rows i None h (Some (k, p)) t _ _ s _ r e f =
    absurd (late-number k s.0 (ap (λ (q : Refusal). is_early q.rule) (same_Some (refused i k p) r e) ∙ f))
early-rows i None h None t _ _ _ _ r e f = absurd (none-some r e)

pub joined :
    (i : ℕ) (a h s t : List Row) → are_between 0 25 a ≡ true → are_between 24 28 h ≡ true
    → are_between 27 32 s ≡ true → are_between 31 35 t ≡ true
    → IsJoined i (least_broken i (a ++ s)) (least_broken i (h ++ t)) (least_broken i (a ++ (h ++ (s ++ t))))
joined i a h s t la lh ls lt = record {
  joined = join-tables i a h s t la lh ls lt;
  static_at = least-at i (a ++ s);
  rule_at = least-at i (a ++ (h ++ (s ++ t)));
  hazard_at = least-at i (h ++ t);
  early = λ r e f.
      (λ j. first_of_two (of-rows i a s j) (of-rows i h t j))
      ∙ (early-rows i (first_broken a) (first_broken h) (first_broken s) (first_broken t) (first-between 0 25 a la)
      (first-between 24 28 h lh) (first-between 27 32 s ls) (first-between 31 35 t lt) r (sym (of-rows i a s) ∙ e) f
      ∙ sym (of-rows i a s));
}

-- no row of a table is broken where there is no refusal
pub kept-rows : (i : ℕ) (rows : List Row) → least_broken i rows ≡ None → AreKept rows
kept-rows i [] e = tt
kept-rows i ((number, None) ∷ rows) e = (refl, kept-rows i rows e)
kept-rows i ((number, Some place) ∷ rows) e = absurd (none-some (refused i number place) (sym e))

-- the first 24 are kept where no refusal is by one of them
kept-first :
    (i : ℕ) (a s : Option (ℕ × Place)) → IsBetween 0 25 a
    → ((r : Refusal) → or_after (by_row i a) (by_row i s) ≡ Some r → is_early r.rule ≡ false) → by_row i a ≡ None
kept-first i (Some (k, p)) s a h = absurd (early-number k a.1 (h (refused i k p) refl))
kept-first i None s a h = refl

pub kept-early :
    (i : ℕ) (a s : List Row) → are_between 0 25 a ≡ true
    → ((r : Refusal) → least_broken i (a ++ s) ≡ Some r → is_early r.rule ≡ false) → AreKept a
kept-early i a s la h =
    kept-rows i a (by-first i a ∙ kept-first i (first_broken a) (first_broken s) (first-between 0 25 a la)
    (λ r e. h r (of-rows i a s ∙ e)))

-- the rules 1 to 24, and 28 to 31
abbrev pub early_table : List Command → Status → Command → List Row
early_table rec z c =
    (1, v1 z c) ∷ (2, v2 z c) ∷ (3, v3 z c) ∷ (4, v4 z c) ∷ (5, v5 c) ∷ (6, v6 z c) ∷ (7, v7 z c) ∷ (8, v8 z c)
    ∷ (9, v9 c) ∷ (10, v10 z c) ∷ (11, v11 z c) ∷ (12, v12 z c) ∷ (13, v13 rec z c) ∷ (14, v14 rec z c)
    ∷ (15, v15 rec z c) ∷ (16, v16 c) ∷ (17, v17 z c) ∷ (18, v18 rec z c) ∷ (19, v19 z c) ∷ (20, v20 z c)
    ∷ (21, v21 rec z c) ∷ (22, v22 c) ∷ (23, v23 c) ∷ (24, v24 c) ∷ []

abbrev pub late_table : Status → Command → List Row
late_table z c = (28, v28 z c) ∷ (29, v29 z c) ∷ (30, v30 z c) ∷ (31, v31 c) ∷ []

-- the rules 25 to 27, and 32 and those that come after it
abbrev pub met_table : Ordering → List Command → ℕ → List Row
met_table order rec i = (25, v25 order rec i) ∷ (26, v26 order rec i) ∷ (27, v27 order rec i) ∷ []

abbrev pub read_table : Ordering → List Command → ℕ → List Row → List Row
read_table order rec i more = (32, v32 order rec i) ∷ more

-- a command of a recording, in some order
pub command-joined :
    (order : Ordering) (rec : List Command) (i : ℕ) (z : Status) (c : Command)
    → IsJoined i (static_refusal_of rec i z c) (hazard_of order rec i) (rule_refusal_of order rec i z c)
unfolding static_refusal_of hazard_of rule_refusal_of
command-joined order rec i z c =
    joined i (early_table rec z c) (met_table order rec i) (late_table z c) (read_table order rec i []) refl refl refl refl

-- and one that is submitted to several queues
pub queue-command-joined :
    (q : QueueCommands) (i : ℕ) (z : Status) (c : Command)
    → IsJoined i (static_refusal_of q.commands i z c) (queue_refusal_of q i) (queue_rule_refusal_of q i z c)
unfolding static_refusal_of queue_refusal_of queue_rule_refusal_of
queue-command-joined q i z c =
    joined i (early_table q.commands z c) (met_table (queue_order q) q.commands i) (late_table z c)
    (read_table (queue_order q) q.commands i (semaphore_rows q i)) refl refl refl refl

-- a command names what is live, has the sizes that it needs and makes no structure over another
pub record GoesOn (z : Status) (c : Command) : Type 0 where
  pub named : v1 z c ≡ None
  pub sized : v2 z c ≡ None
  pub placed : v6 z c ≡ None

-- as it is where its static refusal is none, or by a rule after the first 24
pub command-kept :
    (rec : List Command) (i : ℕ) (z : Status) (c : Command)
    → ((r : Refusal) → static_refusal_of rec i z c ≡ Some r → is_early r.rule ≡ false) → GoesOn z c
unfolding static_refusal_of
command-kept rec i z c h =
    let kept = kept-early i (early_table rec z c) (late_table z c) refl h in
    record { named = kept.0; sized = kept.1.0; placed = kept.1.1.1.1.1.0 }
