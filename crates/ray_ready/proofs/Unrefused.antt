-- The commands before the one that is refused keep the static rules.
use Rattle.std.proofs.Common.{◌≡◌, ◌+◌, ◌<◌, ℕ, zero, suc, List, [], ◌∷◌, Option, Some, None, refl, sym, ap, subst, arith, length}
use Rattle.std.specs.Prelude.{slice_get}
use Rattle.ray_cmd.specs.declared.command.Command.{Command}
use Rattle.ray_cmd.specs.declared.place.Place.{Place}
use Rattle.ray_cmd.specs.declared.refusal.Refusal.{Refusal}
use Rattle.ray_rules.specs.Hazards.{status_at}
use Rattle.ray_rules.specs.Order.{Ordering}
use Rattle.ray_rules.specs.Refusals.{AreKept, Row, least_broken, or_after, refused, static_table}
use Rattle.ray_rules.specs.Status.{Status, after, at_first}
use Rattle.ray_rules.specs.Verdict.{rule_refusal, rule_refusal_from, rule_refusal_of, rule_table}
use Rattle.ray_ready.specs.Accepted.{refused_from}
use Rattle.ray_ready.specs.Laws.{UnrefusedKeepRules}
use Rattle.ray_ready.proofs.Recording.{Follow, itself, next_status}

pub kept_rows : (i : ℕ) (rows : List Row) → least_broken i rows ≡ None → AreKept rows
kept_rows i [] e = tt
kept_rows i ((number, None) ∷ rows) e = (refl, kept_rows i rows e)
kept_rows i ((number, Some place) ∷ rows) e = absurd cc

command_of : (i number : ℕ) (place : Place) (r : Refusal) → Some (refused i number place) ≡ Some r → r.command ≡ i
command_of i number place r e =
    let same : refused i number place ≡ r = cc in
    sym (ap (λ (x : Refusal). x.command) same)

at_command : (i : ℕ) (rows : List Row) (r : Refusal) → least_broken i rows ≡ Some r → r.command ≡ i
at_command i [] r e = absurd cc
at_command i ((number, None) ∷ rows) r e = at_command i rows r e
at_command i ((number, Some place) ∷ rows) r e = command_of i number place r e

-- the static rules among all
static_rows : (order : Ordering) (rec : List Command) (i : ℕ) (z : Status) (c : Command) → AreKept (rule_table order rec i z c) → AreKept (static_table rec z c)
static_rows order rec i z c (k1, (k2, (k3, (k4, (k5, (k6, (k7, (k8, (k9, (k10, (k11, (k12, (k13, (k14, (k15, (k16, (k17, (k18, (k19, (k20, (k21, (k22, (k23, (k24, (k25, (k26, (k27, (k28, (k29, (k30, (k31, more))))))))))))))))))))))))))))))) =
    (k1, (k2, (k3, (k4, (k5, (k6, (k7, (k8, (k9, (k10, (k11, (k12, (k13, (k14, (k15, (k16, (k17, (k18, (k19, (k20, (k21, (k22, (k23, (k24, (k28, (k29, (k30, (k31, tt))))))))))))))))))))))))))))

some_same : (c d : Command) → Some c ≡ Some d → c ≡ d
some_same c d e = cc

pub not_below : (n i k command : ℕ) → n ≡ i + k → command ≡ i → n < command → ⊥
not_below n i k command at same less = omega (arith, at, same, less)

pub its_command : (order : Ordering) (rec : List Command) (i : ℕ) (z : Status) (c : Command) (r : Refusal) → rule_refusal_of order rec i z c ≡ Some r → r.command ≡ i
unfolding rule_refusal_of
its_command order rec i z c r e = at_command i (rule_table order rec i z c) r e

its_rows : (order : Ordering) (rec : List Command) (i : ℕ) (z : Status) (c : Command) → rule_refusal_of order rec i z c ≡ None → AreKept (rule_table order rec i z c)
unfolding rule_refusal_of
its_rows order rec i z c e = kept_rows i (rule_table order rec i z c) e

-- what is so of the commands that are left, from number i on
abbrev KeptFrom : Ordering → List Command → ℕ → Status → List Command → Type 0
KeptFrom order rec i z cs =
    (n k : ℕ) (d : Command) → n ≡ i + k → slice_get cs k ≡ Some d → n < refused_from (i + length cs) (rule_refusal_from order rec i z cs)
    → AreKept (rule_table order rec n (status_at rec n) d)

kept_by : (order : Ordering) (rec : List Command) (i : ℕ) (z : Status) (c : Command) (cs : List Command) (n k : ℕ) (d : Command) (found : Option Refusal) → rule_refusal_of order rec i z c ≡ found
    → z ≡ status_at rec i → KeptFrom order rec (i + 1) (after i c z) cs → n ≡ i + k → slice_get (c ∷ cs) k ≡ Some d
    → n < refused_from (i + length (c ∷ cs)) (or_after found (rule_refusal_from order rec (i + 1) (after i c z) cs)) → AreKept (rule_table order rec n (status_at rec n) d)
kept_by order rec i z c cs n k d (Some r) found same later at is less = absurd (not_below n i k r.command at (its_command order rec i z c r found) less)
kept_by order rec i z c cs n zero d None found same later at is less =
    let here : i ≡ n = omega (arith, at) in
    subst (λ e. AreKept (rule_table order rec n (status_at rec n) e)) (some_same c d is)
    (subst (λ k. AreKept (rule_table order rec k (status_at rec k) c)) here
    (subst (λ s. AreKept (rule_table order rec i s c)) same (its_rows order rec i z c found)))
kept_by order rec i z c cs n (suc k) d None found same later at is less =
    let count : i + length (c ∷ cs) ≡ (i + 1) + length cs = omega arith in
    later n k d (omega (arith, at)) is (subst (λ m. n < refused_from m (rule_refusal_from order rec (i + 1) (after i c z) cs)) count less)

kept_from : (order : Ordering) (rec : List Command) (i : ℕ) (z : Status) (cs : List Command) → z ≡ status_at rec i → Follow rec i cs → KeptFrom order rec i z cs
kept_from order rec i z [] same follow = λ n k d at is less. absurd cc
kept_from order rec i z (c ∷ cs) same follow = λ n k d at is less.
    kept_by order rec i z c cs n k d (rule_refusal_of order rec i z c) refl same
    (kept_from order rec (i + 1) (after i c z) cs (next_status rec i z c (follow i 0 c (omega arith) refl) same)
    (λ q j x there found. follow q (suc j) x (omega (arith, there)) found))
    at is less

-- each such command keeps all rules
pub all_kept : (order : Ordering) (rec : List Command) (i : ℕ) (c : Command) → i < refused_from (length rec) (rule_refusal order rec) → slice_get rec i ≡ Some c
    → AreKept (rule_table order rec i (status_at rec i) c)
unfolding rule_refusal
all_kept order rec i c less is =
    let count : length rec ≡ 0 + length rec = omega arith in
    kept_from order rec 0 at_first rec refl (itself rec) i i c (omega arith) is
    (subst (λ m. i < refused_from m (rule_refusal_from order rec 0 at_first rec)) count less)

pub unrefused : UnrefusedKeepRules
unrefused order rec i c less is = static_rows order rec i (status_at rec i) c (all_kept order rec i c less is)
