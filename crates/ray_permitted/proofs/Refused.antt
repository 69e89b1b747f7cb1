-- The commands before the one that is refused break no rule.
use Rattle.std.proofs.Common.{◌≡◌, ◌+◌, ◌≤◌, ℕ, List, [], ◌∷◌, Option, Some, None, refl, subst, arith, length}
use Rattle.std.specs.Prelude.{option_map}
use Rattle.ray_cmd.specs.declared.command.Command.{Command}
use Rattle.ray_cmd.specs.declared.place.Place.{Place}
use Rattle.ray_cmd.specs.declared.refusal.Refusal.{Refusal}
use Rattle.ray_cmd.specs.Sources.{AreSourced}
use Rattle.ray_rules.specs.Hazards.{status_at}
use Rattle.ray_rules.specs.Order.{Ordering}
use Rattle.ray_rules.specs.Refusals.{AreKept, or_after, refused}
use Rattle.ray_rules.specs.Status.{Status, after, at_first}
use Rattle.ray_rules.specs.Verdict.{hazard_table, rule_refusal, rule_refusal_from, rule_refusal_of, rule_table}
use Rattle.ray_ready.specs.Accepted.{refused_from}
use Rattle.ray_ready.proofs.Unrefused.{all_kept, its_command, unrefused}
use Rattle.ray_permitted.specs.Laws.{UnrefusedBreakNoRule}
use Rattle.ray_permitted.proofs.Truth.{item_at}

-- the rules on hazards among all
hazard_rows : (order : Ordering) (rec : List Command) (i : ℕ) (z : Status) (c : Command) → AreKept (rule_table order rec i z c) → AreKept (hazard_table order rec i)
hazard_rows order rec i z c (k1, (k2, (k3, (k4, (k5, (k6, (k7, (k8, (k9, (k10, (k11, (k12, (k13, (k14, (k15, (k16, (k17, (k18, (k19, (k20, (k21, (k22, (k23, (k24, (k25, (k26, (k27, (k28, (k29, (k30, (k31, (k32, more)))))))))))))))))))))))))))))))) =
    (k25, (k26, (k27, (k32, tt))))

-- no command beyond the end is refused
within_end : (i : ℕ) (o : Option Place) → refused_from (i + 0) (option_map (refused i 28) o) ≤ i + 0
within_end i None = omega arith
within_end i (Some place) = omega arith

within_by : (order : Ordering) (rec : List Command) (i : ℕ) (z : Status) (c : Command) (cs : List Command) (found later : Option Refusal) → rule_refusal_of order rec i z c ≡ found
    → refused_from ((i + 1) + length cs) later ≤ (i + 1) + length cs → refused_from (i + length (c ∷ cs)) (or_after found later) ≤ i + length (c ∷ cs)
within_by order rec i z c cs (Some r) later found rest = let at : r.command ≡ i = its_command order rec i z c r found in omega (arith, at)
within_by order rec i z c cs None later found rest =
    let count : (i + 1) + length cs ≡ i + length (c ∷ cs) = omega arith in
    subst (λ m. refused_from m later ≤ m) count rest

within_count : (order : Ordering) (rec : List Command) (i : ℕ) (z : Status) (cs : List Command) → refused_from (i + length cs) (rule_refusal_from order rec i z cs) ≤ i + length cs
within_count order rec i z [] = within_end i _
within_count order rec i z (c ∷ cs) =
    within_by order rec i z c cs (rule_refusal_of order rec i z c) (rule_refusal_from order rec (i + 1) (after i c z) cs) refl (within_count order rec (i + 1) (after i c z) cs)

some_refused : (order : Ordering) (rec : List Command) → (refused_from (length rec) (rule_refusal order rec) ≤ length rec)
unfolding rule_refusal
some_refused order rec =
    let count : 0 + length rec ≡ length rec = omega arith in
    subst (λ m. refused_from m (rule_refusal_from order rec 0 at_first rec) ≤ m) count (within_count order rec 0 at_first rec)

pub break_no_rule : (rec : List Command) → AreSourced rec → UnrefusedBreakNoRule rec
break_no_rule rec sourced order clients n upto =
    let within : refused_from (length rec) (rule_refusal order rec) ≤ length rec = some_refused order rec in record {
      accepted = record {
        each = λ i c less is. record {
          rules = unrefused order rec i c (omega (arith, less, upto)) is;
          sources = sourced.each i c is;
        };
      };
      hazards = λ i less.
          let c = item_at rec i (omega (arith, less, upto, within)) in
          hazard_rows order rec i (status_at rec i) c.0 (all_kept order rec i c.0 (omega (arith, less, upto)) c.1);
    }
