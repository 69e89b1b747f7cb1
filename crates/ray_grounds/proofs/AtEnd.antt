-- Where the end of a recording is refused, the command buffer isn't idle there.
use Rattle.std.proofs.Common.{◌≡◌, ℕ, suc, ◌+◌, List, [], ◌∷◌, Bool, true, false, slice_get, Option, Some, None, refl, sym, ◌∙◌, ap, subst, arith, length, not}
use Rattle.std.specs.Option.{option_map}
use Rattle.std.proofs.lemmas.Option.{none-some, same_Some}
use Rattle.ray_cmd.specs.declared.command.Command.{Command}
use Rattle.ray_cmd.specs.declared.place.Place.{Place}
use Rattle.ray_cmd.specs.declared.refusal.Refusal.{Refusal}
use Rattle.ray_causes.proofs.Telling.{status_next}
use Rattle.ray_rules.specs.Hazards.{status_at}
use Rattle.ray_rules.specs.Order.{Ordering, barriers}
use Rattle.ray_rules.specs.Phases.{is_same_phase, v28_at_end}
use Rattle.ray_rules.specs.Places.{whole}
use Rattle.ray_rules.specs.Refusals.{Row, least_broken, or_after, refused}
use Rattle.ray_rules.specs.Status.{Status, after, at_first}
use Rattle.ray_rules.specs.Verdict.{rule_refusal, rule_refusal_from, rule_refusal_of, rule_table}
use Rattle.ray_rules.specs.declared.phase.Phase.{Phase}
use Rattle.ray_rules.specs.declared.phase.Phase.TheVariants.{Idle}
use Rattle.std.specs.Prelude.{IfSome}
use Rattle.ray_grounds.specs.Ends.{IsUnfinishedAt}

-- a refusal by a table is of its command
of_rows : (i : ℕ) (rows : List Row) (r : Refusal) → least_broken i rows ≡ Some r → r.command ≡ i
of_rows i [] r e = absurd (none-some r e)
of_rows i ((number, None) ∷ rows) r e = of_rows i rows r e
of_rows i ((number, Some place) ∷ rows) r e =
    sym (ap (λ (q : Refusal). q.command) (same_Some (refused i number place) r e))

of_command :
    (order : Ordering) (rec : List Command) (i : ℕ) (z : Status) (c : Command) (r : Refusal)
    → rule_refusal_of order rec i z c ≡ Some r → r.command ≡ i
unfolding rule_refusal_of
of_command order rec i z c r e = of_rows i (rule_table order rec i z c) r e

-- where there is a place, the rule is broken
is_broken : (odd : Bool) (r : Refusal) (i : ℕ) → option_map (refused i 28) (whole odd) ≡ Some r → odd ≡ true
is_broken true r i e = refl
is_broken false r i e = absurd (none-some r e)

end_next :
    (i : ℕ) (r : Refusal) (one later : Option Refusal) (P : Type 0) → (one ≡ Some r → ⊥) → or_after one later ≡ Some r
    → (later ≡ Some r → P) → P
end_next i r None later P other e rest = rest e
end_next i r (Some q) later P other e rest = absurd (other e)

end_from :
    (order : Ordering) (rec cs : List Command) (i : ℕ) (z : Status) (r : Refusal)
    → ((k : ℕ) → slice_get rec (i + k) ≡ slice_get cs k) → length rec ≡ i + length cs → z ≡ status_at rec i
    → rule_refusal_from order rec i z cs ≡ Some r → r.command ≡ length rec
    → not (is_same_phase Idle (status_at rec (length rec)).phase) ≡ true
end_from order rec [] i z r left long p e ends =
    let here : i ≡ length rec = omega (arith, long) in
    subst (λ (y : Status). not (is_same_phase Idle y.phase) ≡ true) (p ∙ ap (status_at rec) here)
    (is_broken (not (is_same_phase Idle z.phase)) r i e)
end_from order rec (c ∷ cs) i z r left long p e ends =
    let first : i ≡ i + 0 = omega arith in
    let at : slice_get rec i ≡ Some c = ap (slice_get rec) first ∙ left 0 in
    end_next i r (rule_refusal_of order rec i z c) (rule_refusal_from order rec (i + 1) (after i c z) cs)
    (not (is_same_phase Idle (status_at rec (length rec)).phase) ≡ true)
    (λ one. let same : r.command ≡ i = of_command order rec i z c r one in omega (arith, same, ends, long)) e
    (λ later. end_from order rec cs (i + 1) (after i c z) r
    (λ k. let more : (i + 1) + k ≡ i + suc k = omega arith in ap (slice_get rec) more ∙ left (suc k))
    (omega (arith, long)) (status_next rec i z (after i c z) c at p refl) later ends)

pub not_idle :
    (rec : List Command) (r : Refusal) → rule_refusal (barriers rec) rec ≡ Some r → r.command ≡ length rec
    → not (is_same_phase Idle (status_at rec (length rec)).phase) ≡ true
unfolding rule_refusal
not_idle rec r e ends =
    end_from (barriers rec) rec rec 0 at_first r
    (λ k. let none : 0 + k ≡ k = omega arith in ap (slice_get rec) none) (omega arith) refl e ends

-- and its state is what is told
pub unfinished :
    (rec : List Command) (r : Refusal) (z : Status) (phase : Phase) (found : Option Phase) → z ≡ status_at rec r.command → r.command ≡ length rec
    → phase ≡ z.phase → IfSome found (λ f. f ≡ phase) → IfSome found (λ f. is_same_phase Idle f ≡ false)
    → IfSome found (λ f. IsUnfinishedAt rec r f)
unfinished rec r z phase None at ends of is other = tt
unfinished rec r z phase (Some f) at ends of is other = record {
  ends = ends;
  is = ap (λ (y : Status). y.phase) (sym (at ∙ ap (status_at rec) ends)) ∙ (sym of ∙ sym is);
  other = other;
}
