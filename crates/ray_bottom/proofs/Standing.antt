-- Where a sound structure is put, all that stand there are sound.
use Rattle.std.proofs.Common.{ℕ, ◌≡◌, ◌∙◌, Option, Some, sym, ap, subst, inl, inr}
use Rattle.std.specs.Prelude.{◌==◌, option_and_then, Result, Ok, Err, OnOk, OnErr}
use Rattle.std.proofs.lemmas.Bool.{cases_eq, cond-true, cond-false, eq-eqb, ne_eqb}
use Rattle.ray_bottom.specs.Slots.{AreSound, Changes, IsSound, Slots, slot_at, structure_at}
use Rattle.ray_bottom.specs.Trees.{BottomWithTree}

-- what stands in a slot
abbrev within : Option (Option BottomWithTree) → Option BottomWithTree
within slot = option_and_then (λ s. s) slot

pub sound-changed : (id : ℕ) (slot : Option (Option BottomWithTree)) (before after : Slots) → AreSound before → Changes id slot before after
    → ((b : BottomWithTree) → within slot ≡ Some b → IsSound b) → AreSound after
sound-changed id slot before after sound changes new = record {
  each = λ q b e. elim (cases_eq q id) [
    | inl same ↦ new b (ap within (sym (changes.each q ∙ cond-true (q == id) slot (slot_at q before) (eq-eqb q id same))) ∙ e)
    | inr differs ↦
        sound.each q b (ap within (sym (changes.each q ∙ cond-false (q == id) slot (slot_at q before) (ne_eqb q id differs))) ∙ e)
  ];
}

-- where room is made what stands there stays
pub sound-roomy : {E : Type 0} (id : ℕ) (before after : Slots) (r : Result (Unit {0}) E) → AreSound before
    → OnOk r (Changes id (Some (structure_at id before)) before after) → OnErr r (after ≡ before) → AreSound after
sound-roomy id before after (Ok x) sound ok err = sound-changed id (Some (structure_at id before)) before after sound ok (λ b e. sound.each id b e)
sound-roomy id before after (Err x) sound ok err = subst AreSound (sym err) sound
