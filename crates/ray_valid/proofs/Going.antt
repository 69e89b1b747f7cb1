-- One command more of a recording is looked at.
use Rattle.std.proofs.Common.{◌≡◌, ◌+◌, ◌∷◌, ◌∙◌, ℕ, List, Option, Some, None, drop, ap, slice_get}
use Rattle.std.proofs.Common.{add-one, refl, suc}
use Rattle.std.proofs.Math.Seq.{drop-cons}
use Rattle.std.proofs.lemmas.Option.{get_or_from_slice_get, slice_get_within}
use Rattle.ray_cmd.specs.declared.command.Command.{Command}
use Rattle.ray_cmd.specs.declared.refusal.Refusal.{Refusal}
use Rattle.ray_rules.specs.Refusals.{or_after, static_refusal_from, static_refusal_of}
use Rattle.ray_rules.specs.Status.{Status, after}

-- what is left begins with the command
next : {X : Type 0} (xs : List X) (i : ℕ) (x : X) → slice_get xs i ≡ Some x → drop i xs ≡ x ∷ drop (i + 1) xs
next xs i x there =
    rw (drop-cons xs i x (slice_get_within xs i x there), add-one)
    (ap (λ y. y ∷ drop (suc i) xs) (get_or_from_slice_get xs i x x there))

-- a command that is refused is the first
pub stops : (rec : List Command) (i : ℕ) (z : Status) (c : Command) (r : Refusal) → slice_get rec i ≡ Some c
    → static_refusal_of rec i z c ≡ Some r → static_refusal_from rec i z (drop i rec) ≡ Some r
stops rec i z c r there refused =
    ap (static_refusal_from rec i z) (next rec i c there)
    ∙ ap (λ o. or_after o (static_refusal_from rec (i + 1) (after i c z) (drop (i + 1) rec))) refused

-- a command that isn't refused leaves it to those after it
pub goes_on : (rec : List Command) (i : ℕ) (z : Status) (c : Command) → slice_get rec i ≡ Some c
    → static_refusal_of rec i z c ≡ None
    → static_refusal_from rec i z (drop i rec) ≡ static_refusal_from rec (i + 1) (after i c z) (drop (i + 1) rec)
goes_on rec i z c there kept =
    ap (static_refusal_from rec i z) (next rec i c there)
    ∙ ap (λ o. or_after o (static_refusal_from rec (i + 1) (after i c z) (drop (i + 1) rec))) kept

-- what is no answer is none
pub not_some : {X : Type 0} (o : Option X) → ((x : X) → o ≡ Some x → ⊥) → o ≡ None
not_some None h = refl
not_some (Some x) h = absurd (h x refl)
