-- Tops that may refer to no stale structure: they stay so as long as structures do, and one more is put to them.
use Rattle.std.proofs.Common.{◌≡◌, ◌∙◌, ◌||◌, ℕ, Bool, true, false, List, Option, Some, None, ap, refl, subst, sym}
use Rattle.std.specs.Prelude.{◌==◌}
use Rattle.std.specs.Option.{option_and_then}
use Rattle.std.proofs.lemmas.Bool.{eqb-true}
use Rattle.ray_cmd.specs.declared.command.Command.{Command}
use Rattle.ray_rules.specs.declared.built.Built.{Built}
use Rattle.ray_rules.specs.declared.live_structure.LiveStructure.{LiveStructure}
use Rattle.ray_rules.specs.Ids.{look}
use Rattle.ray_rules.specs.Origins.{uses_of}
use Rattle.ray_rules.specs.Places.{first_part}
use Rattle.ray_rules.specs.Refusals.{AreKept, static_table}
use Rattle.ray_rules.specs.Sources.{first_stale, is_stale_structure, v21}
use Rattle.ray_rules.specs.Status.{Status, built_at}
use Rattle.ray_valid.specs.Parts.{AreFresh, HasAdded, has_id}

-- what is stale is told by structures alone
stale-same :
    (rec : List Command) (z w : Status) (built : Option Built) → w.structures ≡ z.structures
    → first_stale rec w built ≡ first_stale rec z built
stale-same rec z w None e = refl
stale-same rec z w (Some built) e = λ i.
    first_part (λ id. is_stale_structure built.stamp (look (e i) id)) (uses_of rec built)

-- structures that stay leave them fresh
pub fresh-kept :
    (rec : List Command) (z w : Status) (ids : List ℕ) → w.structures ≡ z.structures → AreFresh rec z ids
    → AreFresh rec w ids
fresh-kept rec z w ids e are top there =
    ap (first_stale rec w) (λ i. option_and_then (λ (s : LiveStructure). s.built) (look (e i) top))
    ∙ (stale-same rec z w (built_at z top) e ∙ are top there)

-- one top more
pub fresh-more :
    (rec : List Command) (z : Status) (old new : List ℕ) (top : ℕ) → HasAdded (λ test. test top) old new
    → first_stale rec z (built_at z top) ≡ None → AreFresh rec z old → AreFresh rec z new
fresh-more rec z old new top added here are t there =
    choose (top == t) (has_id old t) (sym (added (λ u. u == t)) ∙ there)
    (λ e. subst (λ k. first_stale rec z (built_at z k) ≡ None) (eqb-true top t e) here) (are t)
  where
    choose : {A : Type 0} (a b : Bool) → (a || b) ≡ true → (a ≡ true → A) → (b ≡ true → A) → A
    choose true b e g h = g refl
    choose false b e g h = h e

-- a command that keeps all rules of the table keeps V21
pub v21-kept : (rec : List Command) (z : Status) (c : Command) → AreKept (static_table rec z c) → v21 rec z c ≡ None
v21-kept rec z c are = are.1.1.1.1.1.1.1.1.1.1.1.1.1.1.1.1.1.1.1.1.0
