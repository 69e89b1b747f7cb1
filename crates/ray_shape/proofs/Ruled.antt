-- A script's rule is read by its form.
use Rattle.std.proofs.Common.{ℕ, ◌≡◌, ◌∙◌, List, [], ◌∷◌, Option, Some, None, Bool, true, false, refl, ap, sym}
use Rattle.std.specs.Prelude.{◌&&◌, codes, is_none, is_some, if◌then◌else◌, option_and_then}
use Rattle.serde_json.specs.Data.{Data, null, boolean, number, string, array, object, Items, no_items, item, Members}
use Rattle.serde_json.specs.Find.{get}
use Rattle.std.specs.Str.{bytes_eq}
use Rattle.ray_json.specs.Fields.{◌>>=◌, at, only, optional_at, text_of, u64_of, word_of}
use Rattle.ray_script.specs.declared.raw_choice.RawChoice.{RawChoice}
use Rattle.ray_script.specs.declared.raw_choice.RawChoice.TheVariants as choices
use Rattle.ray_script.specs.declared.raw_rule.RawRule.{RawRule}
use Rattle.ray_script.specs.Rules.{rule_of}
use Rattle.ray_shape.specs.declared.leaf.Leaf.TheVariants as leaves
use Rattle.ray_shape.specs.declared.shape.Form.{Form}
use Rattle.ray_shape.specs.declared.shape.Form.TheVariants as forms
use Rattle.ray_shape.specs.declared.shape.Need.TheVariants as needs
use Rattle.ray_shape.specs.declared.shape.Shape.{Shape}
use Rattle.ray_shape.specs.Forms.{choice_forms}
use Rattle.ray_shape.specs.Reads.{reads}
use Rattle.ray_shape.specs.Table.{fits_found, has_form, has_members, members_of, number64}
use Rattle.ray_shape.proofs.Steps.{bind_is, choose, may_then, two_then}

-- what a word chooses, wherever it stands
by_word : {A B : Type 0} (found : Option Data) (find : List ℕ → Option A) (k : A → Option B) (form : List ℕ → Option Form) (d : Data) →
    ((w : List ℕ) → is_some (find w >>= k) ≡ has_form (form w) d) →
    is_some ((found >>= λ e. text_of e >>= find) >>= k) ≡ has_form (found >>= λ e. text_of e >>= form) d
by_word None find k form d each = refl
by_word (Some null) find k form d each = refl
by_word (Some (boolean b)) find k form d each = refl
by_word (Some (number n)) find k form d each = refl
by_word (Some (string w)) find k form d each = each w
by_word (Some (array es)) find k form d each = refl
by_word (Some (object ms)) find k form d each = refl

-- a number that has to be there
needed : (found : Option Data) → is_some (found >>= u64_of) ≡ fits_found needs.Must number64 found
needed None = refl
needed (Some e) = refl

abbrev made : Option ℕ → Option ℕ → Option ℕ → Option ℕ → Option ℕ → RawChoice → Option RawRule
made ray instance geometry primitive nth choice =
    Some (record { ray = ray; instance = instance; geometry = geometry; primitive = primitive; nth = nth; choice = choice })

-- a rule without a distance
plain : (d : Data) (decided : RawChoice) → is_some (
    only (codes "ray" ∷ codes "instance" ∷ codes "geometry" ∷ codes "primitive" ∷ codes "nth" ∷ codes "do" ∷ []) d >>= λ u.
    optional_at u64_of (codes "ray") d >>= λ ray.
    optional_at u64_of (codes "instance") d >>= λ instance.
    optional_at u64_of (codes "geometry") d >>= λ geometry.
    optional_at u64_of (codes "primitive") d >>= λ primitive.
    optional_at u64_of (codes "nth") d >>= λ nth.
    Some decided >>= λ choice.
    made ray instance geometry primitive nth choice)
    ≡ has_members (members_of forms.Rule) d
plain d decided = bind_is (only (codes "ray" ∷ codes "instance" ∷ codes "geometry" ∷ codes "primitive" ∷ codes "nth" ∷ codes "do" ∷ []) d) _ _ (λ u. may_then u64_of number64 (codes "ray") d _ _ (λ e. refl) (λ x0. may_then u64_of number64 (codes "instance") d _ _ (λ e. refl) (λ x1. may_then u64_of number64 (codes "geometry") d _ _ (λ e. refl) (λ x2. may_then u64_of number64 (codes "primitive") d _ _ (λ e. refl) (λ x3. may_then u64_of number64 (codes "nth") d _ _ (λ e. refl) (λ x4. refl))))))

-- a rule with one
distant : (d : Data) → is_some (
    only (codes "ray" ∷ codes "instance" ∷ codes "geometry" ∷ codes "primitive" ∷ codes "nth" ∷ codes "do" ∷ codes "num" ∷ codes "den" ∷ []) d >>= λ u.
    optional_at u64_of (codes "ray") d >>= λ ray.
    optional_at u64_of (codes "instance") d >>= λ instance.
    optional_at u64_of (codes "geometry") d >>= λ geometry.
    optional_at u64_of (codes "primitive") d >>= λ primitive.
    optional_at u64_of (codes "nth") d >>= λ nth.
    (at u64_of (codes "num") d >>= λ num. at u64_of (codes "den") d >>= λ den. Some (choices.At num den)) >>= λ choice.
    made ray instance geometry primitive nth choice)
    ≡ has_members (members_of forms.RuleAt) d
distant d = bind_is (only (codes "ray" ∷ codes "instance" ∷ codes "geometry" ∷ codes "primitive" ∷ codes "nth" ∷ codes "do" ∷ codes "num" ∷ codes "den" ∷ []) d) _ _ (λ u. may_then u64_of number64 (codes "ray") d _ _ (λ e. refl) (λ x0. may_then u64_of number64 (codes "instance") d _ _ (λ e. refl) (λ x1. may_then u64_of number64 (codes "geometry") d _ _ (λ e. refl) (λ x2. may_then u64_of number64 (codes "primitive") d _ _ (λ e. refl) (λ x3. may_then u64_of number64 (codes "nth") d _ _ (λ e. refl) (λ x4. two_then (at u64_of (codes "num") d) (at u64_of (codes "den") d) _ _ _ _ (needed (get (codes "num") d)) (needed (get (codes "den") d)) (λ choice. refl)))))))

pub rule_law : (d : Data) → is_some (rule_of d) ≡ has_form (at (word_of choice_forms) (codes "do") d) d
unfolding rule_of
rule_law d = by_word (get (codes "do") d) _ _ _ d (λ w.
    choose (bytes_eq (codes "ignore") w) _ _ _ forms.Rule _ d (plain d choices.Ignore) (
    choose (bytes_eq (codes "confirm") w) _ _ _ forms.Rule _ d (plain d choices.Confirm) (
    choose (bytes_eq (codes "entry") w) _ _ _ forms.Rule _ d (plain d choices.Entry) (
    choose (bytes_eq (codes "exit") w) _ _ _ forms.Rule _ d (plain d choices.Exit) (
    choose (bytes_eq (codes "at") w) _ _ _ forms.RuleAt _ d (distant d) (
    choose (bytes_eq (codes "terminate") w) _ _ _ forms.Rule _ d (plain d choices.Terminate) (
    choose (bytes_eq (codes "confirm_terminate") w) _ _ _ forms.Rule _ d (plain d choices.ConfirmTerminate) (
    refl))))))))
