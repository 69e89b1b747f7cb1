-- Steps of a grammar's readings as tests of a table's rows.
use Rattle.std.proofs.Common.{ℕ, ◌≡◌, ◌∙◌, List, [], ◌∷◌, Option, Some, None, Bool, true, false, refl, ap, sym}
use Rattle.std.specs.Prelude.{◌&&◌, codes, is_none, is_some, if◌then◌else◌, option_and_then}
use Rattle.serde_json.specs.Data.{Data, null, boolean, number, string, array, object, Items, no_items, item, Members}
use Rattle.serde_json.specs.Find.{get}
use Rattle.ray_json.specs.Fields.{◌>>=◌, at, at_if_there, guard, items_of, list_of, listed_at, listed_if_there, maybe, only, optional_at, u32_of}
use Rattle.ray_cmd.specs.Copies.{is_form}
use Rattle.ray_shape.specs.declared.leaf.Leaf.TheVariants as leaves
use Rattle.ray_shape.specs.declared.shape.Form.{Form}
use Rattle.ray_shape.specs.declared.shape.Item.TheVariants as items
use Rattle.ray_shape.specs.declared.shape.Need.TheVariants as needs
use Rattle.ray_shape.specs.declared.shape.Shape.{Shape}
use Rattle.ray_shape.specs.declared.shape.Shape.TheVariants as shapes
use Rattle.ray_shape.specs.Reads.{all_items, is_form_number, reads}
use Rattle.ray_shape.specs.Table.{fits, fits_found, has_form, has_members, may, members_of, must, never}

pub and_true : (b : Bool) → (b && true) ≡ b
and_true true = refl
and_true false = refl

pub and_false : (b : Bool) → (b && false) ≡ false
and_false true = refl
and_false false = refl

-- something is read after another exactly where both are
pub bind_is : {A B : Type 0} (x : Option A) (k : A → Option B) (b : Bool) → ((a : A) → is_some (k a) ≡ b) → is_some (x >>= k) ≡ (is_some x && b)
bind_is None k b each = refl
bind_is (Some a) k b each = each a

must_found : {A B : Type 0} (f : Data → Option A) (shape : Shape) (found : Option Data) (k : A → Option B) (rest : Bool) →
    ((e : Data) → is_some (f e) ≡ reads shape e) → ((a : A) → is_some (k a) ≡ rest) →
    is_some ((found >>= f) >>= k) ≡ (fits_found needs.Must shape found && rest)
must_found f shape None k rest same each = refl
must_found f shape (Some e) k rest same each = bind_is (f e) k rest each ∙ ap (λ b. b && rest) (same e)

-- a member that has to be there
pub must_then : {A B : Type 0} (f : Data → Option A) (shape : Shape) (name : List ℕ) (d : Data) (k : A → Option B) (rest : Bool) →
    ((e : Data) → is_some (f e) ≡ reads shape e) → ((a : A) → is_some (k a) ≡ rest) →
    is_some (at f name d >>= k) ≡ (fits (must name shape) d && rest)
must_then f shape name d k rest same each = must_found f shape (get name d) k rest same each

maybe_is : {A B : Type 0} (x : Option A) (k : Option A → Option B) (rest : Bool) → ((a : Option A) → is_some (k a) ≡ rest) →
    is_some (maybe x >>= k) ≡ (is_some x && rest)
maybe_is None k rest each = refl
maybe_is (Some a) k rest each = each (Some a)

may_found : {A B : Type 0} (f : Data → Option A) (shape : Shape) (found : Option Data) (k : Option A → Option B) (rest : Bool) →
    ((e : Data) → is_some (f e) ≡ reads shape e) → ((a : Option A) → is_some (k a) ≡ rest) →
    is_some (at_if_there f found >>= k) ≡ (fits_found needs.May shape found && rest)
may_found f shape None k rest same each = each None
may_found f shape (Some e) k rest same each = maybe_is (f e) k rest each ∙ ap (λ b. b && rest) (same e)

-- a member that may be there
pub may_then : {A B : Type 0} (f : Data → Option A) (shape : Shape) (name : List ℕ) (d : Data) (k : Option A → Option B) (rest : Bool) →
    ((e : Data) → is_some (f e) ≡ reads shape e) → ((a : Option A) → is_some (k a) ≡ rest) →
    is_some (optional_at f name d >>= k) ≡ (fits (may name shape) d && rest)
may_then f shape name d k rest same each = may_found f shape (get name d) k rest same each

listed_found : {B : Type 0} (found : Option Data) (k : List ℕ → Option B) (rest : Bool) → ((a : List ℕ) → is_some (k a) ≡ rest) →
    is_some (listed_if_there u32_of found >>= k) ≡ (fits_found needs.May (shapes.List items.Number) found && rest)
listed_found None k rest each = each []
listed_found (Some e) k rest each = bind_is (list_of u32_of e) k rest each

-- a list of ids that may be there
pub listed_then : {B : Type 0} (name : List ℕ) (d : Data) (k : List ℕ → Option B) (rest : Bool) → ((a : List ℕ) → is_some (k a) ≡ rest) →
    is_some (listed_at u32_of name d >>= k) ≡ (fits (may name (shapes.List items.Number)) d && rest)
listed_then name d k rest each = listed_found (get name d) k rest each

guard_is : {B : Type 0} (b : Bool) (k : Unit {0} → Option B) (rest : Bool) → ((u : Unit {0}) → is_some (k u) ≡ rest) → is_some (guard b >>= k) ≡ (b && rest)
guard_is true k rest each = each tt
guard_is false k rest each = refl

form_is : {B : Type 0} (x : Option ℕ) (k : Option ℕ → Unit {0} → Option B) (rest : Bool) → ((a : Option ℕ) (u : Unit {0}) → is_some (k a u) ≡ rest) →
    is_some (maybe x >>= λ form. guard (is_form form) >>= k form) ≡ (is_form_number x && rest)
form_is None k rest each = refl
form_is (Some n) k rest each = guard_is (is_form (Some n)) (k (Some n)) rest (each (Some n))

-- the number of a serialized form
pub form_then : {B : Type 0} (found : Option Data) (k : Option ℕ → Unit {0} → Option B) (rest : Bool) → ((a : Option ℕ) (u : Unit {0}) → is_some (k a u) ≡ rest) →
    is_some (at_if_there u32_of found >>= λ form. guard (is_form form) >>= k form) ≡ (fits_found needs.May (shapes.Leaf leaves.SerializedForm) found && rest)
form_then None k rest each = each None tt
form_then (Some e) k rest each = form_is (u32_of e) k rest each

no_source : {A B : Type 0} (x : Option A) (k : Option A → Unit {0} → Option B) → is_some (maybe x >>= λ src. guard (is_none src) >>= k src) ≡ false
no_source None k = refl
no_source (Some a) k = refl

-- a source that may not be there
pub never_then : {A B : Type 0} (f : Data → Option A) (shape : Shape) (found : Option Data) (k : Option A → Unit {0} → Option B) (rest : Bool) →
    ((a : Option A) (u : Unit {0}) → is_some (k a u) ≡ rest) →
    is_some (at_if_there f found >>= λ src. guard (is_none src) >>= k src) ≡ (fits_found needs.Never shape found && rest)
never_then f shape None k rest each = each None tt
never_then f shape (Some e) k rest each = no_source (f e) k

a_source : {A B : Type 0} (x : Option A) (k : Option A → Unit {0} → Option B) (rest : Bool) → ((a : Option A) (u : Unit {0}) → is_some (k a u) ≡ rest) →
    is_some (maybe x >>= λ src. guard (is_some src) >>= k src) ≡ (is_some x && rest)
a_source None k rest each = refl
a_source (Some a) k rest each = each (Some a) tt

-- a source that has to be there
pub source_then : {A B : Type 0} (f : Data → Option A) (shape : Shape) (found : Option Data) (k : Option A → Unit {0} → Option B) (rest : Bool) →
    ((e : Data) → is_some (f e) ≡ reads shape e) → ((a : Option A) (u : Unit {0}) → is_some (k a u) ≡ rest) →
    is_some (at_if_there f found >>= λ src. guard (is_some src) >>= k src) ≡ (fits_found needs.Must shape found && rest)
source_then f shape None k rest same each = refl
source_then f shape (Some e) k rest same each = a_source (f e) k rest each ∙ ap (λ b. b && rest) (same e)

two_are : {A B C D : Type 0} (x : Option A) (y : Option B) (f : A → B → C) (k : C → Option D) → ((c : C) → is_some (k c) ≡ true) →
    is_some ((x >>= λ a. y >>= λ b. Some (f a b)) >>= k) ≡ (is_some x && (is_some y && true))
two_are None y f k each = refl
two_are (Some a) None f k each = refl
two_are (Some a) (Some b) f k each = each (f a b)

-- two readings, one after the other, of which something is made
pub two_then : {A B C D : Type 0} (x : Option A) (y : Option B) (f : A → B → C) (k : C → Option D) (p q : Bool) → is_some x ≡ p → is_some y ≡ q →
    ((c : C) → is_some (k c) ≡ true) → is_some ((x >>= λ a. y >>= λ b. Some (f a b)) >>= k) ≡ (p && (q && true))
two_then x y f k p q e g each = two_are x y f k each ∙ (ap (λ b. b && (is_some y && true)) e ∙ ap (λ b. p && (b && true)) g)

-- one word more of a table that chooses a form
pub choose : {A B : Type 0} (b : Bool) (x : A) (rest : Option A) (k : A → Option B) (form : Form) (others : Option Form) (d : Data) →
    is_some (k x) ≡ has_members (members_of form) d → is_some (rest >>= k) ≡ has_form others d →
    is_some ((if b then Some x else rest) >>= k) ≡ has_form (if b then Some form else others) d
choose true x rest k form others d p q = p
choose false x rest k form others d p q = q

-- the items of a list
pub items_law : {A : Type 0} (f : Data → Option A) (test : Data → Bool) → ((e : Data) → is_some (f e) ≡ test e) → (ds : Items) → is_some (items_of f ds) ≡ all_items test ds
items_law f test same no_items = refl
items_law f test same (item d ds) =
    bind_is (f d) _ (all_items test ds) (λ x. bind_is (items_of f ds) _ true (λ xs. refl) ∙ (and_true (is_some (items_of f ds)) ∙ items_law f test same ds))
    ∙ ap (λ b. b && all_items test ds) (same d)
