-- What is so of a touch because of one of its cells is so of lists that reach the same alike.
use Rattle.std.proofs.Common.{◌≡◌, ◌⊎◌, ◌∷◌, [], ◌&&◌, ◌||◌, ◌==◌, ℕ, Bool, true, false, List, Option, Some, None, refl, sym, ◌∙◌, ap, inl, inr, arith}
use Rattle.std.specs.List.{list_any}
use Rattle.std.proofs.lemmas.Bool.Decides.{nat_tests}
use Rattle.ray_access.specs.declared.touched.Touched.{Touched}
use Rattle.ray_rules.specs.declared.access_type.AccessType.{AccessType}
use Rattle.ray_rules.specs.declared.access_type.AccessType.TheVariants.{ShaderWrite, StructureWrite, TransferWrite}
use Rattle.ray_rules.specs.declared.stage.Stage.{Stage}
use Rattle.ray_rules.specs.declared.stage.Stage.TheVariants.{Build, Compute, StructureCopy, Transfer}
use Rattle.ray_hazards.specs.Cells.{cell_of, has_cell}
use Rattle.ray_hazards.specs.Counting.{Counted}
use Rattle.ray_hazards.specs.Lanes.{MeetsUncovered}
use Rattle.ray_hazards.specs.Lasts.{AnyOf, IsLast, UncoveredIn, same_access}
use Rattle.ray_hazards.specs.Reaching.{ReachSame, reaches}
use Rattle.ray_hazards.proofs.Finds.{below-range, both, from-range, in-range, is-same, left, right, same-is}
use Rattle.ray_hazards.proofs.Lasts.{last-like}

-- something is so of a touch because of a cell: then it is so of each touch by that access to that thing
-- which has the cell
pub record IsBecause (starts : List ℕ) (P : Touched → Type 0) (t : Touched) : Type 0 where
  pub c : ℕ
  pub has : has_cell starts t.range c ≡ true
  pub so : (u : Touched) → u.access ≡ t.access → u.buffer ≡ t.buffer → has_cell starts u.range c ≡ true → P u

abbrev pub IsLocal : List ℕ → (Touched → Type 0) → Type 0
IsLocal starts P = (t : Touched) → P t → IsBecause starts P t

-- one of two things is so
pub local-either :
    (starts : List ℕ) (P Q : Touched → Type 0) → IsLocal starts P → IsLocal starts Q → IsLocal starts (λ t. P t ⊎ Q t)
local-either starts P Q first second t (inl p) =
    let b = first t p in record { c = b.c; has = b.has; so = λ u x y has. inl (b.so u x y has) }
local-either starts P Q first second t (inr q) =
    let b = second t q in record { c = b.c; has = b.has; so = λ u x y has. inr (b.so u x y has) }

-- what was written in one way, not covered
local-way :
    (counted : Counted) (starts : List ℕ) (stage : Stage) (way : AccessType) (n : ℕ) (to : Stage) (i : ℕ)
    → IsLocal starts (λ (t : Touched).
    UncoveredIn counted starts stage way t.buffer n to t.access (cell_of starts t.range.from) (cell_of starts t.range.end) i)
local-way counted starts stage way n to i t u =
    let (c, from, below, wrote) = u.cell in
    record {
      c = c;
      has = in-range starts t.range c from below;
      so = λ v x y has. record {
        cell = (c, from-range starts v.range c has, below-range starts v.range c has, wrote);
        uncovered = (λ j. counted.order.covered i stage way (y j) n to (x j)) ∙ u.uncovered;
      };
    }

-- and in whatever way
pub local-uncovered :
    (counted : Counted) (starts : List ℕ) (n : ℕ) (to : Stage) (i : ℕ)
    → IsLocal starts (λ t. MeetsUncovered counted starts n to t i)
local-uncovered counted starts n to i =
    local-either starts _ _
    (local-either starts _ _
    (local-either starts _ _ (local-way counted starts Transfer TransferWrite n to i) (local-way counted starts Build StructureWrite n to i))
    (local-either starts _ _ (local-way counted starts Build TransferWrite n to i) (local-way counted starts StructureCopy StructureWrite n to i)))
    (local-either starts _ _ (local-way counted starts StructureCopy TransferWrite n to i) (local-way counted starts Compute ShaderWrite n to i))

-- whether two things are one
abbrev same_thing : Option ℕ → Option ℕ → Bool
same_thing None None = true
same_thing (Some a) (Some b) = a == b
same_thing _ _ = false

thing-is : (a b : Option ℕ) → same_thing a b ≡ true → a ≡ b
thing-is None None e = refl
thing-is (Some a) (Some b) e = let same : a ≡ b = grind (arith, nat_tests) in ap Some same
thing-is None (Some b) e = absurd cc
thing-is (Some a) None e = absurd cc

is-thing : (a : Option ℕ) → same_thing a a ≡ true
is-thing None = refl
is-thing (Some a) = grind (arith, nat_tests)

-- a touch of which something is so, found by each test that finds it
record IsFound (P : Touched → Type 0) (ts : List Touched) : Type 0 where
  pub t : Touched
  pub so : P t
  pub there : (test : Touched → Bool) → test t ≡ true → list_any test ts ≡ true

found : (P : Touched → Type 0) (ts : List Touched) → AnyOf P ts → IsFound P ts
found P [] any = absurd any
found P (t ∷ ts) (inl p) = record { t = t; so = p; there = λ test e. first (test t) (list_any test ts) e }
  where
    first : (a b : Bool) → a ≡ true → (a || b) ≡ true
    first true b e = refl
    first false b e = absurd cc
found P (t ∷ ts) (inr any) =
    let rest = found P ts any in
    record { t = rest.t; so = rest.so; there = λ test e. later (test t) (list_any test ts) (rest.there test e) }
  where
    later : (a b : Bool) → b ≡ true → (a || b) ≡ true
    later true b e = refl
    later false b e = e

-- something is so of a touch that a test finds
any-found :
    (P : Touched → Type 0) (test : Touched → Bool) (ts : List Touched) → ((t : Touched) → test t ≡ true → P t)
    → list_any test ts ≡ true → AnyOf P ts
any-found P test [] each e = absurd cc
any-found P test (t ∷ ts) each e = choose (test t) (list_any test ts) e (each t) (any-found P test ts each)
  where
    choose : {A B : Type 0} (a b : Bool) → (a || b) ≡ true → (a ≡ true → A) → (b ≡ true → B) → A ⊎ B
    choose true b e g h = inl (g refl)
    choose false b e g h = inr (h e)

-- of lists that reach the same it is so alike
any-reached :
    (starts : List ℕ) (P : Touched → Type 0) (one other : List Touched) → IsLocal starts P → ReachSame starts one other
    → AnyOf P one → AnyOf P other
any-reached starts P one other local same any =
    let f = found P one any in
    let b = local f.t f.so in
    let test : AccessType → Option ℕ → Bool = λ x thing. same_access x f.t.access && same_thing thing f.t.buffer in
    let here : reaches starts test b.c f.t ≡ true =
    both (test f.t.access f.t.buffer) (has_cell starts f.t.range b.c)
    (both (same_access f.t.access f.t.access) (same_thing f.t.buffer f.t.buffer) (is-same f.t.access) (is-thing f.t.buffer)) b.has
    in
    any-found P (reaches starts test b.c) other
    (λ u e.
    let known = left (test u.access u.buffer) (has_cell starts u.range b.c) e in
    b.so u (same-is u.access f.t.access (left (same_access u.access f.t.access) (same_thing u.buffer f.t.buffer) known))
    (thing-is u.buffer f.t.buffer (right (same_access u.access f.t.access) (same_thing u.buffer f.t.buffer) known))
    (right (test u.access u.buffer) (has_cell starts u.range b.c) e))
    (sym (same test b.c) ∙ f.there (reaches starts test b.c) here)

-- the last command of which it is so
pub last-reached :
    (starts : List ℕ) (P : Touched → ℕ → Type 0) (one other : List Touched) (n r : ℕ)
    → ((i : ℕ) → IsLocal starts (λ t. P t i)) → ReachSame starts one other
    → IsLast (λ i. AnyOf (λ t. P t i) other) n r → IsLast (λ i. AnyOf (λ t. P t i) one) n r
last-reached starts P one other n r local same last =
    last-like (λ i. AnyOf (λ t. P t i) other) (λ i. AnyOf (λ t. P t i) one) n r
    (λ i l any. any-reached starts (λ t. P t i) other one (local i) (λ test c. sym (same test c)) any)
    (λ i l any. any-reached starts (λ t. P t i) one other (local i) same any) last
