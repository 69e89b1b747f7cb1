-- The claim rule: what holds of the shared word c and of what all seats know, between any two
-- atomic steps, whatever seats step. (Own.)
use Rattle.std.specs.Prelude.{◌≡◌, ℕ, ◌+◌, ◌≤◌, true, ◌||◌, ◌==◌, nat_lt, if◌then◌else◌, min, List, [], ◌∷◌, length, slice_index}
use mathlib.Core.Option.{some}
use lib.ListN.{get_elem?}
use Rattle.atomic_table.specs.Table.{State}
use Rattle.ray_claim.specs.declared.rule.View.{View}

-- what a function gives for each view, added up
abbrev pub total : (View → ℕ) → List View → ℕ
total f [] = 0
total f (v ∷ vs) = f v + total f vs

-- how often x stands in the list
abbrev pub times : ℕ → List ℕ → ℕ
times x [] = 0
times x (y ∷ ys) = (if y == x then 1 else 0) + times x ys

-- how often x stands in a list that has each number below the bound once, and no other
abbrev pub once_below : ℕ → ℕ → ℕ
once_below x bound = if nat_lt x bound then 1 else 0

-- one for a view that is ended or spent
abbrev pub mark : View → ℕ
mark v = if v.ended || v.spent then 1 else 0

-- the rule, of the numbers below n, the word c and the views of all seats
pub record IsClaimed (n c : ℕ) (views : List View) : Type 0 where
  -- the drawn lists have each number below c and n once together, and no other
  pub each_once : (x : ℕ) → total (λ v. times x v.drawn) views ≡ once_below x (min c n)
  -- where a view is ended, all numbers are drawn
  pub ended : (id : ℕ) (v : View) → get_elem? views id ≡ some v → v.ended ≡ true → n ≤ c
  -- so the word never wraps
  pub at_most : c ≤ n + total mark views
  -- the word is the number of steps that all seats have taken
  pub steps : total (λ v. v.steps) views ≡ c
  -- there are never more than 65,536 seats
  pub seats : length views + total (λ v. v.splits) views ≡ 65536
  -- a spent view has nothing
  pub spent : (id : ℕ) (v : View) → get_elem? views id ≡ some v → v.spent ≡ true
      → (v.drawn ≡ []) × (v.splits ≡ 0)

-- a table with one word keeps the rule
abbrev pub HasClaims : ℕ → State (Unit {0}) View → Type 0
HasClaims n s = (length s.words ≡ 1) × IsClaimed n (slice_index s.words 0) s.views
