-- The kinds of step by which a view changes. (Own.)
use Rattle.std.specs.Prelude.{◌≡◌, ℕ, ◌+◌, ◌-◌, ◌<◌, ◌≤◌, Bool, true, false, ◌||◌, List, [], ◌∷◌, ◌++◌, length, slice_set}
use mathlib.Core.Option.{some}
use lib.ListN.{get_elem?}
use Rattle.atomic_table.specs.Table.{Me, Step}
use Rattle.ray_claim.specs.declared.rule.View.{View}
use Rattle.ray_claim.specs.Rule.{times, IsClaimed}

-- a view of these parts
abbrev pub knows : List ℕ → Bool → Bool → ℕ → ℕ → View
knows drawn ended spent splits steps =
    record { drawn = drawn; ended = ended; spent = spent; splits = splits; steps = steps }

-- a split leaves the old seat one split less
abbrev pub cut : View → View
cut v = knows v.drawn v.ended v.spent (v.splits - 1) v.steps

-- the new seat of a split has drawn nothing, and is ended where the old one is
abbrev pub fresh : View → View
fresh v = knows [] v.ended false 0 0

-- a join puts two views together
abbrev pub both : View → View → View
both v w =
    knows (v.drawn ++ w.drawn) (v.ended || w.ended) v.spent (v.splits + w.splits)
    (v.steps + w.steps)

-- and leaves the second with nothing
abbrev pub spent : View
spent = knows [] false true 0 0

-- a draw found a number below n: the list grows by it alone, and has at most n numbers
abbrev pub Grows : ℕ → View → ℕ → View → Type 0
Grows n v k w = (w.drawn ≡ v.drawn ++ k ∷ []) × (w.ended ≡ v.ended) × (length w.drawn ≤ n)

-- a draw found no number: the list stays, and the seat is ended
abbrev pub Ends : View → View → Type 0
Ends v w = (w.drawn ≡ v.drawn) × (w.ended ≡ true)

-- the atomic step of a draw, of the numbers below n: it found this word, where a seat's view was v,
-- and left that seat with the view w
pub record IsFound (n : ℕ) (v : View) (word : ℕ) (w : View) : Type 0 where
  -- the views of all seats at that moment, this seat's among them, under the claim rule
  pub views : List View
  pub seat : ℕ
  pub known : get_elem? views seat ≡ some v
  pub was : IsClaimed n word views
  -- the step raised the word by one and changed this seat's view alone, which keeps the rule
  pub is : IsClaimed n (word + 1) (slice_set views seat w)
  pub counted : w.steps ≡ v.steps + 1
  -- no seat had drawn the number of that word
  pub alone : (id : ℕ) (u : View) → get_elem? views id ≡ some u → times word u.drawn ≡ 0
  -- it is drawn where it is below n, and else the seat is ended
  pub grows : word < n → Grows n v word w
  pub ends : n ≤ word → Ends v w

-- what a draw tells, of the number of numbers, the seat before, the word found and the seat after
abbrev pub Draws : ℕ → Step (Unit {0}) → Me (Unit {0}) View → ℕ → Me (Unit {0}) View → Type 0
Draws n _ before found after =
    (after.1 ≡ before.1) × (after.0.spent ≡ before.0.spent) × (after.0.splits ≡ before.0.splits)
    × IsFound n before.0 found after.0
