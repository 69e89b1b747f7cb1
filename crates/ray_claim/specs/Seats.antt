-- How contracts see claims and their seats. (Own.)
use Rattle.std.specs.Prelude.{◌≡◌, ℕ, Bool, false, List}
use Rattle.atomic_table.specs.Seated.{TableId}
use Rattle.ray_claim.specs.declared.rule.View.{View}
use Rattle.ray_claim.specs.Steps.{knows}

-- claims of the numbers below n, and the table that its seats have too
pub record ClaimsView : Type 0 where
  pub table : TableId
  pub n : ℕ

-- a seat of a table: the numbers that it has drawn, in order, whether it is ended, how often it can
-- still be split, and how many steps of the word it has taken
pub record SeatView : Type 0 where
  pub table : TableId
  pub drawn : List ℕ
  pub ended : Bool
  pub splits : ℕ
  pub steps : ℕ

-- the seat with these
abbrev pub seat_view : TableId → List ℕ → Bool → ℕ → ℕ → SeatView
seat_view table drawn ended splits steps =
    record { table = table; drawn = drawn; ended = ended; splits = splits; steps = steps }

-- the view that the rule has of it; a seat that someone has isn't spent
abbrev pub view_of : SeatView → View
view_of s = knows s.drawn s.ended false s.splits s.steps

-- both seats are of this table
abbrev pub AreOf : TableId → SeatView → SeatView → Type 0
AreOf table one other = (one.table ≡ table) × (other.table ≡ table)
