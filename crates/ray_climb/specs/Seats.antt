-- How contracts see a climb and its seats. (Own.)
use Rattle.std.specs.List.{range_with_len}
use Rattle.std.specs.Prelude.{◌≡◌, ◌-◌, ◌<◌, ℕ, List, [], length, take, drop}
use Rattle.atomic_table.specs.Seated.{TableId}
use Rattle.ray_tree.specs.Trees.{TreeValue, leaves_of}
use Rattle.ray_climb.specs.Refits.{RefitValue}
use Rattle.ray_climb.specs.Rule.{times}

-- which climb it is: its table, and how many leaves its tree has
pub record ClimbId : Type 0 where
  pub table : TableId
  pub leaves : ℕ

-- a climb: which one it is, and its tree and new items
pub record ClimbView : Type 0 where
  pub id : ClimbId
  pub refit : RefitValue

-- a seat: of which climb it is, the leaves that it still has to climb from, and those from which
-- it has climbed
pub record SeatView : Type 0 where
  pub id : ClimbId
  pub todo : List ℕ
  pub done : List ℕ

abbrev pub climb_id : TableId → ℕ → ClimbId
climb_id table leaves = record { table = table; leaves = leaves }

abbrev pub seat_view : ClimbId → List ℕ → List ℕ → SeatView
seat_view id todo done = record { id = id; todo = todo; done = done }

-- a seat that keeps the first so many leaves that it has to climb from, and a new one that has
-- the others
abbrev pub keeping : ℕ → SeatView → SeatView
keeping many s = seat_view s.id (take many s.todo) s.done

abbrev pub leaving : ℕ → SeatView → SeatView
leaving many s = seat_view s.id (drop many s.todo) []

-- a list has leaf numbers alone
pub record AreLeaves (leaves : ℕ) (list : List ℕ) : Type 0 where
  pub each : (k : ℕ) → 0 < times k list → k < leaves

-- a list has each leaf of a tree once
pub record HasEachLeaf (tree : TreeValue) (done : List ℕ) : Type 0 where
  pub once : (k : ℕ) → k < length (leaves_of tree) → times k done ≡ 1

-- a seat of a climb has to climb from the leaves from one number up to another, and has climbed
-- from none
abbrev pub HasTodo : ClimbId → ℕ → ℕ → SeatView → Type 0
HasTodo id from to seat = seat ≡ seat_view id (range_with_len from (to - from)) []

-- or it has climbed from them
abbrev pub HasDone : ClimbId → ℕ → ℕ → SeatView → Type 0
HasDone id from to seat = seat ≡ seat_view id [] (range_with_len from (to - from))
