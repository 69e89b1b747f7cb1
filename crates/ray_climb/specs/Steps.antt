-- The kinds of step by which a view changes. (Own.)
use Rattle.std.specs.Prelude.{◌≡◌, ℕ, ◌/◌, Bool, true, false, List, [], ◌∷◌, ◌++◌, ◌==◌, if◌then◌else◌, take, drop}
use Rattle.std.specs.List.{range_with_len}
use Rattle.atomic_table.specs.Table.{Me, Step}
use Rattle.ray_climb.specs.declared.rule.View.{View}
use Rattle.ray_climb.specs.declared.rule.Half.{Half}
use Rattle.ray_climb.specs.declared.rule.Half.TheVariants.{Below, Held, Stored}
use Rattle.ray_climb.specs.declared.rule.Hand.{Hand}
use Rattle.ray_climb.specs.declared.rule.Hand.TheVariants.{Empty, At}
use Rattle.ray_climb.specs.Halves.{lesser_half, greater_half}
use Rattle.ray_climb.specs.Rule.{has}

-- a view of these parts
abbrev pub knows : List ℕ → List ℕ → Hand → View
knows todo done hand = record { todo = todo; done = done; hand = hand }

-- what the first seat knows: all leaves are to be climbed from
abbrev pub first_view : ℕ → View
first_view leaves = knows (range_with_len 0 leaves) [] Empty

-- the view with another hand
abbrev pub with_hand : View → Hand → View
with_hand v hand = knows v.todo v.done hand

-- a list without the first place of a leaf
abbrev pub without : ℕ → List ℕ → List ℕ
without k [] = []
without k (j ∷ js) = if j == k then js else j ∷ without k js

-- a climb begins: its leaf goes from todo into the hand
abbrev pub begun : View → ℕ → Hand → View
begun v leaf hand = knows (without leaf v.todo) v.done hand

-- a climb ends: its leaf goes from the hand behind what is done
abbrev pub ended : View → ℕ → View
ended v leaf = knows v.todo (v.done ++ leaf ∷ []) Empty

-- a split leaves the old seat so many leaves, and its done list
abbrev pub front : ℕ → View → View
front keep v = knows (take keep v.todo) v.done Empty

-- and gives the new seat the others
abbrev pub back : ℕ → View → View
back keep v = knows (drop keep v.todo) [] Empty

-- a join puts two views together
abbrev pub both : View → View → View
both v w = knows (v.todo ++ w.todo) (v.done ++ w.done) Empty

-- and leaves the second with nothing
abbrev pub spent : View
spent = knows [] [] Empty

-- the bit of a child in its parent's arrivals, which is the left one or the right one
abbrev pub bit : Bool → ℕ
bit false = 1
bit true = 2

-- a half is stored
abbrev pub stored : Half → Half
stored (Below child half) = Below child half
stored (Held half) = Stored half
stored (Stored half) = Stored half

-- a half of a node is what its parent's hand has from below
abbrev pub below : ℕ → Half → Half
below node (Below child half) = Below child half
below node (Held half) = Below node half
below node (Stored half) = Below node half

-- a half of the sibling's box is loaded: the hand has that of its own node's box, by the two
abbrev pub loaded : (ℕ → ℕ → ℕ) → ℕ → Half → Half
loaded joined found (Below child half) = Held (joined half found)
loaded joined found (Held half) = Held half
loaded joined found (Stored half) = Stored half

abbrev pub low_stored : Hand → Hand
low_stored Empty = Empty
low_stored (At leaf node low high) = At leaf node (stored low) high

abbrev pub high_stored : Hand → Hand
high_stored Empty = Empty
high_stored (At leaf node low high) = At leaf node low (stored high)

abbrev pub low_loaded : ℕ → Hand → Hand
low_loaded found Empty = Empty
low_loaded found (At leaf node low high) = At leaf node (loaded lesser_half found low) high

abbrev pub high_loaded : ℕ → Hand → Hand
high_loaded found Empty = Empty
high_loaded found (At leaf node low high) = At leaf node low (loaded greater_half found high)

-- a hand ends at the root
abbrev pub let_go : View → Hand → View
let_go v Empty = v
let_go v (At leaf node low high) = ended v leaf

-- a hand has set its node's bit at the parent: where the other bit was there it moves to the parent,
-- and else its leaf is done
abbrev pub arrived : View → ℕ → Bool → Hand → View
arrived v parent other Empty = v
arrived v parent other (At leaf node low high) =
    if other then with_hand v (At leaf parent (below node low) (below node high)) else ended v leaf

-- What each kind of step tells: of the step, the seat before, the word found and the seat after.
abbrev pub Told : Type 1
Told = Step (Unit {0}) → Me (Unit {0}) View → ℕ → Me (Unit {0}) View → Type 0

-- the low half of a leaf's box is stored, the first store of a climb
abbrev pub Begins : ℕ → ℕ → Told
Begins leaf high it before found after =
    after ≡ (begun before.0 leaf (At leaf (it.word / 3) (Stored it.first) (Held high)), before.1)

-- the low half of an inner node's box is stored
abbrev pub StoresLow : Told
StoresLow it before found after = after ≡ (with_hand before.0 (low_stored before.0.hand), before.1)

-- the high half of a node's box is stored
abbrev pub StoresHigh : Told
StoresHigh it before found after = after ≡ (with_hand before.0 (high_stored before.0.hand), before.1)

-- and that of the root's
abbrev pub Ends : Told
Ends it before found after = after ≡ (let_go before.0 before.0.hand, before.1)

-- a child's bit is set
abbrev pub Arrives : Told
Arrives it before found after =
    after ≡ (arrived before.0 (it.word / 3) (has found (it.first == 1)) before.0.hand, before.1)

-- a half of the sibling's box is loaded
abbrev pub LoadsLow : Told
LoadsLow it before found after = after ≡ (with_hand before.0 (low_loaded found before.0.hand), before.1)

abbrev pub LoadsHigh : Told
LoadsHigh it before found after = after ≡ (with_hand before.0 (high_loaded found before.0.hand), before.1)
