-- The climb rule: what holds of the shared words and of what all seats know, between any two atomic
-- steps, whatever seats step. (Own.)
use Rattle.std.specs.Prelude.{◌≡◌, ◌≢◌, ℕ, ◌+◌, ◌*◌, ◌/◌, ◌%◌, ◌<◌, ◌≤◌, ◌⊎◌, max, Bool, true, false, ◌==◌, if◌then◌else◌, List, [], ◌∷◌, length, slice_index}
use Rattle.atomic_table.specs.Table.{State}
use mathlib.Core.Option.{some}
use lib.ListN.{get_elem?}
use Rattle.ray_climb.specs.declared.rule.View.{View}
use Rattle.ray_climb.specs.declared.rule.Half.{Half}
use Rattle.ray_climb.specs.declared.rule.Half.TheVariants.{Below, Held, Stored}
use Rattle.ray_climb.specs.declared.rule.Hand.{Hand}
use Rattle.ray_climb.specs.declared.rule.Hand.TheVariants.{Empty, At}
use Rattle.ray_climb.specs.Frames.{Frame}

-- what a function gives for each view, added up
abbrev pub total : (View → ℕ) → List View → ℕ
total f [] = 0
total f (v ∷ vs) = f v + total f vs

-- how often a leaf stands in a list
abbrev pub times : ℕ → List ℕ → ℕ
times k [] = 0
times k (j ∷ js) = (if j == k then 1 else 0) + times k js

-- 1 where a hand holds a leaf, and where it stands at a node
abbrev pub holds : ℕ → Hand → ℕ
holds k Empty = 0
holds k (At leaf node low high) = if leaf == k then 1 else 0

abbrev pub stands : ℕ → Hand → ℕ
stands i Empty = 0
stands i (At leaf node low high) = if node == i then 1 else 0

-- how often a leaf stands in all todo lists, in all done lists and in all hands
abbrev pub todos : ℕ → List View → ℕ
todos k views = total (λ v. times k v.todo) views

abbrev pub dones : ℕ → List View → ℕ
dones k views = total (λ v. times k v.done) views

abbrev pub held : ℕ → List View → ℕ
held k views = total (λ v. holds k v.hand) views

-- how many hands are at a node
abbrev pub hands : ℕ → List View → ℕ
hands i views = total (λ v. stands i v.hand) views

-- whether the bit of the left child stands in a node's arrivals, or that of the right one
abbrev pub has : ℕ → Bool → Bool
has arrivals false = arrivals % 2 == 1
has arrivals true = arrivals / 2 == 1

-- the words of a node are the halves of its box over the new items
abbrev pub IsExact : Frame → (ℕ → ℕ) → (ℕ → ℕ) → ℕ → Type 0
IsExact t lows highs i = (lows i ≡ t.low i) × (highs i ≡ t.high i)

-- both bits of an inner node are set; a leaf is outside all todo lists
abbrev pub IsPassedBy : Frame → ℕ → List View → ℕ → Bool → Type 0
IsPassedBy t arrivals views i true = (has arrivals false ≡ true) × (has arrivals true ≡ true)
IsPassedBy t arrivals views i false = (k : ℕ) → k < t.leaves → t.node_of k ≡ i → todos k views ≡ 0

abbrev pub IsPassed : Frame → (ℕ → ℕ) → List View → ℕ → Type 0
IsPassed t arrivals views i = IsPassedBy t (arrivals i) views i (t.inner i)

-- the bit of a node stands at its parent
abbrev pub HasArrived : Frame → (ℕ → ℕ) → ℕ → Type 0
HasArrived t arrivals i = (i ≢ 0) × (has (arrivals (t.parent i)) (t.side i) ≡ true)

-- a node whose bit stands at its parent: it is exact, no hand is there, and it is passed
pub record IsDone (t : Frame) (arrivals lows highs : ℕ → ℕ) (views : List View) (i : ℕ) : Type 0 where
  pub exact : IsExact t lows highs i
  pub free : hands i views ≡ 0
  pub passed : IsPassed t arrivals views i

-- the half that a hand at a node has is the true one, and one that it has stored stands in the word
abbrev pub IsTrueHalf : Frame → (ℕ → ℕ) → ℕ → ℕ → Half → Type 0
IsTrueHalf t truth word node (Below child half) =
    (child < t.nodes) × (child ≢ 0) × (t.parent child ≡ node) × (half ≡ truth child)
IsTrueHalf t truth word node (Held half) = half ≡ truth node
IsTrueHalf t truth word node (Stored half) = (half ≡ truth node) × (word ≡ half)

abbrev pub is_stored : Half → Bool
is_stored (Below child half) = false
is_stored (Held half) = false
is_stored (Stored half) = true

-- what is so of a hand with a leaf at a node
pub record IsTrueAt (t : Frame) (lows highs : ℕ → ℕ) (leaf node : ℕ) (low high : Half) : Type 0 where
  pub leaf_small : leaf < t.leaves
  pub node_small : node < t.nodes
  -- at a leaf it holds that leaf
  pub own_leaf : t.inner node ≡ false → t.node_of leaf ≡ node
  -- its halves are true, and the low one is stored before the high one
  pub low_true : IsTrueHalf t t.low (lows node) node low
  pub high_true : IsTrueHalf t t.high (highs node) node high
  pub low_first : is_stored high ≡ true → is_stored low ≡ true

abbrev pub IsTrueHand : Frame → (ℕ → ℕ) → (ℕ → ℕ) → Hand → Type 0
IsTrueHand t lows highs Empty = Unit {0}
IsTrueHand t lows highs (At leaf node low high) = IsTrueAt t lows highs leaf node low high

-- the rule, of the three words of each node and the views of all seats
pub record IsClimb (t : Frame) (arrivals lows highs : ℕ → ℕ) (views : List View) : Type 0 where
  -- arrivals are two bits
  pub small : (i : ℕ) → i < t.nodes → arrivals i < 4
  -- (a) each leaf stands once in all todo lists, done lists and hands
  pub each_once : (k : ℕ) → k < t.leaves → todos k views + dones k views + held k views ≡ 1
  -- (b) a node's bit stands at its parent only where the node is done
  pub bits : (i : ℕ) → i < t.nodes → HasArrived t arrivals i → IsDone t arrivals lows highs views i
  -- (c) no two hands are at one node, and a hand at an inner node has both bits of that node set
  pub one_hand : (i : ℕ) → i < t.nodes → hands i views ≤ 1
  pub both_bits : (i : ℕ) → i < t.nodes → t.inner i ≡ true → 0 < hands i views
      → (has (arrivals i) false ≡ true) × (has (arrivals i) true ≡ true)
  -- (c) a hand at a leaf holds that leaf; (d) what a hand has is true, and what it has stored stands
  -- in its node's words
  pub true_hands : (id : ℕ) (v : View) → get_elem? views id ≡ some v → IsTrueHand t lows highs v.hand
  -- (e) a node that is passed has a hand at it, or its bit at its parent, or is the root and exact
  pub moves_on : (i : ℕ) → i < t.nodes → IsPassed t arrivals views i
      → (0 < hands i views) ⊎ (HasArrived t arrivals i ⊎ ((i ≡ 0) × IsExact t lows highs i))

-- how many words the table over a tree has: three for each node, and one where there is none
abbrev pub words_of : ℕ → ℕ
words_of nodes = max (3 * nodes) 1

-- the words of a node: its arrivals, and the low and the high half of its box
abbrev pub arrivals_in : List ℕ → ℕ → ℕ
arrivals_in words i = slice_index words (3 * i)

abbrev pub lows_in : List ℕ → ℕ → ℕ
lows_in words i = slice_index words (3 * i + 1)

abbrev pub highs_in : List ℕ → ℕ → ℕ
highs_in words i = slice_index words (3 * i + 2)

-- a table keeps the rule of a tree
pub record HasClimb (t : Frame) (s : State (Unit {0}) View) : Type 0 where
  pub long : length s.words ≡ words_of t.nodes
  -- the one word over a tree without a node is never changed
  pub unused : t.nodes ≡ 0 → slice_index s.words 0 ≡ 0
  pub rule : IsClimb t (arrivals_in s.words) (lows_in s.words) (highs_in s.words) s.views
