-- What opening a node adds to the turns that wait.
use Rattle.std.specs.Prelude.{ℕ, zero, suc, ◌≡◌, ◌++◌, ◌⊎◌, true, false, Option, Some, None, List, [], ◌∷◌}
use Rattle.std.specs.List.Sorted.{IsPermutation}
use Rattle.std.specs.Ordering.{is_le}
use Rattle.std.specs.declared.cmp.Ordering.TheVariants.{Equal}
use Rattle.ray_geom.specs.declared.ratio.Ratio.{Ratio}
use Rattle.ray_geom.specs.Ratio.{ratio_cmp, ratio_of}
use Rattle.ray_query.specs.declared.found.Found.{Found}
use Rattle.ray_nearest.specs.declared.node.WalkNode.{WalkNode}
use Rattle.ray_nearest.specs.declared.node.WalkNode.TheVariants.{TopInner, TopLeaf, Inner, Leaf}
use Rattle.ray_nearest.specs.declared.turn.Turn.{Turn}
use Rattle.ray_nearest.specs.declared.turn.Turn.TheVariants.{Node, Candidate}
use Rattle.ray_nearest.specs.Scene.{SceneValue}
use Rattle.ray_query.specs.Limits.{is_open}
use Rattle.ray_query.specs.Limits.{is_within}

-- a ratio has the value of an entry; which of the ratios of that value it is, is free
abbrev pub HasValue : Option Ratio → Ratio → Type 0
HasValue None e = ⊥
HasValue (Some a) e = ratio_cmp e a ≡ Equal

-- a ratio is no greater than an entry, if there is one
abbrev pub IsLow : Option Ratio → Ratio → Type 0
IsLow None e = Unit {0}
IsLow (Some a) e = is_le (ratio_cmp e a) ≡ true

-- at which ratios a node may wait: a leaf, whose primitives are tested, at its entry; each other one at any that is no greater (own)
abbrev pub MayWait : Option Ratio → WalkNode → Ratio → Type 0
MayWait entry (TopInner n) e = IsLow entry e
MayWait entry (TopLeaf n) e = IsLow entry e
MayWait entry (Inner i n) e = IsLow entry e
MayWait entry (Leaf i n) e = HasValue entry e

-- what a node adds: its turn; or none, where the ray doesn't meet its box within the limit
abbrev pub AddsNode : Option Ratio → (WalkNode → Option Ratio) → WalkNode → List Turn → Type 0
AddsNode limit entry n ts =
    ((ts ≡ []) × (is_open limit (entry n) ≡ false)) ⊎ ((e : Ratio) × MayWait (entry n) n e × (ts ≡ Node e n ∷ []))

-- what a thing that is found adds: its turn; or none, where it is beyond the limit
abbrev pub AddsFound : Option Ratio → Found → List Turn → Type 0
AddsFound limit f ts = ((ts ≡ []) × (is_within limit (ratio_of f.t) ≡ false)) ⊎ (ts ≡ Candidate f ∷ [])

-- turns were added, such as Q allows, and the others stayed, in whatever order
abbrev pub AddsOne : (List Turn → Type 0) → List Turn → List Turn → Type 0
AddsOne Q old new = (ts : List Turn) × Q ts × IsPermutation (ts ++ old) new

-- for each of a list, one after the other, turns were added such as P allows for it
abbrev pub Adds : {X : Type 0} → (X → List Turn → Type 0) → List X → List Turn → List Turn → Type 0
Adds P [] old new = IsPermutation old new
Adds P (x ∷ xs) old new = (mid : List Turn) × AddsOne (P x) old mid × Adds P xs mid new

-- nodes that stand for others: so many times one at which nothing is found is passed by, and the nodes below it stand in its place
abbrev pub Passes : SceneValue → ℕ → List WalkNode → List WalkNode → Type 0
Passes s zero ns ms = ns ≡ ms
Passes s (suc k) ns ms =
    (before : List WalkNode) × (n : WalkNode) × (after : List WalkNode) × (ns ≡ before ++ n ∷ after) × (s.finds n ≡ [])
    × Passes s k (before ++ (s.below n ++ after)) ms

-- the turns of nodes were added, or of nodes that stand for them
abbrev pub AddsNodes : Option Ratio → SceneValue → List WalkNode → List Turn → List Turn → Type 0
AddsNodes limit s ns old new = (k : ℕ) × (ms : List WalkNode) × Passes s k ns ms × Adds (AddsNode limit s.entry) ms old new

-- a node was opened: the turns of what is found there were added, and those of the nodes below it
abbrev pub IsOpened : Option Ratio → SceneValue → WalkNode → List Turn → List Turn → Type 0
IsOpened limit s n old new =
    (mid : List Turn) × Adds (AddsFound limit) (s.finds n) old mid × AddsNodes limit s (s.below n) mid new
