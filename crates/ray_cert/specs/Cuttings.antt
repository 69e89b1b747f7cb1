-- Cuttings of a tree: what of it is tested, and where it is cut off; and the digits that spell one. (Own.)
--
-- By hand: a tree of one leaf, `Tip 0 0 1`, has two cuttings. `Shut` is spelled 0, `Tested` is spelled 1. In a tree whose root has two
-- leaves, 1 0 1 is the cutting whose right leaf alone is tested; 1 1 spells none, since the right child's digit is missing, and 0 1
-- none, since nothing follows a 0.
use Rattle.std.specs.Prelude.{ℕ, ◌++◌, Bool, true, false, if◌then◌else◌, List, [], ◌∷◌, take, drop}
use Rattle.ray_tree.specs.Shapes.{Shape, Gone, Tip, Fork}

-- nothing, of a tree without nodes; a node that is cut off; a leaf whose items are tested; an inner node that is opened
pub data Cutting : Type 0 where
  Bare : Cutting
  Shut : Cutting
  Tested : Cutting
  Split : (left right : Cutting) → Cutting

-- a cutting is one of a tree of this shape
abbrev pub Fits : Shape → Cutting → Type 0
Fits Gone Bare = Unit {0}
Fits Gone Shut = ⊥
Fits Gone Tested = ⊥
Fits Gone (Split l r) = ⊥
Fits (Tip node first count) Bare = ⊥
Fits (Tip node first count) Shut = Unit {0}
Fits (Tip node first count) Tested = Unit {0}
Fits (Tip node first count) (Split l r) = ⊥
Fits (Fork node left right) Bare = ⊥
Fits (Fork node left right) Shut = Unit {0}
Fits (Fork node left right) Tested = ⊥
Fits (Fork node left right) (Split l r) = Fits left l × Fits right r

-- its digits: 0 where it is cut off, 1 where a leaf is tested, and 1 where an inner node is opened, before those of the left and of
-- the right child (own)
abbrev pub marks : Cutting → List Bool
marks Bare = []
marks Shut = false ∷ []
marks Tested = true ∷ []
marks (Split l r) = true ∷ (marks l ++ marks r)

-- the numbers of the nodes at which it is cut off
abbrev pub shut_of : Shape → Cutting → List ℕ
shut_of Gone cut = []
shut_of (Tip node first count) Bare = []
shut_of (Tip node first count) Shut = node ∷ []
shut_of (Tip node first count) Tested = []
shut_of (Tip node first count) (Split l r) = []
shut_of (Fork node left right) Bare = []
shut_of (Fork node left right) Shut = node ∷ []
shut_of (Fork node left right) Tested = []
shut_of (Fork node left right) (Split l r) = shut_of left l ++ shut_of right r

-- the items of the leaves that are tested, of a tree with its items in this order
abbrev pub tested_of : List ℕ → Shape → Cutting → List ℕ
tested_of order Gone cut = []
tested_of order (Tip node first count) Bare = []
tested_of order (Tip node first count) Shut = []
tested_of order (Tip node first count) Tested = take count (drop first order)
tested_of order (Tip node first count) (Split l r) = []
tested_of order (Fork node left right) Bare = []
tested_of order (Fork node left right) Shut = []
tested_of order (Fork node left right) Tested = []
tested_of order (Fork node left right) (Split l r) = tested_of order left l ++ tested_of order right r

-- the cutting that is cut off at just those nodes, reached from the root, of which a test is false
abbrev pub cut_by : (ℕ → Bool) → Shape → Cutting
cut_by test Gone = Bare
cut_by test (Tip node first count) = if test node then Tested else Shut
cut_by test (Fork node left right) = if test node then Split (cut_by test left) (cut_by test right) else Shut
