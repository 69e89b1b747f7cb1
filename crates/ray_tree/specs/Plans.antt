-- Trees without numbers, and how they are numbered: nodes one after the other, a left child right after its
-- parent. The builders make their nodes so; no clause of a public call speaks of it. (Own.)
use Rattle.std.specs.Prelude.{◌≡◌, ◌+◌, ◌-◌, ◌/◌, ◌<◌, ◌≤◌, ℕ, zero, suc, nat_le, if◌then◌else◌, List, [], ◌∷◌, ◌++◌, length, max}
use Rattle.ray_tree.specs.declared.node.Node.{Node}
use Rattle.ray_tree.specs.declared.node.Node.TheVariants.{Leaf, Inner}
use Rattle.ray_tree.specs.Shapes.{Shape, Tip, Fork, node_at}

-- a leaf over so many places, or two trees
pub data Plan : Type 0 where
  Few : (count : ℕ) → Plan
  Both : (left right : Plan) → Plan

-- how many nodes it has
abbrev pub size : Plan → ℕ
size (Few count) = 1
size (Both left right) = 1 + (size left + size right)

-- how many places
abbrev pub places_of : Plan → ℕ
places_of (Few count) = count
places_of (Both left right) = places_of left + places_of right

-- how many levels of nodes it has
abbrev pub height_of : Plan → ℕ
height_of (Few count) = 1
height_of (Both left right) = max (height_of left) (height_of right) + 1

-- its nodes from number `at` on, over the places from `first` on
abbrev pub spell : ℕ → ℕ → Plan → List Node
spell at first (Few count) = Leaf first count ∷ []
spell at first (Both left right) =
    Inner (at + 1) ((at + 1) + size left) ∷ (spell (at + 1) first left ++ spell ((at + 1) + size left) (first + places_of left) right)

-- what is then from its root down
abbrev pub label : ℕ → ℕ → Plan → Shape
label at first (Few count) = Tip at first count
label at first (Both left right) =
    Fork at (label (at + 1) first left) (label ((at + 1) + size left) (first + places_of left) right)

-- each leaf has 1 to 4 places
abbrev pub AreSmall : Plan → Type 0
AreSmall (Few count) = (0 < count) × (count ≤ 4)
AreSmall (Both left right) = AreSmall left × AreSmall right

-- a tree over so many places by halves, the left one being the greater, over at most so many levels of inner nodes
unfoldable pub halves : ℕ → ℕ → Plan
halves zero count = Few count
halves (suc height) count =
    if nat_le count 4 then Few count else Both (halves height ((count + 1) / 2)) (halves height (count - (count + 1) / 2))

-- the nodes of that tree over so many active items: none where there is none
abbrev pub median_nodes : ℕ → List Node
median_nodes zero = []
median_nodes (suc n) = spell 0 0 (halves 18 (suc n))

-- each child stands after its parent
pub record AreRising (nodes : List Node) : Type 0 where
  pub each : (n left right : ℕ) → n < length nodes → node_at nodes n ≡ Inner left right → (n < left) × (n < right)
