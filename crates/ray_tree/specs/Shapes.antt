-- What a tree is from a node down, by its nodes alone. (Own.)
use Rattle.std.specs.Prelude.{◌≡◌, ◌+◌, ◌/◌, ◌<◌, ◌≤◌, ◌&&◌, ℕ, zero, suc, max, nat_le, nat_lt, if◌then◌else◌, List, [], ◌∷◌, ◌++◌, slice_index_or}
use Rattle.ray_tree.specs.declared.node.Node.{Node}
use Rattle.ray_tree.specs.declared.node.Node.TheVariants.{Leaf, Inner}

-- a way down that is too long; a leaf with `count` places from `first` on; an inner node with two below it
pub data Shape : Type 0 where
  Gone : Shape
  Tip : (node first count : ℕ) → Shape
  Fork : (node : ℕ) → (left right : Shape) → Shape

-- the node of a number
abbrev pub node_at : List Node → ℕ → Node
node_at nodes n = slice_index_or nodes n (Leaf 0 0)

-- what is from a node down, where it is known what is from each node below it down
abbrev pub grow : (ℕ → Shape) → ℕ → Node → Shape
grow below n (Leaf first count) = Tip n first count
grow below n (Inner left right) = Fork n (below left) (below right)

-- what is from a node down, over at most so many levels
unfoldable pub shape_in : ℕ → List Node → ℕ → Shape
shape_in zero nodes n = Gone
shape_in (suc k) nodes n = grow (shape_in k nodes) n (node_at nodes n)

-- 1 for a number from `from` on among the next `many`, and 0 for any other
abbrev pub inside : ℕ → ℕ → ℕ → ℕ
inside n from many = if nat_le from n && nat_lt n (from + many) then 1 else 0

-- how many ways down are too long
abbrev pub gone : Shape → ℕ
gone Gone = 1
gone (Tip node first count) = 0
gone (Fork node left right) = gone left + gone right

-- how often a node stands there
abbrev pub visits : ℕ → Shape → ℕ
visits n Gone = 0
visits n (Tip node first count) = inside n node 1
visits n (Fork node left right) = inside n node 1 + (visits n left + visits n right)

-- in how many leaves a place is
abbrev pub holds : ℕ → Shape → ℕ
holds at Gone = 0
holds at (Tip node first count) = inside at first count
holds at (Fork node left right) = holds at left + holds at right

-- each leaf has 1 to 4 places
abbrev pub AreFew : Shape → Type 0
AreFew Gone = Unit {0}
AreFew (Tip node first count) = (0 < count) × (count ≤ 4)
AreFew (Fork node left right) = AreFew left × AreFew right

-- how many places its leaves have
abbrev pub places : Shape → ℕ
places Gone = 0
places (Tip node first count) = count
places (Fork node left right) = places left + places right

-- how many levels of nodes there are
abbrev pub levels : Shape → ℕ
levels Gone = 0
levels (Tip node first count) = 1
levels (Fork node left right) = max (levels left) (levels right) + 1

-- the nodes that are leaves, from the left
abbrev pub tips : Shape → List ℕ
tips Gone = []
tips (Tip node first count) = node ∷ []
tips (Fork node left right) = tips left ++ tips right

-- an inner node is over more than 4 places, and half of them, rounded up, are below its left child
abbrev pub AreHalves : Shape → Type 0
AreHalves Gone = Unit {0}
AreHalves (Tip node first count) = Unit {0}
AreHalves (Fork node left right) =
    (4 < places left + places right) × (places left ≡ (places left + places right + 1) / 2) × AreHalves left × AreHalves right
