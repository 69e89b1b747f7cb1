-- How the marks are kept, which no clause of a public call speaks of: a tree over the cells, whose node
-- has the mark that all its cells have at least, and the greatest mark of any. A new mark is at least
-- all that were there, so that nothing is ever pushed down. (Own.)
use Rattle.std.specs.Prelude.{◌≡◌, ◌<◌, ◌≤◌, ◌⊎◌, ℕ, zero, suc, ◌+◌, ◌-◌, max, min, nat_lt, if◌then◌else◌, List, [], ◌∷◌, length, take, drop, map}
use Rattle.std.specs.List.{range_with_len}
use Rattle.ray_marks.specs.declared.node.Node.{Node}
use Rattle.ray_marks.specs.Rising.{is_marked}

-- how many cells a tree of a height has
abbrev pub cells_of : ℕ → ℕ
cells_of zero = 1
cells_of (suc h) = cells_of h + cells_of h

-- how many nodes it has
abbrev pub size_of : ℕ → ℕ
size_of zero = 1
size_of (suc h) = suc (size_of h + size_of h)

-- a node without marks
abbrev pub no_mark : Node
no_mark = record { whole = 0; part = 0 }

-- its root, which is its first node
abbrev pub root : List Node → Node
root [] = no_mark
root (n ∷ ns) = n

-- all nodes but the root
abbrev pub halves : List Node → List Node
halves [] = []
halves (n ∷ ns) = ns

-- the trees of the two halves, each of one height less
abbrev pub first_half : ℕ → List Node → List Node
first_half h ns = take (size_of h) (halves ns)

abbrev pub second_half : ℕ → List Node → List Node
second_half h ns = drop (size_of h) (halves ns)

-- the mark of a cell: the greatest that a node on the way to it gives to all its cells
abbrev pub mark_at : ℕ → List Node → ℕ → ℕ
mark_at zero ns c = (root ns).whole
mark_at (suc h) ns c =
    max (root ns).whole
    (if nat_lt c (cells_of h) then mark_at h (first_half h ns) c else mark_at h (second_half h ns) (c - cells_of h))

-- each node has the greatest mark of its cells
abbrev pub AreParts : ℕ → List Node → Type 0
AreParts zero ns = (root ns).part ≡ (root ns).whole
AreParts (suc h) ns =
    ((root ns).part ≡ max (root ns).whole (max (root (first_half h ns)).part (root (second_half h ns)).part))
    × AreParts h (first_half h ns)
    × AreParts h (second_half h ns)

-- a tree of a height
pub record IsTree (h : ℕ) (ns : List Node) : Type 0 where
  pub sized : length ns ≡ size_of h
  pub parts : AreParts h ns

-- the cells in a range have a new mark, which is then the greatest where there are such cells
pub record IsMarked (h : ℕ) (old : List Node) (start end value : ℕ) (new : List Node) : Type 0 where
  pub marks : (c : ℕ) → c < cells_of h → mark_at h new c ≡ is_marked start end value (mark_at h old c) c
  pub part : (root new).part ≡ (if nat_lt start (min end (cells_of h)) then value else (root old).part)

-- a mark where it is above a limit, and else 0
abbrev pub above : ℕ → ℕ → ℕ
above limit mark = if nat_lt limit mark then mark else 0

-- the greatest mark above a limit of the cells of a tree in a range
pub record IsGreatestOf (h : ℕ) (ns : List Node) (limit start end greatest : ℕ) : Type 0 where
  pub most : (c : ℕ) → start ≤ c → c < end → c < cells_of h → mark_at h ns c ≤ max limit greatest
  pub there :
      (greatest ≡ 0)
      ⊎ ((c : ℕ) × (start ≤ c) × (c < end) × (c < cells_of h) × (mark_at h ns c ≡ greatest) × (limit < greatest))

-- a tree that has at least so many cells: those that it has more have the mark 0
pub record IsOver (h cells : ℕ) (ns : List Node) : Type 0 where
  pub tree : IsTree h ns
  pub enough : cells ≤ cells_of h
  pub beyond : (c : ℕ) → cells ≤ c → c < cells_of h → mark_at h ns c ≡ 0

-- the marks of the first cells of a tree, in order
abbrev pub marks_of : ℕ → ℕ → List Node → List ℕ
marks_of h cells ns = map (mark_at h ns) (range_with_len 0 cells)
