-- The order of the items of the stated tree. It is a function of the boxes: a node's items go to its left or its
-- right child by where they stand along one axis. (Own.)
use Rattle.std.specs.Prelude.{◌+◌, ◌-◌, ◌*◌, ◌/◌, ◌^◌, ◌+ℤ◌, ◌++◌, ◌&&◌, ℕ, ℤ, pos, zero, suc, max, min, nat_le, nat_lt, if◌then◌else◌, Option, Some, None, is_some, List, [], ◌∷◌, length, count_by, filter, fold}
use Rattle.ray_geom.specs.declared.vec3.Vec3.{Vec3}
use Rattle.ray_geom.specs.Boxes.{BoxValue}
use Rattle.ray_prune.specs.BoxReach.{natural_part}
use Rattle.ray_tree.specs.Trees.{item_box}

-- a coordinate of a point: x along axis 0, y along axis 1, z along any other (own)
abbrev pub along : ℕ → Vec3 → ℤ
along zero v = v.x
along (suc zero) v = v.y
along (suc (suc more)) v = v.z

-- the sum of a box's least and greatest coordinate along an axis, raised by 2^20: a natural number, and at most 2^21,
-- since no coordinate is further than 2^19 from 0 (own)
abbrev pub box_sum : ℕ → BoxValue → ℕ
box_sum axis box = natural_part ((along axis box.lo +ℤ along axis box.hi) +ℤ pos (2 ^ 20))

-- that of a box that may be missing
abbrev pub sum_in : ℕ → Option BoxValue → ℕ
sum_in axis None = 0
sum_in axis (Some box) = box_sum axis box

-- that of an item's box
abbrev pub sum_of : List (Option BoxValue) → ℕ → ℕ → ℕ
sum_of items axis p = sum_in axis (item_box items p)

-- the greatest number that a list gives, or 0 where it is empty
abbrev pub greatest : {X : Type 0} → (X → ℕ) → List X → ℕ
greatest f xs = fold (λ a x. max a (f x)) 0 xs

-- the least sum that a list gives, or 2^21, which none is above
abbrev pub least : {X : Type 0} → (X → ℕ) → List X → ℕ
least f xs = fold (λ a x. min a (f x)) (2 ^ 21) xs

-- how far the sums of a list are apart
abbrev pub width : {X : Type 0} → (X → ℕ) → List X → ℕ
width f xs = greatest f xs - least f xs

-- the axis of the greatest of three widths, the first such (own)
abbrev pub widest : ℕ → ℕ → ℕ → ℕ
widest x y z = if nat_le y x && nat_le z x then 0 else (if nat_le z y then 1 else 2)

-- the axis along which the sums of these items are furthest apart, the first such (own)
abbrev pub axis_of : List (Option BoxValue) → List ℕ → ℕ
axis_of items ns = widest (width (sum_of items 0) ns) (width (sum_of items 1) ns) (width (sum_of items 2) ns)

-- what items are ordered by along an axis: their sum, and then their number, which is below 2^20 (own)
abbrev pub key : List (Option BoxValue) → ℕ → ℕ → ℕ
key items axis p = sum_of items axis p * 2 ^ 20 + p

-- how many of these items stand before an item in that order
abbrev pub rank : List (Option BoxValue) → ℕ → List ℕ → ℕ → ℕ
rank items axis ns p = count_by (λ q. nat_lt (key items axis q) (key items axis p)) ns

-- half of so many, rounded up
abbrev pub half : ℕ → ℕ
half n = (n + 1) / 2

-- the items of the left child: the first half in that order, listed as they were
abbrev pub first_half : List (Option BoxValue) → List ℕ → List ℕ
first_half items ns = filter (λ p. nat_lt (rank items (axis_of items ns) ns p) (half (length ns))) ns

-- the items of the right child: all others
abbrev pub other_half : List (Option BoxValue) → List ℕ → List ℕ
other_half items ns = filter (λ p. nat_le (half (length ns)) (rank items (axis_of items ns) ns p)) ns

-- the items of a node in the order of the tree's places: up to four make a leaf, as they are listed, and of more
-- the left child's come before the right child's; over at most so many levels of inner nodes (own)
unfoldable pub arranged : ℕ → List (Option BoxValue) → List ℕ → List ℕ
arranged zero items ns = ns
arranged (suc height) items ns =
    if nat_le (length ns) 4 then ns else arranged height items (first_half items ns) ++ arranged height items (other_half items ns)

-- the active ones of the first so many items, in rising number
unfoldable pub actives : List (Option BoxValue) → ℕ → List ℕ
actives items zero = []
actives items (suc n) = actives items n ++ (if is_some (item_box items n) then n ∷ [] else [])

-- the active items in the order of the stated tree's places; 18 levels of inner nodes are enough for 2^20 items (own)
abbrev pub stated_order : List (Option BoxValue) → List ℕ
stated_order items = arranged 18 items (actives items (length items))
