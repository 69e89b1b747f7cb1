-- How many nodes, leaves and places a tree has.
use Rattle.std.proofs.Common.{◌≡◌, ◌∙◌, ◌+◌, ◌-◌, ◌*◌, ◌<◌, ◌≤◌, ℕ, zero, suc, Option, List, length, refl, sym, ap, arith, length-append}
use Rattle.std.specs.Prelude.{is_some}
use Rattle.std.proofs.lemmas.Bool.Decides.{nat_tests}
use Rattle.std.proofs.lemmas.List.Sums.{count_by-le-length}
use Rattle.ray_geom.specs.Boxes.{BoxValue}
use Rattle.ray_tree.specs.declared.node.Node.{Node}
use Rattle.ray_tree.specs.Shapes.{Shape, Gone, Tip, Fork, shape_in, inside, gone, visits, holds, AreFew, places, tips}
use Rattle.ray_tree.specs.Trees.{TreeValue, shape_at, leaves_of, IsShape, TreeOver}
use Rattle.ray_tree.proofs.Under.{at_itself, shape_zero}
use Rattle.ray_tree.proofs.Counting.{total, total-sum, total-same, total-inside}
use Rattle.ray_tree.proofs.Locals.{over_has}

abbrev pub size_of : Shape → ℕ
size_of Gone = 0
size_of (Tip node first count) = 1
size_of (Fork node l r) = 1 + (size_of l + size_of r)

some_left : (a b c : ℕ) → 0 < b → 0 < a + (b + c)
some_left a b c h = omega arith

some_right : (a b c : ℕ) → 0 < c → 0 < a + (b + c)
some_right a b c h = omega arith

some_here : (a b c : ℕ) → 0 < a → 0 < a + (b + c)
some_here a b c h = omega arith

visits-total : (many : ℕ) (s : Shape) → gone s ≡ 0 → ((m : ℕ) → 0 < visits m s → m < many) → total many (λ m. visits m s) ≡ size_of s
visits-total many Gone ends within = absurd (omega (arith, ends))
visits-total many (Tip node first count) ends within =
    let small : node < many = within node (omega (arith, at_itself node)) in
    total-inside many node 1 (omega arith)
visits-total many (Fork node l r) ends within =
    let small : node < many = within node (some_here (inside node node 1) (visits node l) (visits node r) (omega (arith, at_itself node))) in
    omega (
      arith,
      total-sum many (λ m. inside m node 1) (λ m. visits m l + visits m r),
      total-sum many (λ m. visits m l) (λ m. visits m r),
      total-inside many node 1 (omega arith),
      visits-total many l (omega (arith, ends)) (λ m h. within m (some_left (inside m node 1) (visits m l) (visits m r) h)),
      visits-total many r (omega (arith, ends)) (λ m h. within m (some_right (inside m node 1) (visits m l) (visits m r) h)),
    )

last_held : (first count : ℕ) → 0 < count → 0 < inside (first + (count - 1)) first count
last_held first count h = grind (arith, nat_tests)

holds-total : (many : ℕ) (s : Shape) → AreFew s → ((x : ℕ) → 0 < holds x s → x < many) → total many (λ x. holds x s) ≡ places s
holds-total many Gone few within = none many
  where
    none : (n : ℕ) → total n (λ x. 0) ≡ 0
    none zero = refl
    none (suc n) = omega (arith, none n)
holds-total many (Tip node first count) few within =
    let some = few.0 in
    let small : first + (count - 1) < many = within (first + (count - 1)) (last_held first count some) in
    total-inside many first count (omega arith)
holds-total many (Fork node l r) few within =
    omega (
      arith,
      total-sum many (λ x. holds x l) (λ x. holds x r),
      holds-total many l few.0 (λ x h. within x (omega (arith, h))),
      holds-total many r few.1 (λ x h. within x (omega (arith, h))),
    )

tips-few : (s : Shape) → length (tips s) ≤ size_of s
tips-few Gone = omega arith
tips-few (Tip node first count) = omega arith
tips-few (Fork node l r) = omega (arith, length-append (tips l) (tips r), tips-few l, tips-few r)

size-places : (s : Shape) → gone s ≡ 0 → AreFew s → size_of s + 1 ≤ 2 * places s
size-places Gone ends few = absurd (omega (arith, ends))
size-places (Tip node first count) ends few = let some = few.0 in omega arith
size-places (Fork node l r) ends few =
    omega (arith, ends, size-places l (omega (arith, ends)) few.0, size-places r (omega (arith, ends)) few.1)

in_range : (n many : ℕ) → 0 < inside n 0 many → n < many
in_range n many h = grind (arith, nat_tests)

pub size-is : (tree : TreeValue) → IsShape tree → 0 < length tree.nodes → size_of (shape_at tree 0) ≡ length tree.nodes
size-is tree shape some =
    sym (visits-total (length tree.nodes) (shape_at tree 0) (shape.ends some) (λ m h. in_range m (length tree.nodes) (omega (arith, h, shape.nodes_once m))))
    ∙ total-same (length tree.nodes) (λ m. visits m (shape_at tree 0)) (λ m. inside m 0 (length tree.nodes)) (λ m small. shape.nodes_once m)
    ∙ total-inside (length tree.nodes) 0 (length tree.nodes) (omega arith)

places-is : (tree : TreeValue) → IsShape tree → places (shape_at tree 0) ≡ length tree.order
places-is tree shape =
    sym (holds-total (length tree.order) (shape_at tree 0) shape.few (λ x h. in_range x (length tree.order) (omega (arith, h, shape.places_once x))))
    ∙ total-same (length tree.order) (λ x. holds x (shape_at tree 0)) (λ x. inside x 0 (length tree.order)) (λ x small. shape.places_once x)
    ∙ total-inside (length tree.order) 0 (length tree.order) (omega arith)

-- a tree has at most as many leaves as nodes
leaves_by : (nodes : List Node) (n : ℕ) → length nodes ≡ n → (0 < n → size_of (shape_in n nodes 0) ≡ n) → length (tips (shape_in n nodes 0)) ≤ n
leaves_by nodes zero e h = omega (arith, ap (λ s. length (tips s)) (shape_zero nodes 0))
leaves_by nodes (suc n) e h = omega (arith, tips-few (shape_in (suc n) nodes 0), h (omega arith))

pub leaves-few : (tree : TreeValue) → IsShape tree → length (leaves_of tree) ≤ length tree.nodes
leaves-few tree shape = leaves_by tree.nodes (length tree.nodes) refl (λ some. size-is tree shape some)

-- and fewer nodes than twice its places
nodes_by : (tree : TreeValue) (n : ℕ) → length tree.nodes ≡ n → IsShape tree → n ≤ 2 * length tree.order
nodes_by tree zero e shape = omega arith
nodes_by tree (suc n) e shape =
    let some : 0 < length tree.nodes = omega (arith, e) in
    omega (arith, e, size-is tree shape some, places-is tree shape, size-places (shape_at tree 0) (shape.ends some) shape.few)

pub nodes-few : (tree : TreeValue) → IsShape tree → length tree.nodes ≤ 2 * length tree.order
nodes-few tree shape = nodes_by tree (length tree.nodes) refl shape

-- a tree over items has at most as many places as there are items
pub places-over : (tree : TreeValue) (items : List (Option BoxValue)) → TreeOver tree items → length tree.order ≤ length items
places-over tree items over = omega (arith, (over_has tree items over).many, count_by-le-length is_some items)

-- and so its nodes' numbers fit
pub over-few : (tree : TreeValue) (items : List (Option BoxValue)) → TreeOver tree items → length tree.nodes ≤ 2 * length items
over-few tree items over = omega (arith, nodes-few tree over.shape, places-over tree items over)
