-- The laws of a tree at one node.
use Rattle.std.proofs.Common.{◌≡◌, ◌∙◌, ◌+◌, ◌-◌, ◌<◌, ◌≤◌, ℕ, length, sym, ap, subst, arith}
use Rattle.std.proofs.lemmas.Bool.Decides.{nat_tests}
use Rattle.ray_tree.specs.declared.node.Node.TheVariants.{Leaf, Inner}
use Rattle.ray_tree.specs.Shapes.{Tip, Fork, node_at, grow, inside, gone, visits, holds, AreFew}
use Rattle.ray_tree.specs.Trees.{TreeValue, shape_at, IsShape}
use Rattle.ray_tree.proofs.Under.{Part, found, stable, one_more, shape_suc, visits_itself}

in_range : (n many : ℕ) → n < many → inside n 0 many ≡ 1
in_range n many h = grind (arith, nat_tests)

range_in : (n many : ℕ) → 0 < inside n 0 many → n < many
range_in n many h = grind (arith, nat_tests)

-- the part from a node of a tree down
pub part_at : (tree : TreeValue) → IsShape tree → (n : ℕ) → n < length tree.nodes → Part tree.nodes (length tree.nodes) n (shape_at tree 0)
part_at tree shape n small =
    found tree.nodes (length tree.nodes) 0 n (shape.ends (omega arith)) (omega (arith, shape.nodes_once n, in_range n (length tree.nodes) small))

-- it is what is from the node down
pub record IsWhole (tree : TreeValue) (n : ℕ) : Type 0 where
  pub ends : gone (shape_at tree n) ≡ 0
  pub visits_fewer : (m : ℕ) → visits m (shape_at tree n) ≤ visits m (shape_at tree 0)
  pub holds_fewer : (at : ℕ) → holds at (shape_at tree n) ≤ holds at (shape_at tree 0)
  pub few : AreFew (shape_at tree n)

pub whole_at : (tree : TreeValue) → IsShape tree → (n : ℕ) → n < length tree.nodes → IsWhole tree n
whole_at tree shape n small =
    let p = part_at tree shape n small in
    let e = stable tree.nodes p.depth (length tree.nodes) n p.within p.ends in
    record {
      ends = ap gone e ∙ p.ends;
      visits_fewer = λ m. omega (arith, p.visits_fewer m, ap (visits m) e);
      holds_fewer = λ at. omega (arith, p.holds_fewer at, ap (holds at) e);
      few = subst AreFew (sym e) (p.few shape.few);
    }

-- one node after the other
pub unfolds : (tree : TreeValue) → IsShape tree → (n : ℕ) → n < length tree.nodes → shape_at tree n ≡ grow (shape_at tree) n (node_at tree.nodes n)
unfolds tree shape n small =
    let w = whole_at tree shape n small in
    sym (one_more tree.nodes (length tree.nodes) n w.ends) ∙ shape_suc (length tree.nodes) tree.nodes n

-- a leaf
pub record AtLeaf (tree : TreeValue) (n first count : ℕ) : Type 0 where
  pub shape : shape_at tree n ≡ Tip n first count
  pub some : 0 < count
  pub few : count ≤ 4
  pub within : first + count ≤ length tree.order

last_inside : (first count : ℕ) → 0 < count → inside (first + (count - 1)) first count ≡ 1
last_inside first count h = grind (arith, nat_tests)

pub at_leaf : (tree : TreeValue) → IsShape tree → (n first count : ℕ) → n < length tree.nodes → node_at tree.nodes n ≡ Leaf first count → AtLeaf tree n first count
at_leaf tree shape n first count small is =
    let w = whole_at tree shape n small in
    let e : shape_at tree n ≡ Tip n first count = unfolds tree shape n small ∙ ap (grow (shape_at tree) n) is in
    let few = subst AreFew e w.few in
    let last = first + (count - 1) in
    let held = w.holds_fewer last in
    let here : inside last first count ≤ inside last 0 (length tree.order) = omega (arith, held, ap (holds last) e, shape.places_once last) in
    let small : last < length tree.order = range_in last (length tree.order) (omega (arith, last_inside first count few.0)) in
    record { shape = e; some = few.0; few = few.1; within = let f = few.0 in omega arith }

-- an inner node
pub record AtInner (tree : TreeValue) (n l r : ℕ) : Type 0 where
  pub shape : shape_at tree n ≡ Fork n (shape_at tree l) (shape_at tree r)
  pub left : l < length tree.nodes
  pub right : r < length tree.nodes

pub at_inner : (tree : TreeValue) → IsShape tree → (n l r : ℕ) → n < length tree.nodes → node_at tree.nodes n ≡ Inner l r → AtInner tree n l r
at_inner tree shape n l r small is =
    let w = whole_at tree shape n small in
    let e : shape_at tree n ≡ Fork n (shape_at tree l) (shape_at tree r) = unfolds tree shape n small ∙ ap (grow (shape_at tree) n) is in
    let ends : gone (shape_at tree l) + gone (shape_at tree r) ≡ 0 = sym (ap gone e) ∙ w.ends in
    let ls = visits_itself tree.nodes (length tree.nodes) l (omega (arith, ends)) in
    let rs = visits_itself tree.nodes (length tree.nodes) r (omega (arith, ends)) in
    record {
      shape = e;
      left = range_in l (length tree.nodes) (omega (arith, ls, w.visits_fewer l, ap (visits l) e, shape.nodes_once l));
      right = range_in r (length tree.nodes) (omega (arith, rs, w.visits_fewer r, ap (visits r) e, shape.nodes_once r));
    }
