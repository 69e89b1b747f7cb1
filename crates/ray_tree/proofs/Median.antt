-- What is known of the nodes of a tree by halves over so many places.
use Rattle.std.proofs.Common.{◌≡◌, ◌∙◌, ◌^◌, ◌≤◌, ℕ, zero, suc, List, [], length, replicate, sym, ap, subst, arith}
use Rattle.std.proofs.lemmas.Bool.Decides.{nat_tests}
use Rattle.std.proofs.lemmas.Simd.{length-replicate}
use Rattle.std.specs.Prelude.{is_some, Option}
use Rattle.std.proofs.lemmas.List.Sums.{count_by-le-length}
use Rattle.ray_geom.specs.Boxes.{BoxValue}
use Rattle.ray_tree.specs.declared.node.Node.{Node}
use Rattle.ray_tree.specs.Shapes.{Gone, shape_in, inside, visits, holds, AreFew, levels, AreHalves}
use Rattle.ray_tree.specs.Trees.{tree_value, times, active, IsShape, no_box}
use Rattle.ray_tree.specs.Local.{AreFit}
use Rattle.ray_tree.specs.Plans.{halves, median_nodes, AreRising}
use Rattle.ray_tree.proofs.Under.{shape_zero}
use Rattle.ray_tree.proofs.Spelled.{shape_of_spell, shape_of_plan}
use Rattle.ray_tree.proofs.Halved.{halved}
use Rattle.ray_tree.proofs.Filled.{spell-rises, none-rises}
use Rattle.ray_tree.proofs.Locals.{are_fit}
use Rattle.ray_tree.proofs.Counting.{has_items, at_most_active}

pub record IsMedian (nodes : List Node) (count : ℕ) : Type 0 where
  pub shape : (boxes : List BoxValue) (order : List ℕ) → length order ≡ count → length boxes ≡ length nodes → ((q : ℕ) → times q order ≤ 1) → IsShape (tree_value nodes boxes order)
  pub rising : AreRising nodes
  pub even : AreHalves (shape_in (length nodes) nodes 0)
  pub low : levels (shape_in (length nodes) nodes 0) ≤ 96

gone_empty : (nodes : List Node) → nodes ≡ [] → shape_in (length nodes) nodes 0 ≡ Gone
gone_empty nodes is = ap (λ k. shape_in k nodes 0) (ap length is) ∙ shape_zero nodes 0

outside : (n many : ℕ) → many ≡ 0 → 0 ≡ inside n 0 many
outside n many e = grind (arith, nat_tests)

pub median : (nodes : List Node) (count : ℕ) → nodes ≡ median_nodes count → count ≤ 2 ^ 20 → IsMedian nodes count
median nodes zero is le =
    let e = gone_empty nodes is in
    record {
      shape = λ boxes order full boxed once. record {
        ends = λ some. absurd (omega (arith, ap length is, some));
        nodes_once = λ n. ap (visits n) e ∙ outside n (length nodes) (ap length is);
        places_once = λ x. ap (holds x) e ∙ outside x (length order) full;
        few = subst AreFew (sym e) tt;
        boxed = boxed;
        items_once = once;
      };
      rising = none-rises nodes is;
      even = subst AreHalves (sym e) tt;
      low = omega (arith, ap levels e);
    }
median nodes (suc n) is le =
    let h = halved 18 (suc n) (omega arith) (omega arith) in
    let p = halves 18 (suc n) in
    let e = shape_of_spell nodes p is in
    record {
      shape = λ boxes order full boxed once. shape_of_plan nodes boxes order p is (h.full ∙ sym full) h.small boxed once;
      rising = spell-rises nodes p is;
      even = subst AreHalves (sym e) (h.even 0 0);
      low = omega (arith, ap levels e, h.low 0 0);
    }

-- what its nodes name is there
pub median-fit : (nodes : List Node) (count : ℕ) (order : List ℕ) → IsMedian nodes count → length order ≡ count → ((q : ℕ) → times q order ≤ 1) → AreFit (length order) nodes
median-fit nodes count order m full once =
    let boxes = replicate (length nodes) no_box in
    are_fit (tree_value nodes boxes order) (m.shape boxes order full (length-replicate (length nodes) no_box) once)

-- of the numbers of the active items
pub order-few : (order : List ℕ) (items : List (Option BoxValue)) → ((p : ℕ) → times p order ≡ active items p) → length order ≤ length items
order-few order items once = omega (arith, (has_items order items once).many, count_by-le-length is_some items)

pub once-most : (order : List ℕ) (items : List (Option BoxValue)) → ((p : ℕ) → times p order ≡ active items p) → (q : ℕ) → times q order ≤ 1
once-most order items once q = omega (arith, once q, at_most_active items q)

pub median_of : (order : List ℕ) (items : List (Option BoxValue)) (nodes : List Node) (count : ℕ) → ((p : ℕ) → times p order ≡ active items p) → length items ≤ 2 ^ 20
    → count ≡ length order → nodes ≡ median_nodes count → IsMedian nodes (length order)
median_of order items nodes count once small e is =
    median nodes (length order) (is ∙ ap median_nodes e) (omega (arith, order-few order items once))
