-- Boxes of inner nodes from those of leaves, from the last node to the first.
use Rattle.std.proofs.Common.{◌≡◌, ◌≢◌, ◌+◌, ℕ, Option, List, get_or, set, sym, subst, arith, get_or-set_other}
use Rattle.ray_geom.specs.Boxes.{BoxValue}
use Rattle.ray_tree.specs.declared.node.Node.{Node}
use Rattle.ray_tree.specs.declared.node.Node.TheVariants.{Leaf, Inner}
use Rattle.ray_tree.specs.Shapes.{node_at}
use Rattle.ray_tree.specs.Local.{IsLocal}
use Rattle.ray_geom.specs.LeastBoxes.{HoldsBoxes, IsLeast}
use Rattle.ray_tree.specs.Trees.{boxes_in}
use Rattle.ray_morton.specs.Tips.{IsTip, AreTips, IsJoin}

pub local_join : (items : List (Option BoxValue)) (order : List ℕ) (boxes : List BoxValue) (n : ℕ) (box : BoxValue) (node : Node)
    → ((d : BoxValue) → IsTip items order (get_or boxes n d) node) → IsJoin boxes n box node → IsLocal items order boxes box node
local_join items order boxes n box (Leaf first count) tip join =
    subst (IsLeast (HoldsBoxes (boxes_in items order first count))) (sym (join box)) (tip box)
local_join items order boxes n box (Inner left right) tip join = join

-- boxes before the one that is set stay
pub fewer_tips : (items : List (Option BoxValue)) (order : List ℕ) (boxes : List BoxValue) (nodes : List Node) (i : ℕ) (made : BoxValue)
    → AreTips items order boxes nodes (i + 1) → AreTips items order (set boxes i made) nodes i
fewer_tips items order boxes nodes i made tips = record {
  each = λ n lt d.
      let ne : n ≢ i = omega arith in
      let same : get_or (set boxes i made) n d ≡ get_or boxes n d = rw get_or-set_other in
      subst (λ b. IsTip items order b (node_at nodes n)) (sym same) (tips.each n (omega arith) d);
}
