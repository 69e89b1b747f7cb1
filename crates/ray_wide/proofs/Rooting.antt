-- The root of a wide tree, and what is to be made first.
use Rattle.std.proofs.Common.{◌≡◌, ◌∙◌, ◌<◌, ◌≤◌, ◌↔◌, ℕ, IsTrue, true≢false, List, [], ◌∷◌, length, refl, sym, ap, subst, arith}
use Rattle.std.proofs.lemmas.List.Elements.{All-nil, All-cons}
use Rattle.std.proofs.lemmas.List.Sums.{sum_by-cons}
use Rattle.ray_tree.specs.declared.node.Node.{Node}
use Rattle.ray_tree.specs.declared.node.Node.TheVariants.{Leaf as LeafNode, Inner as InnerNode}
use Rattle.ray_tree.specs.Trees.{TreeValue, IsShape}
use Rattle.ray_wide.specs.declared.node.WideRef.{WideRef}
use Rattle.ray_wide.specs.declared.node.WideRef.TheVariants.{Leaf, Inner, Empty}
use Rattle.ray_wide.specs.declared.node.WideNode.{WideNode}
use Rattle.ray_wide.specs.Subtrees.{IsInnerNode}
use Rattle.ray_wide.specs.Wides.{wide_value, IsRoot, IsCollapsed, top_at, is_there}
use Rattle.ray_wide.specs.Cuts.{IsGrowing, weight_at, root_of, root_by, first_tops}
use Rattle.ray_wide.proofs.Subtrees.{whole_weight}

growing-none : (nodes : List Node) → IsGrowing nodes [] []
growing-none nodes = record { made = omega arith; inner = All-nil (IsInnerNode nodes); each = λ w small. absurd (omega arith); few = omega arith; start = refl }

growing-one : (nodes : List Node) → IsInnerNode nodes 0 → weight_at nodes 0 ≡ length nodes → IsGrowing nodes [] (0 ∷ [])
growing-one nodes inner heavy = record {
  made = omega arith;
  inner = All-cons (IsInnerNode nodes) 0 [] inner (All-nil (IsInnerNode nodes));
  each = λ w small. absurd (omega arith);
  few = omega (arith, heavy, sum_by-cons (weight_at nodes) 0 []);
  start = refl;
}

first-by : (node : Node) (ns : List Node) → weight_at (node ∷ ns) 0 ≡ length (node ∷ ns) → IsGrowing (node ∷ ns) [] (first_tops (root_by node))
first-by (LeafNode first count) ns heavy = growing-none (LeafNode first count ∷ ns)
first-by (InnerNode l r) ns heavy = growing-one (InnerNode l r ∷ ns) (record { small = omega arith; inner = tt }) heavy

first-of : (nodes : List Node) → (0 < length nodes → weight_at nodes 0 ≡ length nodes) → IsGrowing nodes [] (first_tops (root_of nodes))
first-of [] heavy = growing-none []
first-of (node ∷ ns) heavy = first-by node ns (heavy (omega arith))

pub first_growing : (tree : TreeValue) → IsShape tree → (root : WideRef) (tops : List ℕ) → root ≡ root_of tree.nodes → tops ≡ first_tops root → IsGrowing tree.nodes [] tops
first_growing tree shape root tops is_root is_tops =
    subst (IsGrowing tree.nodes []) (sym (is_tops ∙ ap first_tops is_root)) (first-of tree.nodes (λ some. whole_weight tree shape some))

-- the root when all is made
root-by : (node : Node) (ns : List Node) (tops : List ℕ) → length (first_tops (root_by node)) ≤ length tops
    → (length (first_tops (root_by node)) ≡ 0 → length tops ≡ 0) → top_at tops 0 ≡ 0 → IsRoot (node ∷ ns) tops (root_by node)
root-by (LeafNode first count) ns tops more none start =
    (record { node = record { small = omega arith; leaf = tt }; same = refl }, refl, none refl)
root-by (InnerNode l r) ns tops more none start = (record { small = omega arith; inner = tt }, refl, omega arith, start)

root-of : (nodes : List Node) (tops : List ℕ) → length (first_tops (root_of nodes)) ≤ length tops
    → (length (first_tops (root_of nodes)) ≡ 0 → length tops ≡ 0) → top_at tops 0 ≡ 0 → IsRoot nodes tops (root_of nodes)
root-of [] tops more none start = (refl, none refl)
root-of (node ∷ ns) tops more none start = root-by node ns tops more none start

pub all_made : (nodes : List Node) (root : WideRef) (wides : List WideNode) (tops0 tops : List ℕ) → root ≡ root_of nodes → tops0 ≡ first_tops root
    → IsGrowing nodes wides tops → length wides ≡ length tops → length tops0 ≤ length tops → (length tops0 ≡ 0 → length tops ≡ 0)
    → IsCollapsed (wide_value root wides tops) nodes
all_made nodes root wides tops0 tops is_root is_first growing made more none =
    let first = is_first ∙ ap first_tops is_root in
    record {
      root = subst (IsRoot nodes tops) (sym is_root)
          (root-of nodes tops (subst (λ ts. length ts ≤ length tops) first more) (λ e. none (ap length first ∙ e)) growing.start);
      topped = sym made;
      few = let f = growing.few in omega arith;
      each = growing.each;
    }

-- there is a root exactly where there is a node
pub is_rooted : (nodes : List Node) (tops : List ℕ) (root : WideRef) → IsRoot nodes tops root → IsTrue (is_there root) ↔ (0 < length nodes)
is_rooted nodes tops Empty is = let none = is.0 in (λ e. absurd (true≢false (sym e)), λ some. absurd (omega arith))
is_rooted nodes tops (Leaf leaf) is = let small = is.0.node.small in (λ e. omega arith, λ some. refl)
is_rooted nodes tops (Inner w) is = let small = is.0.small in (λ e. omega arith, λ some. refl)
