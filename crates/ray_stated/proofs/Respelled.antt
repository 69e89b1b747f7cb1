-- One node more is stored.
use Rattle.std.proofs.Common.{◌≡◌, ◌∙◌, ◌+◌, ◌<◌, ◌++◌, ℕ, List, [], ◌∷◌, length, take, get_or, refl, sym, ap, ap₂, arith, length-take-le}
use Rattle.std.proofs.lemmas.List.{take_more}
use Rattle.ray_geom.specs.Boxes.{BoxValue}
use Rattle.ray_tree.specs.declared.node.Node.{Node}
use Rattle.ray_tree.specs.declared.node.Node.TheVariants.{Leaf}
use Rattle.ray_tree.specs.Shapes.{node_at}
use Rattle.ray_stated.specs.Stored.{stored_of, stored_all}

stored-last : (nodes : List Node) (boxes : List BoxValue) (x : Node) (b : BoxValue) → length nodes ≡ length boxes
    → stored_all (nodes ++ (x ∷ [])) (boxes ++ (b ∷ [])) ≡ stored_all nodes boxes ++ (stored_of x b ∷ [])
stored-last [] [] x b long = refl
stored-last [] (c ∷ cs) x b long = absurd (omega arith)
stored-last (y ∷ ys) [] x b long = absurd (omega arith)
stored-last (y ∷ ys) (c ∷ cs) x b long = ap (λ l. stored_of y c ∷ l) (stored-last ys cs x b (omega (arith, long)))

pub stored_more : (nodes : List Node) (boxes : List BoxValue) (i : ℕ) (x : Node) (b : BoxValue) → length boxes ≡ length nodes → i < length nodes
    → x ≡ node_at nodes i → b ≡ get_or boxes i b
    → stored_all (take (i + 1) nodes) (take (i + 1) boxes) ≡ stored_all (take i nodes) (take i boxes) ++ (stored_of x b ∷ [])
stored_more nodes boxes i x b boxed small node box =
    ap₂ stored_all
    (take_more nodes i (Leaf 0 0) small ∙ ap (λ y. take i nodes ++ (y ∷ [])) (sym node))
    (take_more boxes i b (omega (arith, boxed)) ∙ ap (λ c. take i boxes ++ (c ∷ [])) (sym box))
    ∙ stored-last (take i nodes) (take i boxes) x b
    (omega (arith, length-take-le i nodes (omega arith), length-take-le i boxes (omega (arith, boxed))))
