-- How many bytes there are of a tree.
use Rattle.std.proofs.Common.{ℕ, suc, ◌≡◌, ◌+◌, ◌*◌, ◌++◌, List, [], ◌∷◌, length, Some, refl, ap, ◌∙◌, arith, length-append, mul-suc}
use Rattle.std.specs.List.{flat_map}
use Rattle.std.proofs.lemmas.List.Concat.{flat_map-cons}
use Rattle.byteorder.specs.Endian.{little_bytes}
use Rattle.byteorder.specs.Numbers.{length-bytes_low_first}
use Rattle.ray_geom.specs.Boxes.{BoxValue}
use Rattle.ray_primitives.specs.StoredPrimitives.{aabb_bytes}
use Rattle.ray_primitives.proofs.StoredBack.{length-aabb_bytes}
use Rattle.ray_tree.specs.declared.node.Node.{Node}
use Rattle.ray_tree.specs.Trees.{TreeValue}
use Rattle.ray_stated.specs.declared.stored.StoredNode.{StoredNode}
use Rattle.ray_stated.specs.Stored.{stored_all}
use Rattle.ray_tree_part.specs.TreeParts.{node_bytes, part_of, tree_bytes, part_size}

pub length-word : (n : ℕ) → length (little_bytes 4 n) ≡ 4
length-word n = length-bytes_low_first 0 4 n

pub length-node_bytes : (node : StoredNode) → length (node_bytes node) ≡ 32
unfolding node_bytes
length-node_bytes node =
    length-append (aabb_bytes (Some node.bounds)) (little_bytes 4 node.count ++ little_bytes 4 node.link)
    ∙ (λ i. length-aabb_bytes (Some node.bounds) i + length-append (little_bytes 4 node.count) (little_bytes 4 node.link) i)
    ∙ (λ i. 24 + (length-word node.count i + length-word node.link i))

length_parts : {X : Type 0} (f : X → List ℕ) (n : ℕ) → ((x : X) → length (f x) ≡ n) → (xs : List X) → length (flat_map f xs) ≡ n * length xs
length_parts f n sized [] = omega arith
length_parts f n sized (x ∷ xs) =
    let rest = length_parts f n sized xs in
    let first = sized x in
    ap length (flat_map-cons f x xs) ∙ (length-append (f x) (flat_map f xs) ∙ omega (arith, mul-suc n (length xs)))

pub length-node_list : (nodes : List StoredNode) → length (flat_map node_bytes nodes) ≡ 32 * length nodes
length-node_list nodes = length_parts node_bytes 32 length-node_bytes nodes

pub length-words : (words : List ℕ) → length (flat_map (little_bytes 4) words) ≡ 4 * length words
length-words words = length_parts (little_bytes 4) 4 length-word words

pub length-part_of : (nodes : List StoredNode) (order : List ℕ) → length (part_of nodes order) ≡ part_size (length nodes) (length order)
length-part_of nodes order =
    let a = length-word (length nodes) in
    let b = length-word (length order) in
    let c = length-node_list nodes in
    let d = length-words order in
    length-append (little_bytes 4 (length nodes)) (little_bytes 4 (length order) ++ (flat_map node_bytes nodes ++ flat_map (little_bytes 4) order))
    ∙ (ap (λ n. length (little_bytes 4 (length nodes)) + n)
    (length-append (little_bytes 4 (length order)) (flat_map node_bytes nodes ++ flat_map (little_bytes 4) order)
    ∙ ap (λ n. length (little_bytes 4 (length order)) + n) (length-append (flat_map node_bytes nodes) (flat_map (little_bytes 4) order)))
    ∙ omega arith)

pub length-stored_all : (nodes : List Node) (boxes : List BoxValue) → length boxes ≡ length nodes → length (stored_all nodes boxes) ≡ length nodes
length-stored_all [] boxes e = refl
length-stored_all (x ∷ xs) [] e = absurd (omega arith)
length-stored_all (x ∷ xs) (b ∷ bs) e = ap suc (length-stored_all xs bs (omega (arith, e)))

pub length-tree_bytes : (tree : TreeValue) → length tree.boxes ≡ length tree.nodes → length (tree_bytes tree) ≡ part_size (length tree.nodes) (length tree.order)
unfolding tree_bytes
length-tree_bytes tree e =
    length-part_of (stored_all tree.nodes tree.boxes) tree.order
    ∙ ap (λ n. part_size n (length tree.order)) (length-stored_all tree.nodes tree.boxes e)
