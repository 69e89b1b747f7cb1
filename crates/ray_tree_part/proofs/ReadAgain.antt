-- What is written of a tree is read back as what is stored of it.
use Rattle.std.proofs.Common.{ℕ, zero, suc, ◌≡◌, ◌<◌, ◌≤◌, ◌+◌, ◌*◌, ◌^◌, ◌++◌, ◌==◌, ◌&&◌, Bool, true, List, [], ◌∷◌, length, map, take, drop, Result, Ok, Err, Option, Some, option_map, refl, sym, ap, subst, ◌∙◌, arith, append_assoc, mul-suc}
use Rattle.std.specs.Prelude.{All, OnOk, nat_le, slice_get, option_and_then}
use Rattle.std.specs.List.{flat_map, range_with_len}
use Rattle.std.proofs.lemmas.Bool.Decides.{nat_tests}
use Rattle.std.proofs.lemmas.List.{drop-drop, drop_at}
use Rattle.std.proofs.lemmas.List.Concat.{flat_map-cons}
use Rattle.std.proofs.lemmas.List.Elements.{All-head, All-tail}
use Rattle.std.proofs.lemmas.Option.{get_or_from_slice_get, slice_get_within}
use Rattle.std.proofs.Math.Seq.{take-append_seam, drop-append-add}
use Rattle.byteorder.specs.Endian.{little_bytes, little_number}
use Rattle.byteorder.specs.Numbers.{little_number-reads_back}
use Rattle.ray_geom.specs.Boxes.{BoxValue}
use Rattle.ray_bytes.specs.Fields.{word_at}
use Rattle.ray_contents.specs.Gathering.{all_some}
use Rattle.ray_contents.proofs.Gathered.{all_some_items}
use Rattle.ray_primitives.specs.StoredPrimitives.{aabb_bytes, stored_box}
use Rattle.ray_primitives.proofs.StoredBack.{box_back, length-aabb_bytes}
use Rattle.ray_tree.specs.Trees.{TreeValue}
use Rattle.ray_stated.specs.declared.stored.StoredNode.{StoredNode}
use Rattle.ray_stated.specs.Stored.{stored_all}
use Rattle.ray_stated.specs.Carried.{carried}
use Rattle.ray_tree_part.specs.TreeParts.{node_bytes, part_of, tree_bytes, node_count, item_count, part_size, is_part, box_in, node_with, node_in, node_of, nodes_in, item_of, order_in, tree_in, IsReadAgain, IsWritable}
use Rattle.ray_tree_part.proofs.Lengths.{length-word, length-node_bytes, length-node_list, length-part_of}

-- a word that is read back from the front of bytes
word : (n : ℕ) (rest : List ℕ) → n < 2 ^ 32 → little_number 4 (little_bytes 4 n ++ rest) ≡ n
word n rest below = little_number-reads_back 4 n rest below

-- ---- counts

count_back : (n : ℕ) (rest : List ℕ) → n < 2 ^ 32 → node_count (little_bytes 4 n ++ rest) ≡ n
unfolding node_count word_at
count_back n rest below = word n rest below

-- what stands behind a word
after_word : (n k : ℕ) (rest : List ℕ) → drop (4 + k) (little_bytes 4 n ++ rest) ≡ drop k rest
after_word n k rest = ap (λ m. drop (m + k) (little_bytes 4 n ++ rest)) (sym (length-word n)) ∙ drop-append-add (little_bytes 4 n) rest k

places_back : (m n : ℕ) (rest : List ℕ) → n < 2 ^ 32 → item_count (little_bytes 4 m ++ (little_bytes 4 n ++ rest)) ≡ n
unfolding item_count word_at
places_back m n rest below =
    ap (little_number 4) (after_word m 0 (little_bytes 4 n ++ rest)) ∙ word n rest below

-- ---- one node

node_front : (node : StoredNode) → take 24 (node_bytes node) ≡ aabb_bytes (Some node.bounds)
unfolding node_bytes
node_front node =
    ap (λ n. take n (aabb_bytes (Some node.bounds) ++ (little_bytes 4 node.count ++ little_bytes 4 node.link))) (sym (length-aabb_bytes (Some node.bounds)))
    ∙ take-append_seam (aabb_bytes (Some node.bounds)) (little_bytes 4 node.count ++ little_bytes 4 node.link)

behind_box : (node : StoredNode) (k : ℕ) → drop (24 + k) (node_bytes node) ≡ drop k (little_bytes 4 node.count ++ little_bytes 4 node.link)
unfolding node_bytes
behind_box node k =
    ap (λ n. drop (n + k) (aabb_bytes (Some node.bounds) ++ (little_bytes 4 node.count ++ little_bytes 4 node.link))) (sym (length-aabb_bytes (Some node.bounds)))
    ∙ drop-append-add (aabb_bytes (Some node.bounds)) (little_bytes 4 node.count ++ little_bytes 4 node.link) k

node_word : (node : StoredNode) → node.count < 2 ^ 32 → word_at (node_bytes node) 24 ≡ node.count
unfolding word_at
node_word node below = ap (little_number 4) (behind_box node 0) ∙ word node.count (little_bytes 4 node.link) below

link_alone : (n : ℕ) → n < 2 ^ 32 → little_number 4 (little_bytes 4 n) ≡ n
link_alone n below = ap (little_number 4) (sym (no_more (little_bytes 4 n))) ∙ word n [] below
  where
    no_more : (xs : List ℕ) → xs ++ [] ≡ xs
    no_more [] = refl
    no_more (x ∷ xs) = ap (λ ys. x ∷ ys) (no_more xs)

node_link : (node : StoredNode) → node.link < 2 ^ 32 → word_at (node_bytes node) 28 ≡ node.link
unfolding word_at
node_link node below =
    ap (little_number 4) (behind_box node 4 ∙ after_word node.count 0 (little_bytes 4 node.link)) ∙ link_alone node.link below

box_again : (node : StoredNode) → IsWritable node → box_in (node_bytes node) ≡ Some node.bounds
unfolding box_in
box_again node is =
    ap (option_and_then (λ (box : Option BoxValue). box)) (ap stored_box (node_front node) ∙ box_back (Some node.bounds) (record { limits = is.bounds }))

node_again : (node : StoredNode) → IsWritable node → node_in (node_bytes node) ≡ Some node
unfolding node_in
node_again node is =
    λ i. option_map (node_with (node_word node is.count i) (node_link node is.link i)) (box_again node is i)

-- ---- all nodes, and all numbers

-- part k of parts of one size that stand one after the other, and in front of others
part_k : {X : Type 0} (f : X → List ℕ) (n : ℕ) → ((x : X) → length (f x) ≡ n) → (xs : List X) (rest : List ℕ) (k : ℕ) (x : X) → slice_get xs k ≡ Some x →
    take n (drop (n * k) (flat_map f xs ++ rest)) ≡ f x
part_k f n sized [] rest k x e = absurd cc
part_k f n sized (z ∷ zs) rest zero x e =
    let same : z ≡ x = cc in
    let none : n * 0 ≡ 0 = omega arith in
    ap (λ j. take n (drop j (flat_map f (z ∷ zs) ++ rest))) none
    ∙ (ap (λ ys. take n (ys ++ rest)) (flat_map-cons f z zs)
    ∙ (ap (λ ys. take n ys) (append_assoc (f z) (flat_map f zs) rest)
    ∙ (ap (λ j. take j (f z ++ (flat_map f zs ++ rest))) (sym (sized z)) ∙ (take-append_seam (f z) (flat_map f zs ++ rest) ∙ ap f same))))
part_k f n sized (z ∷ zs) rest (suc k) x e =
    let next : n * suc k ≡ length (f z) + n * k = let many = sized z in omega (arith, mul-suc n k) in
    ap (λ j. take n (drop j (flat_map f (z ∷ zs) ++ rest))) next
    ∙ (ap (λ ys. take n (drop (length (f z) + n * k) (ys ++ rest))) (flat_map-cons f z zs)
    ∙ (ap (λ ys. take n (drop (length (f z) + n * k) ys)) (append_assoc (f z) (flat_map f zs) rest)
    ∙ (ap (λ ys. take n ys) (drop-append-add (f z) (flat_map f zs ++ rest) (n * k)) ∙ part_k f n sized zs rest k x e)))

item_of_all : {X : Type 0} (P : X → Type 0) (xs : List X) (k : ℕ) (x : X) → All P xs → slice_get xs k ≡ Some x → P x
item_of_all P xs k x all e = subst (λ y. P y) (get_or_from_slice_get xs k x x e) (all k x (slice_get_within xs k x e))

both_words : (k : ℕ) → 8 + k ≡ 4 + (4 + k)
both_words k = omega arith

-- what stands behind the two counts
behind_counts : (nodes : List StoredNode) (order : List ℕ) (k : ℕ) →
    drop (8 + k) (part_of nodes order) ≡ drop k (flat_map node_bytes nodes ++ flat_map (little_bytes 4) order)
behind_counts nodes order k =
    ap (λ n. drop n (part_of nodes order)) (both_words k)
    ∙ after_word (length nodes) (4 + k) (little_bytes 4 (length order) ++ (flat_map node_bytes nodes ++ flat_map (little_bytes 4) order))
    ∙ after_word (length order) k (flat_map node_bytes nodes ++ flat_map (little_bytes 4) order)

node_k : (nodes : List StoredNode) (order : List ℕ) → All IsWritable nodes → (k : ℕ) (node : StoredNode) → slice_get nodes k ≡ Some node →
    node_of (part_of nodes order) k ≡ Some node
unfolding node_of
node_k nodes order all k node e =
    ap (λ xs. node_in (take 32 xs)) (behind_counts nodes order (32 * k))
    ∙ (ap node_in (part_k node_bytes 32 length-node_bytes nodes (flat_map (little_bytes 4) order) k node e)
    ∙ node_again node (item_of_all IsWritable nodes k node all e))

pub nodes_again : (nodes : List StoredNode) (order : List ℕ) → length nodes < 2 ^ 32 → All IsWritable nodes →
    nodes_in (part_of nodes order) ≡ Some nodes
nodes_again nodes order few all =
    let part = part_of nodes order in
    let count = count_back (length nodes) (little_bytes 4 (length order) ++ (flat_map node_bytes nodes ++ flat_map (little_bytes 4) order)) few in
    ap (all_some (node_of part)) count
    ∙ all_some_items (node_of part) nodes (node_k nodes order all)

-- numbers that are read one after the other
numbers_from : (part : List ℕ) (at : ℕ) (words : List ℕ) (k : ℕ) → All (λ w. w < 2 ^ 32) words →
    drop (at + 4 * k) part ≡ flat_map (little_bytes 4) words →
    map (λ j. word_at part (at + 4 * j)) (range_with_len k (length words)) ≡ words
unfolding word_at
numbers_from part at [] k all e = refl
numbers_from part at (w ∷ ws) k all e =
    let here = ap (little_number 4) (e ∙ flat_map-cons (little_bytes 4) w ws) ∙ word w (flat_map (little_bytes 4) ws) (All-head (λ v. v < 2 ^ 32) w ws all) in
    let step : at + 4 * (k + 1) ≡ at + 4 * k + 4 = omega arith in
    let behind = ap (λ n. drop n part) step
    ∙ (sym (drop-drop 4 (at + 4 * k) part)
    ∙ (ap (drop 4) (e ∙ flat_map-cons (little_bytes 4) w ws) ∙ after_word w 0 (flat_map (little_bytes 4) ws))) in
    let others = numbers_from part at ws (k + 1) (All-tail (λ v. v < 2 ^ 32) w ws all) behind in
    λ i. here i ∷ others i

behind_nodes : (nodes : List StoredNode) (order : List ℕ) → drop (8 + 32 * length nodes) (part_of nodes order) ≡ flat_map (little_bytes 4) order
behind_nodes nodes order =
    behind_counts nodes order (32 * length nodes)
    ∙ drop_at (flat_map node_bytes nodes) (flat_map (little_bytes 4) order) (32 * length nodes) (length-node_list nodes)

pub order_again : (nodes : List StoredNode) (order : List ℕ) → length nodes < 2 ^ 32 → length order < 2 ^ 32 → All (λ w. w < 2 ^ 32) order →
    order_in (part_of nodes order) ≡ order
unfolding item_of
order_again nodes order few short all =
    let part = part_of nodes order in
    let back = flat_map node_bytes nodes ++ flat_map (little_bytes 4) order in
    let count = count_back (length nodes) (little_bytes 4 (length order) ++ back) few in
    let many = places_back (length nodes) (length order) back short in
    let start : 8 + 32 * length nodes + 4 * 0 ≡ 8 + 32 * length nodes = omega arith in
    (λ i. map (λ j. word_at part (8 + 32 * count i + 4 * j)) (range_with_len 0 (many i)))
    ∙ numbers_from part (8 + 32 * length nodes) order 0 all (ap (λ n. drop n part) start ∙ behind_nodes nodes order)

-- ---- the whole

size_test : (nodes : List StoredNode) (order part : List ℕ) → node_count part ≡ length nodes → item_count part ≡ length order
    → length part ≡ part_size (length nodes) (length order) → is_part part ≡ true
unfolding is_part
size_test nodes order part n a long = both (nat_le 8 (length part)) (part_size (node_count part) (item_count part) == length part) (long_enough (length part) (omega arith)) (same_size _ _ (omega arith))
  where
    both : (a b : Bool) → a ≡ true → b ≡ true → (a && b) ≡ true
    both a b p q = λ i. p i && q i

    long_enough : (n : ℕ) → 8 ≤ n → nat_le 8 n ≡ true
    long_enough n h = grind (arith, nat_tests)

    same_size : (n m : ℕ) → n ≡ m → (n == m) ≡ true
    same_size n m h = grind (arith, nat_tests)

read_again : (tree : TreeValue) → length (stored_all tree.nodes tree.boxes) < 2 ^ 32 → length tree.order < 2 ^ 32
    → All IsWritable (stored_all tree.nodes tree.boxes) → All (λ w. w < 2 ^ 32) tree.order → IsReadAgain tree
unfolding tree_bytes tree_in
read_again tree few short nodes words =
    let stored = stored_all tree.nodes tree.boxes in
    let part = part_of stored tree.order in
    let back = flat_map node_bytes stored ++ flat_map (little_bytes 4) tree.order in
    record {
      part = size_test stored tree.order part (count_back (length stored) (little_bytes 4 (length tree.order) ++ back) few)
          (places_back (length stored) (length tree.order) back short) (length-part_of stored tree.order);
      same = λ items.
          (λ i. option_and_then (λ ns. carried ns (order_again stored tree.order few short words i) items) (nodes_again stored tree.order few nodes i));
    }

-- the same where writing it has shown what is asked
pub written_again : {E : Type 0} (tree : TreeValue) (nodes : List StoredNode) (order : List ℕ) (r : Result (Unit {0}) E) → nodes ≡ stored_all tree.nodes tree.boxes
    → order ≡ tree.order → length nodes < 2 ^ 32 → length order < 2 ^ 32 → OnOk r (All IsWritable nodes) → OnOk r (All (λ w. w < 2 ^ 32) order) → OnOk r (IsReadAgain tree)
written_again tree nodes order (Ok done) p q few short all words =
    read_again tree (subst (λ ns. length ns < 2 ^ 32) p few) (subst (λ ns. length ns < 2 ^ 32) q short) (subst (λ ns. All IsWritable ns) p all)
    (subst (λ ns. All (λ (w : ℕ). w < 2 ^ 32) ns) q words)
written_again tree nodes order (Err fault) p q few short all words = tt
