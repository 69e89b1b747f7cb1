-- Subtrees of a cut as children.
use Rattle.std.proofs.Common.{◌≡◌, ◌∙◌, ◌+◌, ◌-◌, ◌<◌, ◌≤◌, ◌++◌, ℕ, zero, suc, if◌then◌else◌, List, [], ◌∷◌, length, get_or, refl, sym, ap, ap₂, subst, arith, append_assoc, append-nil, length-append}
use Rattle.std.specs.List.{All, sum_by, count_by}
use Rattle.std.proofs.lemmas.List.{get_or-append-add}
use Rattle.std.proofs.lemmas.List.Elements.{All-nil, All-cons, All-head, All-tail, All-append}
use Rattle.std.proofs.lemmas.List.Sums.{sum_by-cons, sum_by-append}
use Rattle.ray_tree.specs.declared.node.Node.{Node}
use Rattle.ray_tree.specs.declared.node.Node.TheVariants.{Leaf as LeafNode, Inner as InnerNode}
use Rattle.ray_tree.specs.Shapes.{node_at}
use Rattle.ray_tree.specs.Local.{IsLeaf}
use Rattle.ray_wide.specs.declared.node.WideRef.{WideRef}
use Rattle.ray_wide.specs.declared.node.WideRef.TheVariants.{Empty}
use Rattle.ray_wide.specs.Subtrees.{IsInner, IsInnerNode, leaves_at}
use Rattle.ray_wide.specs.Wides.{is_there, leaves_for, leaves_below, IsChild}
use Rattle.ray_wide.specs.Cuts.{IsNode, leaves_over, weight_at, inner_by, inners_of, ref_by, refs_of, eight_of}

-- one more
pub inners-last : (nodes : List Node) (ns : List ℕ) (n : ℕ) → inners_of nodes (ns ++ (n ∷ [])) ≡ inners_of nodes ns ++ inner_by n (node_at nodes n)
inners-last nodes [] n = append-nil (inner_by n (node_at nodes n))
inners-last nodes (m ∷ ns) n =
    ap (λ t. inner_by m (node_at nodes m) ++ t) (inners-last nodes ns n)
    ∙ sym (append_assoc (inner_by m (node_at nodes m)) (inners_of nodes ns) (inner_by n (node_at nodes n)))

pub refs-last : (nodes : List Node) (at : ℕ) (ns : List ℕ) (n : ℕ)
    → refs_of nodes at (ns ++ (n ∷ [])) ≡ refs_of nodes at ns ++ (ref_by (at + length (inners_of nodes ns)) n (node_at nodes n) ∷ [])
refs-last nodes at [] n = let same : at ≡ at + 0 = omega arith in ap (λ a. ref_by a n (node_at nodes n) ∷ []) same
refs-last nodes at (m ∷ ns) n =
    let more = length (inner_by m (node_at nodes m)) in
    let same : (at + more) + length (inners_of nodes ns) ≡ at + length (inners_of nodes (m ∷ ns)) =
    omega (arith, length-append (inner_by m (node_at nodes m)) (inners_of nodes ns)) in
    ap (λ t. ref_by at m (node_at nodes m) ∷ t)
    (refs-last nodes (at + more) ns n ∙ ap (λ a. refs_of nodes (at + more) ns ++ (ref_by a n (node_at nodes n) ∷ [])) same)

-- how many
one-inner : (n : ℕ) (node : Node) → length (inner_by n node) ≤ 1
one-inner n (LeafNode first count) = omega arith
one-inner n (InnerNode l r) = omega arith

pub inners-few : (nodes : List Node) (ns : List ℕ) → length (inners_of nodes ns) ≤ length ns
inners-few nodes [] = omega arith
inners-few nodes (n ∷ ns) =
    omega (arith, length-append (inner_by n (node_at nodes n)) (inners_of nodes ns), one-inner n (node_at nodes n), inners-few nodes ns)

pub refs-many : (nodes : List Node) (at : ℕ) (ns : List ℕ) → length (refs_of nodes at ns) ≡ length ns
refs-many nodes at [] = refl
refs-many nodes at (n ∷ ns) = omega (arith, refs-many nodes (at + length (inner_by n (node_at nodes n))) ns)

abbrev there : WideRef → ℕ
there c = if is_there c then 1 else 0

is-one : (at n : ℕ) (node : Node) → there (ref_by at n node) ≡ 1
is-one at n (LeafNode first count) = refl
is-one at n (InnerNode l r) = refl

pub refs-there : (nodes : List Node) (at : ℕ) (ns : List ℕ) → count_by is_there (refs_of nodes at ns) ≡ length ns
refs-there nodes at [] = refl
refs-there nodes at (n ∷ ns) =
    let child = ref_by at n (node_at nodes n) in
    let rest = refs_of nodes (at + length (inner_by n (node_at nodes n))) ns in
    let one = is-one at n (node_at nodes n) in
    omega (arith, sum_by-cons there child rest, one, refs-there nodes (at + length (inner_by n (node_at nodes n))) ns)

-- the inner ones are inner nodes, and no heavier than all
inner-one : (nodes : List Node) (n : ℕ) (node : Node) → node_at nodes n ≡ node → n < length nodes → All (IsInnerNode nodes) (inner_by n node)
inner-one nodes n (LeafNode first count) is small = All-nil (IsInnerNode nodes)
inner-one nodes n (InnerNode l r) is small =
    All-cons (IsInnerNode nodes) n [] (record { small = small; inner = subst IsInner (sym is) tt }) (All-nil (IsInnerNode nodes))

pub inners-inner : (nodes : List Node) (ns : List ℕ) → All (IsNode nodes) ns → All (IsInnerNode nodes) (inners_of nodes ns)
inners-inner nodes [] all = All-nil (IsInnerNode nodes)
inners-inner nodes (n ∷ ns) all =
    All-append (IsInnerNode nodes) (inner_by n (node_at nodes n)) (inners_of nodes ns)
    (inner-one nodes n (node_at nodes n) refl (All-head (IsNode nodes) n ns all))
    (inners-inner nodes ns (All-tail (IsNode nodes) n ns all))

inner-weight : (nodes : List Node) (n : ℕ) (node : Node) → sum_by (weight_at nodes) (inner_by n node) ≤ weight_at nodes n
inner-weight nodes n (LeafNode first count) = omega arith
inner-weight nodes n (InnerNode l r) = omega (arith, sum_by-cons (weight_at nodes) n [])

pub inners-weight : (nodes : List Node) (ns : List ℕ) → sum_by (weight_at nodes) (inners_of nodes ns) ≤ sum_by (weight_at nodes) ns
inners-weight nodes [] = omega arith
inners-weight nodes (n ∷ ns) =
    let f = weight_at nodes in
    omega (arith, sum_by-append f (inner_by n (node_at nodes n)) (inners_of nodes ns), sum_by-cons f n ns, inner-weight nodes n (node_at nodes n), inners-weight nodes ns)

-- each is a child
is-child : (nodes : List Node) (tops : List ℕ) (from at n : ℕ) (node : Node) → node_at nodes n ≡ node → n < length nodes → from ≤ at
    → (0 < length (inner_by n node) → at < length tops) → IsChild nodes tops from (ref_by at n node)
is-child nodes tops from at n (LeafNode first count) is small le within =
    record { node = record { small = small; leaf = subst IsLeaf (sym is) tt }; same = is }
is-child nodes tops from at n (InnerNode l r) is small le within = (le, within (omega arith))

pub are-children : (nodes : List Node) (tops : List ℕ) (from at : ℕ) (ns : List ℕ) → All (IsNode nodes) ns → from ≤ at
    → at + length (inners_of nodes ns) ≤ length tops → All (IsChild nodes tops from) (refs_of nodes at ns)
are-children nodes tops from at [] all le within = All-nil (IsChild nodes tops from)
are-children nodes tops from at (n ∷ ns) all le within =
    let node = node_at nodes n in
    let more = length (inner_by n node) in
    let both = length-append (inner_by n node) (inners_of nodes ns) in
    All-cons (IsChild nodes tops from) (ref_by at n node) (refs_of nodes (at + more) ns)
    (is-child nodes tops from at n node refl (All-head (IsNode nodes) n ns all) le (λ some. omega (arith, both)))
    (are-children nodes tops from (at + more) ns (All-tail (IsNode nodes) n ns all) (omega arith) (omega (arith, both)))

-- their leaves are those of the cut
leaf-for : (nodes : List Node) (tops more : List ℕ) (n : ℕ) (node : Node)
    → leaves_for nodes (tops ++ (inner_by n node ++ more)) (ref_by (length tops) n node) ≡ leaves_at nodes n
leaf-for nodes tops more n (LeafNode first count) = refl
leaf-for nodes tops more n (InnerNode l r) =
    let same : length tops ≡ length tops + 0 = omega arith in
    ap (leaves_at nodes) (ap (λ k. get_or (tops ++ (n ∷ more)) k 0) same ∙ get_or-append-add tops (n ∷ more) 0 0)

pub leaves-placed : (nodes : List Node) (tops : List ℕ) (ns : List ℕ)
    → leaves_below nodes (tops ++ inners_of nodes ns) (refs_of nodes (length tops) ns) ≡ leaves_over nodes ns
leaves-placed nodes tops [] = refl
leaves-placed nodes tops (n ∷ ns) =
    let node = node_at nodes n in
    let one = inner_by n node in
    let rest = inners_of nodes ns in
    ap₂ (λ a b. a ++ b) (leaf-for nodes tops rest n node)
    (ap₂ (λ (ts : List ℕ) (k : ℕ). leaves_below nodes ts (refs_of nodes k ns)) (sym (append_assoc tops one rest)) (sym (length-append tops one))
    ∙ leaves-placed nodes (tops ++ one) ns)

-- eight places
empties : ℕ → List WideRef
empties zero = []
empties (suc k) = Empty ∷ empties k

eight-is : (refs : List WideRef) → length refs ≤ 8 → eight_of refs ≡ refs ++ empties (8 - length refs)
unfolding empties
eight-is [] few = refl
eight-is (a ∷ []) few = refl
eight-is (a ∷ b ∷ []) few = refl
eight-is (a ∷ b ∷ c ∷ []) few = refl
eight-is (a ∷ b ∷ c ∷ d ∷ []) few = refl
eight-is (a ∷ b ∷ c ∷ d ∷ e ∷ []) few = refl
eight-is (a ∷ b ∷ c ∷ d ∷ e ∷ f ∷ []) few = refl
eight-is (a ∷ b ∷ c ∷ d ∷ e ∷ f ∷ g ∷ []) few = refl
eight-is (a ∷ b ∷ c ∷ d ∷ e ∷ f ∷ g ∷ h ∷ []) few = refl
eight-is (a ∷ b ∷ c ∷ d ∷ e ∷ f ∷ g ∷ h ∷ i ∷ refs) few = absurd (omega (arith, few))

no-leaves : (nodes : List Node) (tops : List ℕ) (k : ℕ) → leaves_below nodes tops (empties k) ≡ []
unfolding empties
no-leaves nodes tops zero = refl
no-leaves nodes tops (suc k) = no-leaves nodes tops k

same-leaves : (nodes : List Node) (tops : List ℕ) (refs : List WideRef) (k : ℕ) → leaves_below nodes tops (refs ++ empties k) ≡ leaves_below nodes tops refs
same-leaves nodes tops [] k = no-leaves nodes tops k
same-leaves nodes tops (c ∷ cs) k = ap (λ t. leaves_for nodes tops c ++ t) (same-leaves nodes tops cs k)

none-there : (k : ℕ) → count_by is_there (empties k) ≡ 0
unfolding empties
none-there zero = refl
none-there (suc k) = omega (arith, sum_by-cons there Empty (empties k), none-there k)

all-empty : (nodes : List Node) (tops : List ℕ) (from k : ℕ) → All (IsChild nodes tops from) (empties k)
unfolding empties
all-empty nodes tops from zero = All-nil (IsChild nodes tops from)
all-empty nodes tops from (suc k) = All-cons (IsChild nodes tops from) Empty (empties k) tt (all-empty nodes tops from k)

pub eight-leaves : (nodes : List Node) (tops : List ℕ) (refs : List WideRef) → length refs ≤ 8 → leaves_below nodes tops (eight_of refs) ≡ leaves_below nodes tops refs
eight-leaves nodes tops refs few = ap (leaves_below nodes tops) (eight-is refs few) ∙ same-leaves nodes tops refs (8 - length refs)

pub eight-there : (refs : List WideRef) → length refs ≤ 8 → count_by is_there (eight_of refs) ≡ count_by is_there refs
eight-there refs few =
    let f = there in
    ap (count_by is_there) (eight-is refs few) ∙ omega (arith, sum_by-append f refs (empties (8 - length refs)), none-there (8 - length refs))

pub eight-children : (nodes : List Node) (tops : List ℕ) (from : ℕ) (refs : List WideRef) → length refs ≤ 8 → All (IsChild nodes tops from) refs
    → All (IsChild nodes tops from) (eight_of refs)
eight-children nodes tops from refs few all =
    let P = IsChild nodes tops from in
    subst (All P) (sym (eight-is refs few)) (All-append P refs (empties (8 - length refs)) all (all-empty nodes tops from (8 - length refs)))
