-- One subtree more of a cut as a child.
use Rattle.std.proofs.Common.{◌≡◌, ◌∙◌, ◌+◌, ◌<◌, ◌≤◌, ◌++◌, ℕ, List, [], ◌∷◌, length, take, get_or, sym, ap, ap₂, subst, arith, append_assoc, length-append}
use Rattle.std.specs.List.{All}
use Rattle.std.proofs.lemmas.List.{map_more, length-map, length-take-le, get_or-map}
use Rattle.std.proofs.lemmas.List.Elements.{All-get_or}
use Rattle.ray_tree.specs.declared.node.Node.{Node}
use Rattle.ray_tree.specs.Shapes.{node_at}
use Rattle.ray_wide.specs.declared.node.WideRef.{WideRef}
use Rattle.ray_wide.specs.declared.cut.Branch.{Branch}
use Rattle.ray_wide.specs.Cuts.{IsNode, nodes_in, inner_by, inners_of, ref_by, refs_of}
use Rattle.ray_wide.proofs.Placing.{inners-last, refs-last, inners-few, refs-many}

pub node-small : (nodes : List Node) (cut : List Branch) (i : ℕ) → i < length cut → All (IsNode nodes) (nodes_in cut)
    → IsNode nodes (get_or cut i (record { node = 0; surface = 0 })).node
node-small nodes cut i small all =
    let f = λ (b : Branch). b.node in
    subst (IsNode nodes) (get_or-map f cut i (record { node = 0; surface = 0 }) 0 small)
    (All-get_or (IsNode nodes) (nodes_in cut) i 0 (omega (arith, length-map cut f)) all)

length-first : (cut : List Branch) (i : ℕ) → i ≤ length cut → length (nodes_in (take i cut)) ≡ i
length-first cut i le = length-map (take i cut) (λ (b : Branch). b.node) ∙ length-take-le i cut le

pub refs-room : (nodes : List Node) (tops0 : List ℕ) (cut : List Branch) (i : ℕ) (refs : List WideRef) → i ≤ length cut
    → refs ≡ refs_of nodes (length tops0) (nodes_in (take i cut)) → length refs ≡ i
refs-room nodes tops0 cut i refs le is = ap length is ∙ refs-many nodes (length tops0) (nodes_in (take i cut)) ∙ length-first cut i le

pub tops-room : (nodes : List Node) (tops0 tops : List ℕ) (cut : List Branch) (i : ℕ) → i ≤ length cut
    → tops ≡ tops0 ++ inners_of nodes (nodes_in (take i cut)) → length tops ≤ length tops0 + i
tops-room nodes tops0 tops cut i le is =
    omega (arith, ap length is, length-append tops0 (inners_of nodes (nodes_in (take i cut))), inners-few nodes (nodes_in (take i cut)), length-first cut i le)

more-nodes : (cut : List Branch) (i : ℕ) → i < length cut
    → nodes_in (take (i + 1) cut) ≡ nodes_in (take i cut) ++ ((get_or cut i (record { node = 0; surface = 0 })).node ∷ [])
more-nodes cut i small = map_more (λ (b : Branch). b.node) cut i (record { node = 0; surface = 0 }) small

pub placed-refs : (nodes : List Node) (tops0 tops : List ℕ) (cut : List Branch) (i n : ℕ) (refs refs1 : List WideRef) (child : WideRef) → i < length cut
    → n ≡ (get_or cut i (record { node = 0; surface = 0 })).node
    → refs ≡ refs_of nodes (length tops0) (nodes_in (take i cut)) → tops ≡ tops0 ++ inners_of nodes (nodes_in (take i cut))
    → child ≡ ref_by (length tops) n (node_at nodes n) → refs1 ≡ refs ++ (child ∷ [])
    → refs1 ≡ refs_of nodes (length tops0) (nodes_in (take (i + 1) cut))
placed-refs nodes tops0 tops cut i n refs refs1 child small is_n is_refs is_tops is_child pushed =
    let ns = nodes_in (take i cut) in
    let long : length tops ≡ length tops0 + length (inners_of nodes ns) = ap length is_tops ∙ length-append tops0 (inners_of nodes ns) in
    pushed ∙ ap₂ (λ a b. a ++ (b ∷ [])) is_refs (is_child ∙ ap (λ k. ref_by k n (node_at nodes n)) long)
    ∙ sym (refs-last nodes (length tops0) ns n)
    ∙ ap (refs_of nodes (length tops0)) (ap (λ m. ns ++ (m ∷ [])) is_n ∙ sym (more-nodes cut i small))

pub placed-tops : (nodes : List Node) (tops0 tops tops1 : List ℕ) (cut : List Branch) (i n : ℕ) → i < length cut
    → n ≡ (get_or cut i (record { node = 0; surface = 0 })).node
    → tops ≡ tops0 ++ inners_of nodes (nodes_in (take i cut)) → tops1 ≡ tops ++ inner_by n (node_at nodes n)
    → tops1 ≡ tops0 ++ inners_of nodes (nodes_in (take (i + 1) cut))
placed-tops nodes tops0 tops tops1 cut i n small is_n is_tops pushed =
    let ns = nodes_in (take i cut) in
    pushed ∙ ap (λ t. t ++ inner_by n (node_at nodes n)) is_tops
    ∙ append_assoc tops0 (inners_of nodes ns) (inner_by n (node_at nodes n))
    ∙ ap (λ t. tops0 ++ t) (sym (inners-last nodes ns n) ∙ ap (inners_of nodes) (ap (λ m. ns ++ (m ∷ [])) is_n ∙ sym (more-nodes cut i small)))
