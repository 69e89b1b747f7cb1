-- One step of planting nodes: a leaf, or a node over two parts.
use Rattle.std.proofs.Common.{◌≡◌, ◌∙◌, ◌+◌, ◌-◌, ◌*◌, ◌<◌, ◌≤◌, ◌++◌, ℕ, List, [], ◌∷◌, length, take, drop, set, refl, sym, ap, ap₂, subst, arith, append_assoc, length-append, length-take-le, length-drop}
use Rattle.ray_tree.specs.declared.node.Node.{Node}
use Rattle.ray_tree.specs.declared.node.Node.TheVariants.{Leaf, Inner}
use Rattle.ray_tree.specs.Plans.{Plan, Few, Both, size, places_of, spell}
use Rattle.ray_tree.proofs.Spelled.{length-spell}
use Rattle.ray_morton.specs.declared.cutting.Cut.{Cut}
use Rattle.ray_morton.specs.Cuts.{IsCut}
use Rattle.ray_morton.specs.Planted.{Cuts, IsPlanted, IsCutAt}
use Rattle.ray_tree.proofs.Planting.{planted_both}

pub leaf_planted : (keys : List ℕ) (first levels : ℕ) (n0 n1 : List Node) → 0 < length keys → length keys ≤ 4 → n1 ≡ n0 ++ (Leaf first (length keys) ∷ [])
    → IsPlanted keys first (levels + 1) n0 n1
leaf_planted keys first levels n0 n1 some few is = record {
  plan = Few (length keys);
  spelled = is;
  full = refl;
  small = (some, few);
  sized = omega arith;
  low = omega arith;
  cut = tt;
}

-- how many nodes there are then
pub planted_room : (keys : List ℕ) (first levels : ℕ) (old new : List Node) → IsPlanted keys first levels old new → length new + 1 ≤ length old + 2 * length keys
planted_room keys first levels old new planted =
    let p = planted.plan in
    omega (arith, ap length planted.spelled, length-append old (spell (length old) first p), length-spell (length old) first p, planted.sized)

-- both parts are cut so, and the keys where they were cut
cuts_both : (keys lefts rights : List ℕ) (half : ℕ) (l r : Plan) → lefts ≡ take half keys → rights ≡ drop half keys → places_of l ≡ half
    → IsCut (take half keys) (drop half keys) → Cuts lefts l → Cuts rights r → Cuts keys (Both l r)
cuts_both keys lefts rights half l r is_left is_right full cut a b =
    subst (λ n. IsCut (take n keys) (drop n keys) × Cuts (take n keys) l × Cuts (drop n keys) r) (sym full)
    (cut, subst (λ k. Cuts k l) is_left a, subst (λ k. Cuts k r) is_right b)

pub both_planted : (keys lefts rights : List ℕ) (first bits halvings : ℕ) (cut : Cut) (n0 n1 n2 n3 : List Node) (x : Node) (at right : ℕ)
    → IsCutAt keys bits halvings cut → lefts ≡ take cut.half keys → rights ≡ drop cut.half keys → at ≡ length n0 → n1 ≡ n0 ++ (x ∷ [])
    → IsPlanted lefts first (cut.bits + cut.halvings + 1) n1 n2 → right ≡ length n2
    → IsPlanted rights (first + cut.half) (cut.bits + cut.halvings + 1) n2 n3
    → IsPlanted keys first (bits + halvings + 1) n0 (set n3 at (Inner (at + 1) right))
both_planted keys lefts rights first bits halvings cut n0 n1 n2 n3 x at right fair is_left is_right is_at pushed l is_right_node r =
    let half = cut.half in
    let rest = fair.rest in
    let left_long : length lefts ≡ half = ap length is_left ∙ length-take-le half keys (omega arith) in
    let right_long : length rights ≡ length keys - half = ap length is_right ∙ length-drop half keys in
    let left_full : places_of l.plan ≡ half = l.full ∙ left_long in
    let right_full = r.full in
    let left_sized = l.sized in
    let right_sized = r.sized in
    let left_low = l.low in
    let right_low = r.low in
    let low = fair.low in
    record {
      plan = Both l.plan r.plan;
      spelled = (λ i. set n3 (is_at i) (Inner (is_at i + 1) (is_right_node i))) ∙ planted_both n0 n1 n2 n3 x first half l.plan r.plan pushed l.spelled r.spelled left_full;
      full = omega (arith, left_full, right_full, right_long, rest);
      small = (l.small, r.small);
      sized = omega (arith, left_sized, right_sized, left_long, right_long, rest);
      low = omega (arith, left_low, right_low, low);
      cut = cuts_both keys lefts rights half l.plan r.plan is_left is_right left_full fair.cut l.cut r.cut;
    }
