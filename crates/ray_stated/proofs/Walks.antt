-- The walk of nodes finds the end of what a plan spells there, and nothing else.
use Rattle.std.proofs.Common.{◌≡◌, ◌∙◌, ◌+◌, ◌<◌, ◌≤◌, ◌++◌, ◌-◌, ℕ, zero, suc, Bool, true, false, Option, Some, None, List, [], ◌∷◌, length, drop, refl, sym, ap, arith, append_assoc, append-nil}
use Rattle.std.specs.Prelude.{◌==◌, ◌&&◌, nat_le, if◌then◌else◌, slice_get}
use Rattle.std.proofs.Math.Seq.{drop-append_seam}
use Rattle.std.proofs.lemmas.List.{drop-drop}
use Rattle.std.proofs.lemmas.Option.{none-some, slice_get_past, slice_get-get_or}
use Rattle.std.proofs.lemmas.Bool.{eqb-true, leb-true, eq-eqb, le-leb, and_from, and_parts, ne_eqb, false≢true}
use Rattle.ray_tree.specs.declared.node.Node.{Node}
use Rattle.ray_tree.specs.declared.node.Node.TheVariants.{Leaf, Inner}
use Rattle.ray_tree.specs.Shapes.{node_at}
use Rattle.ray_tree.specs.Plans.{Plan, Few, Both, size, places_of, spell, AreSmall, height_of}
use Rattle.ray_tree.proofs.Spelled.{size-some, length-spell}
use Rattle.ray_stated.specs.declared.walk.Ends.{Ends}
use Rattle.ray_stated.specs.Stored.{IsSpelled, IsPreorder, IsEmpty, IsRooted}
use Rattle.ray_stated.specs.Carried.{ends, after_leaf, after_left, after_node, walked, are_all, in_preorder}

pub walked_zero : (nodes : List Node) (at place : ℕ) → walked zero nodes at place ≡ None
unfolding walked
walked_zero nodes at place = refl

pub walked_suc : (k : ℕ) (nodes : List Node) (at place : ℕ) → walked (suc k) nodes at place ≡ after_node (walked k nodes) at place (slice_get nodes at)
unfolding walked
walked_suc k nodes at place = refl

-- the node where a list is cut, and what is behind it
get-drop : (nodes : List Node) (at : ℕ) (x : Node) (rest : List Node) → drop at nodes ≡ x ∷ rest → slice_get nodes at ≡ Some x
get-drop [] zero x rest is = absurd (let e = ap length is in omega arith)
get-drop [] (suc at) x rest is = absurd (let e = ap length is in omega arith)
get-drop (y ∷ nodes) zero x rest is = ap (λ (l : List Node). slice_get l 0) is
get-drop (y ∷ nodes) (suc at) x rest is = get-drop nodes at x rest is

drop-next : (nodes : List Node) (at : ℕ) (x : Node) (rest : List Node) → drop at nodes ≡ x ∷ rest → drop (suc at) nodes ≡ rest
drop-next [] zero x rest is = absurd (let e = ap length is in omega arith)
drop-next [] (suc at) x rest is = absurd (let e = ap length is in omega arith)
drop-next (y ∷ nodes) zero x rest is = ap (λ (l : List Node). drop 1 l) is
drop-next (y ∷ nodes) (suc at) x rest is = drop-next nodes at x rest is

drop-here : (nodes : List Node) (at : ℕ) (x : Node) → slice_get nodes at ≡ Some x → drop at nodes ≡ x ∷ drop (suc at) nodes
drop-here [] at x is = absurd (none-some x is)
drop-here (y ∷ nodes) zero x is = ap (λ (z : Node). z ∷ nodes) (same is)
  where
    same : Some y ≡ Some x → y ≡ x
    same e = cc
drop-here (y ∷ nodes) (suc at) x is = drop-here nodes at x is

-- what stands behind a part
drop-past : (nodes : List Node) (at n : ℕ) (part rest : List Node) → drop at nodes ≡ part ++ rest → length part ≡ n → drop (at + n) nodes ≡ rest
drop-past nodes at n part rest is long =
    sym (drop-drop n at nodes) ∙ ap (drop n) is ∙ ap (λ k. drop k (part ++ rest)) (sym long) ∙ drop-append_seam part rest

-- it finds the end of a plan
leaf_ends : (at place count : ℕ) → 0 < count → count ≤ 4 → after_leaf at place place count ≡ Some (ends (at + 1) (place + count))
leaf_ends at place count some few =
    ap (λ b. if b then Some (ends (at + 1) (place + count)) else None)
    (and_from (place == place) (nat_le 1 count && nat_le count 4) (eq-eqb place place refl)
    (and_from (nat_le 1 count) (nat_le count 4) (le-leb 1 count (omega arith)) (le-leb count 4 few)))

pub walk_ends : (k : ℕ) (p : Plan) (nodes : List Node) (at place : ℕ) (rest : List Node) → height_of p ≤ k → AreSmall p
    → drop at nodes ≡ spell at place p ++ rest → walked k nodes at place ≡ Some (ends (at + size p) (place + places_of p))
walk_ends zero (Few count) nodes at place rest low small is = absurd (omega arith)
walk_ends zero (Both l r) nodes at place rest low small is = absurd (omega arith)
walk_ends (suc k) (Few count) nodes at place rest low small is =
    walked_suc k nodes at place
    ∙ ap (after_node (walked k nodes) at place) (get-drop nodes at (Leaf place count) rest is)
    ∙ leaf_ends at place count small.0 small.1
walk_ends (suc k) (Both l r) nodes at place rest low small is =
    let right = (at + 1) + size l in
    let ls = spell (at + 1) place l in
    let rs = spell right (place + places_of l) r in
    let next : suc at ≡ at + 1 = omega arith in
    let behind : drop (at + 1) nodes ≡ ls ++ (rs ++ rest) =
    ap (λ n. drop n nodes) (sym next) ∙ drop-next nodes at (Inner (at + 1) right) ((ls ++ rs) ++ rest) is ∙ append_assoc ls rs rest in
    let left_is = walk_ends k l nodes (at + 1) place (rs ++ rest) (omega (arith, low)) small.0 behind in
    let right_is = walk_ends k r nodes right (place + places_of l) rest (omega (arith, low)) small.1
    (drop-past nodes (at + 1) (size l) ls (rs ++ rest) behind (length-spell (at + 1) place l)) in
    walked_suc k nodes at place
    ∙ ap (after_node (walked k nodes) at place) (get-drop nodes at (Inner (at + 1) right) ((ls ++ rs) ++ rest) is)
    ∙ ap (λ b. if b then after_left (walked k nodes) right (walked k nodes (at + 1) place) else None) (eq-eqb (at + 1) (at + 1) refl)
    ∙ ap (after_left (walked k nodes) right) left_is
    ∙ ap (λ b. if b then walked k nodes right (place + places_of l) else None) (eq-eqb right right refl)
    ∙ right_is
    ∙ (let same : right + size r ≡ at + size (Both l r) = omega arith in
    let full : (place + places_of l) + places_of r ≡ place + places_of (Both l r) = omega arith in
    λ i. Some (ends (same i) (full i)))

-- where it finds an end, a plan is spelled there
pub record IsFound (nodes : List Node) (k at place : ℕ) (e : Ends) : Type 0 where
  pub plan : Plan
  pub low : height_of plan ≤ k
  pub small : AreSmall plan
  pub nodes_are : drop at nodes ≡ spell at place plan ++ drop e.node nodes
  pub node_is : e.node ≡ at + size plan
  pub place_is : e.place ≡ place + places_of plan

no_end : {e : Ends} → None ≡ Some e → ⊥
no_end h = cc

one_end : (a b : Ends) → Some a ≡ Some b → a ≡ b
one_end a b h = cc

found_leaf : (nodes : List Node) (k at place first count : ℕ) (e : Ends) → slice_get nodes at ≡ Some (Leaf first count)
    → after_leaf at place first count ≡ Some e → IsFound nodes (suc k) at place e
found_leaf nodes k at place first count e here is =
    by (first == place && (nat_le 1 count && nat_le count 4)) refl is
  where
    by : (b : Bool) → (first == place && (nat_le 1 count && nat_le count 4)) ≡ b
        → (if b then Some (ends (at + 1) (first + count)) else None) ≡ Some e → IsFound nodes (suc k) at place e
    by false t h = absurd (no_end h)
    by true t h =
        let outer = and_parts (first == place) (nat_le 1 count && nat_le count 4) t in
        let inner = and_parts (nat_le 1 count) (nat_le count 4) outer.1 in
        let same : first ≡ place = eqb-true first place outer.0 in
        let some : 1 ≤ count = leb-true 1 count inner.0 in
        let few : count ≤ 4 = leb-true count 4 inner.1 in
        let is_end : ends (at + 1) (first + count) ≡ e = one_end (ends (at + 1) (first + count)) e h in
        let node : at + 1 ≡ e.node = ap (λ (x : Ends). x.node) is_end in
        let next : suc at ≡ e.node = omega (arith, node) in
        record {
          plan = Few count;
          low = omega arith;
          small = (omega arith, few);
          nodes_are = drop-here nodes at (Leaf first count) here ∙ (λ i. Leaf (same i) count ∷ drop (next i) nodes);
          node_is = sym node;
          place_is = sym (ap (λ (x : Ends). x.place) is_end) ∙ ap (λ n. n + count) same;
        }

found_both : (nodes : List Node) (k at place left right : ℕ) (a e : Ends) → slice_get nodes at ≡ Some (Inner left right) → left ≡ at + 1 → right ≡ a.node
    → IsFound nodes k (at + 1) place a → IsFound nodes k a.node a.place e → IsFound nodes (suc k) at place e
found_both nodes k at place left right a e here first last l r =
    let p = l.plan in
    let q = r.plan in
    let next : suc at ≡ at + 1 = omega arith in
    let middle : a.node ≡ (at + 1) + size p = l.node_is in
    record {
      plan = Both p q;
      low = let u = l.low in let v = r.low in omega arith;
      small = (l.small, r.small);
      nodes_are =
          drop-here nodes at (Inner left right) here
          ∙ (λ i. Inner (first i) ((last ∙ middle) i) ∷ drop (next i) nodes)
          ∙ ap (λ (t : List Node). Inner (at + 1) ((at + 1) + size p) ∷ t)
          (l.nodes_are ∙ ap (λ (t : List Node). spell (at + 1) place p ++ t) (r.nodes_are ∙ (λ i. spell (middle i) (l.place_is i) q ++ drop e.node nodes))
          ∙ sym (append_assoc (spell (at + 1) place p) (spell ((at + 1) + size p) (place + places_of p) q) (drop e.node nodes)));
      node_is = omega (arith, r.node_is, middle);
      place_is = omega (arith, r.place_is, l.place_is);
    }

found_inner : (nodes : List Node) (k at place left right : ℕ) (e : Ends) → slice_get nodes at ≡ Some (Inner left right)
    → ((n m : ℕ) (x : Ends) → walked k nodes n m ≡ Some x → IsFound nodes k n m x)
    → (if left == at + 1 then after_left (walked k nodes) right (walked k nodes (at + 1) place) else None) ≡ Some e → IsFound nodes (suc k) at place e
found_inner nodes k at place left right e here deeper is = by (left == at + 1) refl is
  where
    last : (a : Ends) → left ≡ at + 1 → walked k nodes (at + 1) place ≡ Some a → (b : Bool) → (right == a.node) ≡ b
        → (if b then walked k nodes a.node a.place else None) ≡ Some e → IsFound nodes (suc k) at place e
    last a same left_is false t h = absurd (no_end h)
    last a same left_is true t h =
        found_both nodes k at place left right a e here same (eqb-true right a.node t) (deeper (at + 1) place a left_is) (deeper a.node a.place e h)

    second : left ≡ at + 1 → (o : Option Ends) → walked k nodes (at + 1) place ≡ o → after_left (walked k nodes) right o ≡ Some e → IsFound nodes (suc k) at place e
    second same None left_is h = absurd (no_end h)
    second same (Some a) left_is h = last a same left_is (right == a.node) refl h

    by : (b : Bool) → (left == at + 1) ≡ b → (if b then after_left (walked k nodes) right (walked k nodes (at + 1) place) else None) ≡ Some e
        → IsFound nodes (suc k) at place e
    by false t h = absurd (no_end h)
    by true t h = second (eqb-true left (at + 1) t) (walked k nodes (at + 1) place) refl h

found_node : (nodes : List Node) (k at place : ℕ) (e : Ends) (o : Option Node) → slice_get nodes at ≡ o
    → ((n m : ℕ) (x : Ends) → walked k nodes n m ≡ Some x → IsFound nodes k n m x)
    → after_node (walked k nodes) at place o ≡ Some e → IsFound nodes (suc k) at place e
found_node nodes k at place e None here deeper is = absurd (no_end is)
found_node nodes k at place e (Some (Leaf first count)) here deeper is = found_leaf nodes k at place first count e here is
found_node nodes k at place e (Some (Inner left right)) here deeper is = found_inner nodes k at place left right e here deeper is

pub walk_found : (k : ℕ) (nodes : List Node) (at place : ℕ) (e : Ends) → walked k nodes at place ≡ Some e → IsFound nodes k at place e
walk_found zero nodes at place e is = absurd (no_end (sym (walked_zero nodes at place) ∙ is))
walk_found (suc k) nodes at place e is =
    found_node nodes k at place e (slice_get nodes at) refl (λ n m x. walk_found k nodes n m x) (sym (walked_suc k nodes at place) ∙ is)

-- all nodes are in preorder exactly where the walk says so
drop-all : (nodes : List Node) (n : ℕ) → n ≡ length nodes → drop n nodes ≡ []
drop-all nodes n is = ap (λ k. drop k nodes) is ∙ none nodes
  where
    none : (l : List Node) → drop (length l) l ≡ []
    none [] = refl
    none (x ∷ xs) = none xs

spelled_by : (nodes : List Node) (places : ℕ) (o : Option Ends) → walked 96 nodes 0 0 ≡ o → are_all o (length nodes) places ≡ true → IsSpelled nodes places
spelled_by nodes places None is all = absurd (false≢true all)
spelled_by nodes places (Some e) is all =
    let parts = and_parts (e.node == length nodes) (e.place == places) all in
    let found = walk_found 96 nodes 0 0 e is in
    let ended : e.node ≡ length nodes = eqb-true e.node (length nodes) parts.0 in
    let full : e.place ≡ places = eqb-true e.place places parts.1 in
    record {
      plan = found.plan;
      low = found.low;
      small = found.small;
      nodes_are = found.nodes_are ∙ ap (λ (t : List Node). spell 0 0 found.plan ++ t) (drop-all nodes e.node ended) ∙ append-nil (spell 0 0 found.plan);
      full = omega (arith, found.place_is, full);
    }

pub is_preorder : (nodes : List Node) (places : ℕ) → in_preorder nodes places ≡ true → IsPreorder nodes places
is_preorder [] places h = IsEmpty refl (eqb-true places 0 h)
is_preorder (x ∷ xs) places h = IsRooted (spelled_by (x ∷ xs) places (walked 96 (x ∷ xs) 0 0) refl h)

rooted : (nodes : List Node) (places : ℕ) → IsSpelled nodes places → in_preorder nodes places ≡ true
rooted [] places s = absurd (omega (arith, ap length s.nodes_are, length-spell 0 0 s.plan, size-some s.plan))
rooted (x ∷ xs) places s =
    let nodes : List Node = x ∷ xs in
    let end = walk_ends 96 s.plan nodes 0 0 [] s.low s.small (s.nodes_are ∙ sym (append-nil (spell 0 0 s.plan))) in
    let long : 0 + size s.plan ≡ length nodes = omega (arith, ap length s.nodes_are, length-spell 0 0 s.plan) in
    let full : 0 + places_of s.plan ≡ places = omega (arith, s.full) in
    ap (λ o. are_all o (length nodes) places) end
    ∙ and_from (0 + size s.plan == length nodes) (0 + places_of s.plan == places)
    (eq-eqb (0 + size s.plan) (length nodes) long) (eq-eqb (0 + places_of s.plan) places full)

none_there : (nodes : List Node) (places : ℕ) → nodes ≡ [] → places ≡ 0 → in_preorder nodes places ≡ true
none_there nodes places a b = (λ i. in_preorder (a i) places) ∙ eq-eqb places 0 b

pub preorder_is : (nodes : List Node) (places : ℕ) → IsPreorder nodes places → in_preorder nodes places ≡ true
preorder_is nodes places (IsEmpty a b) = none_there nodes places a b
preorder_is nodes places (IsRooted s) = rooted nodes places s

-- the steps of the walk
pub walk_stop : (levels : ℕ) (nodes : List Node) (at place : ℕ) → levels ≡ 0 → None ≡ walked levels nodes at place
walk_stop levels nodes at place is = sym (ap (λ k. walked k nodes at place) is ∙ walked_zero nodes at place)

walk_step : (levels : ℕ) (nodes : List Node) (at place : ℕ) (o : Option Node) → 0 < levels → slice_get nodes at ≡ o
    → walked levels nodes at place ≡ after_node (walked (levels - 1) nodes) at place o
walk_step zero nodes at place o some is = absurd (omega arith)
walk_step (suc k) nodes at place o some is =
    let same : suc k - 1 ≡ k = omega arith in
    walked_suc k nodes at place ∙ (λ i. after_node (walked (sym same i) nodes) at place (is i))

pub walk_out : (levels : ℕ) (nodes : List Node) (at place : ℕ) → 0 < levels → length nodes ≤ at → None ≡ walked levels nodes at place
walk_out levels nodes at place some past = sym (walk_step levels nodes at place None some (slice_get_past nodes at past))

-- a node that is there
module _ (levels : ℕ) (nodes : List Node) (at place : ℕ) (some : 0 < levels) (small : at < length nodes) where
  there : (x : Node) → node_at nodes at ≡ x → slice_get nodes at ≡ Some x
  there x is = slice_get-get_or nodes at (Leaf 0 0) small ∙ ap (λ (y : Node). Some y) is

  pub walk_leaf : (first count : ℕ) → node_at nodes at ≡ Leaf first count → walked levels nodes at place ≡ after_leaf at place first count
  walk_leaf first count is = walk_step levels nodes at place (Some (Leaf first count)) some (there (Leaf first count) is)

  pub walk_away : (left right : ℕ) → node_at nodes at ≡ Inner left right → (left ≡ at + 1 → ⊥) → None ≡ walked levels nodes at place
  walk_away left right is ne =
      sym (walk_step levels nodes at place (Some (Inner left right)) some (there (Inner left right) is)
      ∙ ap (λ b. if b then after_left (walked (levels - 1) nodes) right (walked (levels - 1) nodes (at + 1) place) else None) (ne_eqb left (at + 1) ne))

  pub walk_inner : (left right : ℕ) (o : Option Ends) → node_at nodes at ≡ Inner left right → left ≡ at + 1
      → walked (levels - 1) nodes (at + 1) place ≡ o → walked levels nodes at place ≡ after_left (walked (levels - 1) nodes) right o
  walk_inner left right o is next below =
      walk_step levels nodes at place (Some (Inner left right)) some (there (Inner left right) is)
      ∙ ap (λ b. if b then after_left (walked (levels - 1) nodes) right (walked (levels - 1) nodes (at + 1) place) else None) (eq-eqb left (at + 1) next)
      ∙ ap (after_left (walked (levels - 1) nodes) right) below

  pub walk_astray : (left right : ℕ) (e : Ends) → node_at nodes at ≡ Inner left right → left ≡ at + 1
      → walked (levels - 1) nodes (at + 1) place ≡ Some e → (right ≡ e.node → ⊥) → None ≡ walked levels nodes at place
  walk_astray left right e is next below ne =
      sym (walk_inner left right (Some e) is next below
      ∙ ap (λ b. if b then walked (levels - 1) nodes e.node e.place else None) (ne_eqb right e.node ne))

  pub walk_on : (left right : ℕ) (e : Ends) → node_at nodes at ≡ Inner left right → left ≡ at + 1
      → walked (levels - 1) nodes (at + 1) place ≡ Some e → right ≡ e.node → walked levels nodes at place ≡ walked (levels - 1) nodes e.node e.place
  walk_on left right e is next below same =
      walk_inner left right (Some e) is next below
      ∙ ap (λ b. if b then walked (levels - 1) nodes e.node e.place else None) (eq-eqb right e.node same)
