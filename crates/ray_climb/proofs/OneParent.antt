-- Each node of a tree but the root is the child of one node.
use Rattle.std.proofs.Common.{◌≡◌, ◌≢◌, ◌∙◌, ℕ, zero, suc, ◌+◌, ◌*◌, ◌<◌, ◌≤◌, inl, inr, Bool, true, false, ◌||◌, eqb, cond, List, length, refl, sym, ap, subst, arith, true≢false}
use Rattle.std.proofs.lemmas.Bool.Decides.{nat_tests}
use mathlib.Core.Logic.{dite}
use native.Mathlib.Decide.{ℕ_discrete}
use Rattle.ray_tree.specs.declared.node.Node.{Node}
use Rattle.ray_tree.specs.declared.node.Node.TheVariants.{Leaf, Inner}
use Rattle.ray_tree.specs.Shapes.{Shape, node_at, grow, shape_in, inside, gone, visits}
use Rattle.ray_tree.specs.Trees.{TreeValue, shape_at, IsShape}
use Rattle.ray_tree.proofs.Under.{shape_suc, shape_zero, at_itself, visits_itself}
use Rattle.ray_tree.proofs.Counting.{total, total-sum, total-same, total-inside, apart, either}
use Rattle.ray_tree.proofs.NodeLaws.{at_inner}
use Rattle.ray_climb.specs.Refits.{is_inner, kid, is_kid, parent_below, parent_of, is_right}

-- how often a number is that of a child of a node
abbrev kids_of : ℕ → Node → ℕ
kids_of c (Leaf first count) = 0
kids_of c (Inner l r) = inside c l 1 + inside c r 1

-- a sum with one term
one_term : (n k x : ℕ) (f : ℕ → ℕ) → inside x k 1 * f x ≡ inside x k 1 * f k
one_term n k x f = dite (ℕ_discrete x k) (λ e. ap (λ y. inside x k 1 * f y) e)
    (λ ne. let z = other x k ne in omega (arith, ap (λ y. y * f x) z, ap (λ y. y * f k) z))
  where
    other : (a b : ℕ) → a ≢ b → inside a b 1 ≡ 0
    other a b ne = grind (arith, nat_tests)

scaled : (n : ℕ) (g : ℕ → ℕ) (c : ℕ) → total n (λ x. g x * c) ≡ total n g * c
scaled zero g c = omega arith
scaled (suc n) g c = omega (arith, scaled n g c)

total_one : (n k : ℕ) (f : ℕ → ℕ) → k < n → total n (λ x. inside x k 1 * f x) ≡ f k
total_one n k f small =
    let e = total-inside n k 1 (omega arith) in
    total-same n (λ x. inside x k 1 * f x) (λ x. inside x k 1 * f k) (λ x _. one_term n k x f)
    ∙ scaled n (λ x. inside x k 1) (f k)
    ∙ omega (arith, ap (λ y. y * f k) e)

-- a node stands in a shape once for its root, and once for each node there whose child it is
module _ (nodes : List Node) (c : ℕ) where
  abbrev IsCounted : ℕ → Shape → Type 0
  IsCounted n s = visits c s ≡ inside c n 1 + total (length nodes) (λ p. visits p s * kids_of c (node_at nodes p))

  counted_case : (k n : ℕ) (node : Node) → node_at nodes n ≡ node → n < length nodes
      → ((m : ℕ) → gone (shape_in k nodes m) ≡ 0 → ((x : ℕ) → 0 < visits x (shape_in k nodes m) → x < length nodes) → IsCounted m (shape_in k nodes m))
      → gone (grow (shape_in k nodes) n node) ≡ 0 → ((x : ℕ) → 0 < visits x (grow (shape_in k nodes) n node) → x < length nodes)
      → IsCounted n (grow (shape_in k nodes) n node)
  counted_case k n (Leaf first count) is small deeper ends within =
      let one = total_one (length nodes) n (λ p. kids_of c (node_at nodes p)) small in
      let none : kids_of c (node_at nodes n) ≡ 0 = ap (kids_of c) is in
      omega (arith, one, none)
  counted_case k n (Inner l r) is small deeper ends within =
      let many = length nodes in
      let L = shape_in k nodes l in
      let R = shape_in k nodes r in
      let K : ℕ → ℕ = λ p. kids_of c (node_at nodes p) in
      let left = deeper l (omega (arith, ends)) (λ x h. within x (omega (arith, h))) in
      let right = deeper r (omega (arith, ends)) (λ x h. within x (omega (arith, h))) in
      let one = total_one many n K small in
      let here : K n ≡ inside c l 1 + inside c r 1 = ap (kids_of c) is in
      let split =
      total-same many (λ p. (inside p n 1 + (visits p L + visits p R)) * K p) (λ p. inside p n 1 * K p + (visits p L * K p + visits p R * K p)) (λ p lt. omega arith)
      ∙ total-sum many (λ p. inside p n 1 * K p) (λ p. visits p L * K p + visits p R * K p)
      ∙ ap (λ y. total many (λ p. inside p n 1 * K p) + y) (total-sum many (λ p. visits p L * K p) (λ p. visits p R * K p)) in
      omega (arith, left, right, one, here, split)

  pub counted : (k n : ℕ) → n < length nodes → gone (shape_in k nodes n) ≡ 0 → ((x : ℕ) → 0 < visits x (shape_in k nodes n) → x < length nodes) → IsCounted n (shape_in k nodes n)
  counted zero n small ends within = absurd (let e = sym (ap gone (shape_zero nodes n)) ∙ ends in omega (arith, e))
  counted (suc k) n small ends within =
      subst (IsCounted n) (sym (shape_suc k nodes n))
      (counted_case k n (node_at nodes n) refl small
      (λ m e w. counted k m (w m (itself_seen k m e)) e w)
      (subst (λ s. gone s ≡ 0) (shape_suc k nodes n) ends)
      (λ x h. within x (subst (λ s. 0 < visits x s) (sym (shape_suc k nodes n)) h)))
    where
      itself_seen : (k m : ℕ) → gone (shape_in k nodes m) ≡ 0 → 0 < visits m (shape_in k nodes m)
      itself_seen k m e = visits_itself nodes k m e

inside_all : (n many : ℕ) → n < many → inside n 0 many ≡ 1
inside_all n many h = grind (arith, nat_tests)

all_inside : (n many : ℕ) → 0 < inside n 0 many → n < many
all_inside n many h = grind (arith, nat_tests)

-- parts of a sum
total_part : (n p : ℕ) (f : ℕ → ℕ) → p < n → f p ≤ total n f
total_part zero p f small = absurd (omega arith)
total_part (suc n) p f small = elim (apart p n small) [
  | inl a ↦ (let r = total_part n p f a in omega arith)
  | inr b ↦ (let e = ap f b in omega arith)
]

total_two : (n p q : ℕ) (f : ℕ → ℕ) → p < n → q < n → p ≢ q → f p + f q ≤ total n f
total_two zero p q f small less ne = absurd (omega arith)
total_two (suc n) p q f small less ne = elim (apart p n small) [
  | inl a ↦ elim (apart q n less) [
    | inl b ↦ (let r = total_two n p q f a b ne in omega arith)
    | inr b ↦ (let e = ap f b in let r = total_part n p f a in omega arith)
  ]
  | inr a ↦ elim (apart q n less) [
    | inl b ↦ (let e = ap f a in let r = total_part n q f b in omega arith)
    | inr b ↦ absurd (ne (a ∙ sym b))
  ]
]

total_some : (n : ℕ) (f : ℕ → ℕ) → 0 < total n f → (p : ℕ) × (p < n) × (0 < f p)
total_some zero f h = absurd (omega arith)
total_some (suc n) f h = elim (either 0 (f n)) [
  | inl a ↦ (n, omega arith, a)
  | inr b ↦ (let r = total_some n f (omega arith) in (r.0, (let s = r.1 in omega arith), r.2))
]

-- whether a node has a child
kid_counted : (c : ℕ) (node : Node) → 0 < kids_of c node → is_kid c node ≡ true
kid_counted c (Leaf first count) h = absurd (omega arith)
kid_counted c (Inner l r) h = grind (arith, nat_tests)

kid_counts : (c : ℕ) (node : Node) → is_kid c node ≡ true → 0 < kids_of c node
kid_counts c (Leaf first count) h = absurd (true≢false (sym h))
kid_counts c (Inner l r) h = grind (arith, nat_tests)

a_kid : (node : Node) (s : Bool) → is_inner node ≡ true → 0 < kids_of (kid node s) node
a_kid (Leaf first count) s h = absurd (true≢false (sym h))
a_kid (Inner l r) true h = let e = at_itself r in omega arith
a_kid (Inner l r) false h = let e = at_itself l in omega arith

kid_inner : (c : ℕ) (node : Node) → is_kid c node ≡ true → is_inner node ≡ true
kid_inner c (Leaf first count) h = absurd (true≢false (sym h))
kid_inner c (Inner l r) h = refl

kid_side : (c : ℕ) (node : Node) → is_kid c node ≡ true → kid node (eqb (kid node true) c) ≡ c
kid_side c (Leaf first count) h = absurd (true≢false (sym h))
kid_side c (Inner l r) h = dite (ℕ_discrete r c) (λ e. ap (kid (Inner l r)) (same r c e) ∙ e)
    (λ ne. ap (kid (Inner l r)) (differs r c ne) ∙ left l r c ne h)
  where
    same : (a b : ℕ) → a ≡ b → eqb a b ≡ true
    same a b e = grind (arith, nat_tests)

    differs : (a b : ℕ) → a ≢ b → eqb a b ≡ false
    differs a b ne = grind (arith, nat_tests)

    left : (l r c : ℕ) → r ≢ c → (eqb l c || eqb r c) ≡ true → l ≡ c
    left l r c ne h = grind (arith, nat_tests)

side_kid : (node : Node) (s : Bool) → is_inner node ≡ true → kids_of (kid node s) node ≤ 1 → eqb (kid node true) (kid node s) ≡ s
side_kid (Leaf first count) s h most = absurd (true≢false (sym h))
side_kid (Inner l r) true h most = same r
  where
    same : (a : ℕ) → eqb a a ≡ true
    same a = grind (arith, nat_tests)
side_kid (Inner l r) false h most = dite (ℕ_discrete r l)
    (λ e. absurd (let a = at_itself l in let b : inside l r 1 ≡ 1 = ap (λ x. inside l x 1) e ∙ a in omega arith))
    (λ ne. differs r l ne)
  where
    differs : (a b : ℕ) → a ≢ b → eqb a b ≡ false
    differs a b ne = grind (arith, nat_tests)

module _ (tree : TreeValue) (shape : IsShape tree) where
  -- the root is no child, and each other node is the child of one node
  kids_total : (c : ℕ) → c < length tree.nodes → inside c 0 1 + total (length tree.nodes) (λ p. kids_of c (node_at tree.nodes p)) ≡ 1
  kids_total c small =
      let many = length tree.nodes in
      let whole = shape_at tree 0 in
      let K : ℕ → ℕ = λ p. kids_of c (node_at tree.nodes p) in
      let e = counted tree.nodes c many 0 (omega arith) (shape.ends (omega arith)) (λ x h. all_inside x many (omega (arith, h, shape.nodes_once x))) in
      let seen : visits c whole ≡ 1 = shape.nodes_once c ∙ inside_all c many small in
      let each = total-same many (λ p. visits p whole * K p) K (λ p lt. ap (λ y. y * K p) (shape.nodes_once p ∙ inside_all p many lt) ∙ omega arith) in
      omega (arith, e, seen, each)

  one_parent : (c p q : ℕ) → c < length tree.nodes → p < length tree.nodes → q < length tree.nodes
      → 0 < kids_of c (node_at tree.nodes p) → 0 < kids_of c (node_at tree.nodes q) → p ≡ q
  one_parent c p q small lp lq hp hq = dite (ℕ_discrete p q) (λ e. e)
      (λ ne. absurd (let t = total_two (length tree.nodes) p q (λ x. kids_of c (node_at tree.nodes x)) lp lq ne in let k = kids_total c small in omega arith))

  few_kids : (c p : ℕ) → c < length tree.nodes → p < length tree.nodes → kids_of c (node_at tree.nodes p) ≤ 1
  few_kids c p small lp = let t = total_part (length tree.nodes) p (λ x. kids_of c (node_at tree.nodes x)) lp in let k = kids_total c small in omega arith

  no_root : (p : ℕ) → p < length tree.nodes → 0 < kids_of 0 (node_at tree.nodes p) → ⊥
  no_root p lp h =
      let t = total_part (length tree.nodes) p (λ x. kids_of 0 (node_at tree.nodes x)) lp in
      let k = kids_total 0 (omega arith) in
      let z = at_itself 0 in
      absurd (omega arith)

  found_below : (many c p : ℕ) → many ≤ length tree.nodes → c < length tree.nodes → p < many → 0 < kids_of c (node_at tree.nodes p) → parent_below many tree.nodes c ≡ p
  unfolding parent_below
  found_below zero c p le small lp h = absurd (omega arith)
  found_below (suc many) c p le small lp h = by_test (is_kid c (node_at tree.nodes many)) refl (λ a. found_below many c p (omega arith) small a h)
    where
      by_test : (b : Bool) → is_kid c (node_at tree.nodes many) ≡ b → (p < many → parent_below many tree.nodes c ≡ p) → cond b many (parent_below many tree.nodes c) ≡ p
      by_test true is deeper = one_parent c many p small (omega arith) (omega arith) (kid_counts c (node_at tree.nodes many) is) h
      by_test false is deeper = elim (apart p many lp) [
        | inl a ↦ deeper a
        | inr b ↦ absurd (true≢false (sym (kid_counted c (node_at tree.nodes many) (subst (λ x. 0 < kids_of c (node_at tree.nodes x)) b h)) ∙ is))
      ]

  pub parent_is : (c p : ℕ) → c < length tree.nodes → p < length tree.nodes → is_kid c (node_at tree.nodes p) ≡ true → parent_of tree.nodes c ≡ p
  parent_is c p small lp h = found_below (length tree.nodes) c p (omega arith) small lp (kid_counts c (node_at tree.nodes p) h)

  -- what is so of a node but the root and its parent
  pub record IsBelow (c : ℕ) : Type 0 where
    pub small : parent_of tree.nodes c < length tree.nodes
    pub inner : is_inner (node_at tree.nodes (parent_of tree.nodes c)) ≡ true
    pub child : kid (node_at tree.nodes (parent_of tree.nodes c)) (is_right tree.nodes c) ≡ c
    pub is : is_kid c (node_at tree.nodes (parent_of tree.nodes c)) ≡ true

  pub below : (c : ℕ) → c < length tree.nodes → c ≢ 0 → IsBelow c
  below c small ne =
      let k = kids_total c small in
      let z = not_root c ne in
      let p = total_some (length tree.nodes) (λ x. kids_of c (node_at tree.nodes x)) (omega arith) in
      let e : parent_of tree.nodes c ≡ p.0 = found_below (length tree.nodes) c p.0 (omega arith) small p.1 p.2 in
      let h : is_kid c (node_at tree.nodes (parent_of tree.nodes c)) ≡ true = subst (λ x. is_kid c (node_at tree.nodes x) ≡ true) (sym e) (kid_counted c (node_at tree.nodes p.0) p.2) in
      record {
        small = subst (λ x. x < length tree.nodes) (sym e) p.1;
        inner = kid_inner c (node_at tree.nodes (parent_of tree.nodes c)) h;
        child = kid_side c (node_at tree.nodes (parent_of tree.nodes c)) h;
        is = h;
      }
    where
      not_root : (a : ℕ) → a ≢ 0 → inside a 0 1 ≡ 0
      not_root a ne = grind (arith, nat_tests)

  -- and of an inner node and its children
  pub record IsAbove (p : ℕ) (s : Bool) : Type 0 where
    pub small : kid (node_at tree.nodes p) s < length tree.nodes
    pub below : kid (node_at tree.nodes p) s ≢ 0
    pub parent : parent_of tree.nodes (kid (node_at tree.nodes p) s) ≡ p
    pub side : is_right tree.nodes (kid (node_at tree.nodes p) s) ≡ s

  kid_small : (p : ℕ) (s : Bool) (node : Node) → node_at tree.nodes p ≡ node → p < length tree.nodes → is_inner node ≡ true → kid node s < length tree.nodes
  kid_small p s (Leaf first count) is lp h = absurd (true≢false (sym h))
  kid_small p true (Inner l r) is lp h = (at_inner tree shape p l r lp is).right
  kid_small p false (Inner l r) is lp h = (at_inner tree shape p l r lp is).left

  pub above : (p : ℕ) (s : Bool) → p < length tree.nodes → is_inner (node_at tree.nodes p) ≡ true → IsAbove p s
  above p s lp inner =
      let node = node_at tree.nodes p in
      let c = kid node s in
      let small = kid_small p s node refl lp inner in
      let counts = a_kid node s inner in
      let e : parent_of tree.nodes c ≡ p = found_below (length tree.nodes) c p (omega arith) small lp counts in
      record {
        small = small;
        below = λ z. no_root p lp (subst (λ x. 0 < kids_of x node) z counts);
        parent = e;
        side = subst (λ x. eqb (kid (node_at tree.nodes x) true) c ≡ s) (sym e) (side_kid node s inner (few_kids c p small lp));
      }
