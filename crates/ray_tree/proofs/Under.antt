-- What is from a node down, where that node stands below another.
use Rattle.std.proofs.Common.{◌≡◌, ◌∙◌, ◌+◌, ◌-◌, ◌<◌, ◌≤◌, ◌⊎◌, inl, inr, ℕ, zero, suc, List, refl, sym, ap, subst, arith}
use Rattle.std.proofs.lemmas.Bool.Decides.{nat_tests}
use Rattle.ray_tree.specs.declared.node.Node.{Node}
use Rattle.ray_tree.specs.declared.node.Node.TheVariants.{Leaf, Inner}
use Rattle.ray_tree.specs.Shapes.{Shape, Gone, Fork, node_at, grow, shape_in, inside, gone, visits, holds, AreFew}

-- what is from a node down, one level after the other
pub shape_suc : (k : ℕ) (nodes : List Node) (n : ℕ) → shape_in (suc k) nodes n ≡ grow (shape_in k nodes) n (node_at nodes n)
unfolding shape_in
shape_suc k nodes n = refl

pub shape_zero : (nodes : List Node) (n : ℕ) → shape_in zero nodes n ≡ Gone
unfolding shape_in
shape_zero nodes n = refl

-- the part of a shape from a node down
pub record Part (nodes : List Node) (k n : ℕ) (whole : Shape) : Type 0 where
  pub depth : ℕ
  pub within : depth ≤ k
  pub ends : gone (shape_in depth nodes n) ≡ 0
  pub visits_fewer : (m : ℕ) → visits m (shape_in depth nodes n) ≤ visits m whole
  pub holds_fewer : (at : ℕ) → holds at (shape_in depth nodes n) ≤ holds at whole
  pub few : AreFew whole → AreFew (shape_in depth nodes n)

one_of : (a b c : ℕ) → 0 < a + (b + c) → (0 < a) ⊎ ((0 < b) ⊎ (0 < c))
one_of (suc a) b c h = inl (omega arith)
one_of zero (suc b) c h = inr (inl (omega arith))
one_of zero zero (suc c) h = inr (inr (omega arith))
one_of zero zero zero h = absurd (omega arith)

pub here : (n m : ℕ) → 0 < inside n m 1 → n ≡ m
here n m h = grind (arith, nat_tests)

pub at_itself : (n : ℕ) → inside n n 1 ≡ 1
at_itself n = grind (arith, nat_tests)

no_sum : (a b : ℕ) → a + b ≡ 0 → a ≡ 0
no_sum a b h = omega arith

no_sum_right : (a b : ℕ) → a + b ≡ 0 → b ≡ 0
no_sum_right a b h = omega arith

whole_part : (nodes : List Node) (k m n : ℕ) → gone (shape_in k nodes m) ≡ 0 → n ≡ m → Part nodes k n (shape_in k nodes m)
whole_part nodes k m n ends e =
    subst (λ x. Part nodes k x (shape_in k nodes m)) (sym e)
    (record { depth = k; within = omega arith; ends = ends; visits_fewer = λ x. omega arith; holds_fewer = λ x. omega arith; few = λ f. f })

-- a part of what is from a child down is one of the whole
of_left : (nodes : List Node) (k n node : ℕ) (left right : Shape) → Part nodes k n left → Part nodes (suc k) n (Fork node left right)
of_left nodes k n node left right p = record {
  depth = p.depth;
  within = let w = p.within in omega arith;
  ends = p.ends;
  visits_fewer = λ m. let w = p.visits_fewer m in omega arith;
  holds_fewer = λ at. let w = p.holds_fewer at in omega arith;
  few = λ f. p.few f.0;
}

of_right : (nodes : List Node) (k n node : ℕ) (left right : Shape) → Part nodes k n right → Part nodes (suc k) n (Fork node left right)
of_right nodes k n node left right p = record {
  depth = p.depth;
  within = let w = p.within in omega arith;
  ends = p.ends;
  visits_fewer = λ m. let w = p.visits_fewer m in omega arith;
  holds_fewer = λ at. let w = p.holds_fewer at in omega arith;
  few = λ f. p.few f.1;
}

grown : (nodes : List Node) (k m n : ℕ) (node : Node)
    → ((c : ℕ) → gone (shape_in k nodes c) ≡ 0 → 0 < visits n (shape_in k nodes c) → Part nodes k n (shape_in k nodes c))
    → (n ≡ m → Part nodes (suc k) n (grow (shape_in k nodes) m node))
    → gone (grow (shape_in k nodes) m node) ≡ 0 → 0 < visits n (grow (shape_in k nodes) m node)
    → Part nodes (suc k) n (grow (shape_in k nodes) m node)
grown nodes k m n (Leaf first count) deeper itself ends seen = itself (here n m seen)
grown nodes k m n (Inner left right) deeper itself ends seen =
    elim (one_of (inside n m 1) (visits n (shape_in k nodes left)) (visits n (shape_in k nodes right)) seen) [
      | inl a ↦ itself (here n m a)
      | inr b ↦ elim b [
        | inl l ↦ of_left nodes k n m (shape_in k nodes left) (shape_in k nodes right)
            (deeper left (no_sum (gone (shape_in k nodes left)) (gone (shape_in k nodes right)) ends) l)
        | inr r ↦ of_right nodes k n m (shape_in k nodes left) (shape_in k nodes right)
            (deeper right (no_sum_right (gone (shape_in k nodes left)) (gone (shape_in k nodes right)) ends) r)
      ]
    ]

-- each node that is visited has its part
pub found : (nodes : List Node) (k m n : ℕ) → gone (shape_in k nodes m) ≡ 0 → 0 < visits n (shape_in k nodes m) → Part nodes k n (shape_in k nodes m)
found nodes zero m n ends seen = absurd (let e = sym (ap gone (shape_zero nodes m)) ∙ ends in omega (arith, e))
found nodes (suc k) m n ends seen =
    subst (Part nodes (suc k) n) (sym (shape_suc k nodes m))
    (grown nodes k m n (node_at nodes m) (λ c. found nodes k c n)
    (λ e. subst (Part nodes (suc k) n) (shape_suc k nodes m) (whole_part nodes (suc k) m n ends e))
    (subst (λ s. gone s ≡ 0) (shape_suc k nodes m) ends)
    (subst (λ s. 0 < visits n s) (shape_suc k nodes m) seen))

-- one level more changes nothing where no way down was too long
same_grown : (nodes : List Node) (k n : ℕ) (node : Node)
    → ((c : ℕ) → gone (shape_in k nodes c) ≡ 0 → shape_in (suc k) nodes c ≡ shape_in k nodes c)
    → gone (grow (shape_in k nodes) n node) ≡ 0 → grow (shape_in (suc k) nodes) n node ≡ grow (shape_in k nodes) n node
same_grown nodes k n (Leaf first count) deeper ends = refl
same_grown nodes k n (Inner left right) deeper ends =
    λ i. Fork n
    (deeper left (no_sum (gone (shape_in k nodes left)) (gone (shape_in k nodes right)) ends) i)
    (deeper right (no_sum_right (gone (shape_in k nodes left)) (gone (shape_in k nodes right)) ends) i)

pub one_more : (nodes : List Node) (k n : ℕ) → gone (shape_in k nodes n) ≡ 0 → shape_in (suc k) nodes n ≡ shape_in k nodes n
one_more nodes zero n ends = absurd (let e = sym (ap gone (shape_zero nodes n)) ∙ ends in omega (arith, e))
one_more nodes (suc k) n ends =
    shape_suc (suc k) nodes n
    ∙ same_grown nodes k n (node_at nodes n) (λ c. one_more nodes k c) (subst (λ s. gone s ≡ 0) (shape_suc k nodes n) ends)
    ∙ sym (shape_suc k nodes n)

more_by : (nodes : List Node) (d k n : ℕ) → gone (shape_in k nodes n) ≡ 0 → shape_in (d + k) nodes n ≡ shape_in k nodes n
more_by nodes zero k n ends = ap (λ x. shape_in x nodes n) (omega arith)
more_by nodes (suc d) k n ends =
    let inner = more_by nodes d k n ends in
    let same : suc d + k ≡ suc (d + k) = omega arith in
    ap (λ x. shape_in x nodes n) same ∙ one_more nodes (d + k) n (ap gone inner ∙ ends) ∙ inner

pub stable : (nodes : List Node) (depth k n : ℕ) → depth ≤ k → gone (shape_in depth nodes n) ≡ 0 → shape_in k nodes n ≡ shape_in depth nodes n
stable nodes depth k n le ends =
    let same : k ≡ (k - depth) + depth = omega arith in
    ap (λ x. shape_in x nodes n) same ∙ more_by nodes (k - depth) depth n ends

-- a node is visited from itself down
visits_grown : (below : ℕ → Shape) (n : ℕ) (node : Node) → 0 < visits n (grow below n node)
visits_grown below n (Leaf first count) = omega (arith, at_itself n)
visits_grown below n (Inner left right) = omega (arith, at_itself n)

pub visits_itself : (nodes : List Node) (k n : ℕ) → gone (shape_in k nodes n) ≡ 0 → 0 < visits n (shape_in k nodes n)
visits_itself nodes zero n ends = absurd (let e = sym (ap gone (shape_zero nodes n)) ∙ ends in omega (arith, e))
visits_itself nodes (suc k) n ends = subst (λ s. 0 < visits n s) (sym (shape_suc k nodes n)) (visits_grown (shape_in k nodes) n (node_at nodes n))
