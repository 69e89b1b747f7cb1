-- One box more, from the last node to the first.
use Rattle.std.proofs.Common.{◌≡◌, ◌≢◌, ◌∙◌, ◌+◌, ◌<◌, ◌≤◌, inl, inr, ◌++◌, ℕ, zero, suc, Option, List, [], ◌∷◌, length, get_or, set, refl, sym, ap, ap₂, subst, arith, get_or-set_other, get_or-set_same}
use Rattle.ray_geom.specs.Boxes.{BoxValue}
use Rattle.ray_geom.specs.LeastBoxes.{union_of}
use Rattle.ray_tree.specs.declared.node.Node.{Node}
use Rattle.ray_tree.specs.declared.node.Node.TheVariants.{Leaf, Inner}
use Rattle.ray_tree.specs.Shapes.{node_at}
use Rattle.ray_tree.specs.Local.{IsLocal, IsLocalAt}
use Rattle.ray_tree.specs.Plans.{Plan, Few, Both, size, places_of, spell, AreRising}
use Rattle.ray_tree.proofs.Counting.{either}
use Rattle.ray_tree.proofs.Spelled.{length-spell}

-- each box from a node on is so
pub record AreLocalFrom (items : List (Option BoxValue)) (order : List ℕ) (boxes : List BoxValue) (nodes : List Node) (from : ℕ) : Type 0 where
  pub each : (n : ℕ) → from ≤ n → n < length nodes → IsLocalAt items order boxes nodes n

kept : (items : List (Option BoxValue)) (order : List ℕ) (old new : List BoxValue) (b : BoxValue) (node : Node)
    → ((l r : ℕ) (d : BoxValue) → node ≡ Inner l r → (get_or new l d ≡ get_or old l d) × (get_or new r d ≡ get_or old r d))
    → IsLocal items order old b node → IsLocal items order new b node
kept items order old new b (Leaf first count) same local = local
kept items order old new b (Inner l r) same local = λ d. local d ∙ sym (ap₂ union_of (same l r d refl).0 (same l r d refl).1)

module _ (items : List (Option BoxValue)) (order : List ℕ) (boxes : List BoxValue) (nodes : List Node) (i : ℕ) (made : BoxValue)
    (small : i < length nodes) (boxed : length boxes ≡ length nodes) (rising : AreRising nodes) where
  apart : (n l : ℕ) (d : BoxValue) → i ≤ n → n < l → get_or (set boxes i made) l d ≡ get_or boxes l d
  apart n l d from lt = let ne : l ≢ i = omega arith in rw get_or-set_other

  after : (n : ℕ) → i ≤ n → n < length nodes → (b : BoxValue) → IsLocal items order boxes b (node_at nodes n) → IsLocal items order (set boxes i made) b (node_at nodes n)
  after n from lt b local =
      kept items order boxes (set boxes i made) b (node_at nodes n)
      (λ l r d is. let up = rising.each n l r lt is in (apart n l d from up.0, apart n r d from up.1)) local

  one_more : AreLocalFrom items order boxes nodes (i + 1) → IsLocal items order boxes made (node_at nodes i) → (n : ℕ) → i ≤ n → n < length nodes
      → IsLocalAt items order (set boxes i made) nodes n
  one_more from local n le lt d = elim (either i n) [
    | inl a ↦ (let ne : n ≢ i = omega arith in
        subst (λ b. IsLocal items order (set boxes i made) b (node_at nodes n)) (sym (the_other ne))
        (after n le lt (get_or boxes n d) (from.each n (omega arith) lt d)))
    | inr c ↦ (let same : i ≡ n = omega arith in
        subst (λ m. IsLocal items order (set boxes i made) (get_or (set boxes i made) m d) (node_at nodes m)) same
        (subst (λ b. IsLocal items order (set boxes i made) b (node_at nodes i)) (sym the_same) (after i (omega arith) small made local)))
  ]
    where
      the_other : n ≢ i → get_or (set boxes i made) n d ≡ get_or boxes n d
      the_other ne = rw get_or-set_other

      the_same : get_or (set boxes i made) i d ≡ made
      the_same = let lt' : i < length boxes = omega arith in rw get_or-set_same

  pub filled : AreLocalFrom items order boxes nodes (i + 1) → IsLocal items order boxes made (node_at nodes i) → AreLocalFrom items order (set boxes i made) nodes i
  filled from local = record { each = one_more from local }

-- nodes that a plan spells rise
abbrev Up : ℕ → Node → Type 0
Up n (Leaf first count) = Unit {0}
Up n (Inner l r) = (n < l) × (n < r)

abbrev AreUp : ℕ → List Node → Type 0
AreUp n [] = Unit {0}
AreUp n (x ∷ xs) = Up n x × AreUp (n + 1) xs

up-append : (n m : ℕ) (xs ys : List Node) → m ≡ n + length xs → AreUp n xs → AreUp m ys → AreUp n (xs ++ ys)
up-append n m [] ys e a b = let same : m ≡ n = omega (arith, e) in subst (λ k. AreUp k ys) same b
up-append n m (x ∷ xs) ys e a b = (a.0, up-append (n + 1) m xs ys (omega (arith, e)) a.1 b)

up-spell : (at first : ℕ) (p : Plan) → AreUp at (spell at first p)
up-spell at first (Few count) = (tt, tt)
up-spell at first (Both l r) = (
  (omega arith, omega arith),
  up-append (at + 1) ((at + 1) + size l) (spell (at + 1) first l) (spell ((at + 1) + size l) (first + places_of l) r)
      (omega (arith, length-spell (at + 1) first l)) (up-spell (at + 1) first l) (up-spell ((at + 1) + size l) (first + places_of l) r),
)

up-look : (n : ℕ) (xs : List Node) (i : ℕ) → AreUp n xs → i < length xs → Up (n + i) (node_at xs i)
up-look n [] i up small = absurd (omega arith)
up-look n (x ∷ xs) zero up small = let same : n ≡ n + zero = omega arith in subst (λ k. Up k x) same up.0
up-look n (x ∷ xs) (suc i) up small = let same : (n + 1) + i ≡ n + suc i = omega arith in subst (λ k. Up k (node_at xs i)) same (up-look (n + 1) xs i up.1 (omega arith))

pub spell-rises : (nodes : List Node) (p : Plan) → nodes ≡ spell 0 0 p → AreRising nodes
spell-rises nodes p is = record {
  each = λ n l r small at.
      let up = up-look 0 nodes n (subst (AreUp 0) (sym is) (up-spell 0 0 p)) small in
      let same : 0 + n ≡ n = omega arith in
      subst (λ k. Up k (Inner l r)) same (subst (Up (0 + n)) at up);
}

pub none-rises : (nodes : List Node) → nodes ≡ [] → AreRising nodes
none-rises nodes is = record { each = λ n l r small at. absurd (omega (arith, ap length is)) }
