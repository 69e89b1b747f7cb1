-- One step along a tree: what digits give at a node, and which digits are made of one.
use Rattle.std.proofs.Common.{◌≡◌, ◌∙◌, ◌+◌, ◌<◌, ◌≤◌, refl, sym, ap, ℕ, suc, zero, Bool, true, false, if◌then◌else◌, List, [], ◌∷◌, ◌++◌, Option, Some, None, option_map, length, take, drop, append-nil, append_assoc, arith}
use Rattle.std.specs.Prelude.{Err, IfOk, Ok, Result}
use Rattle.ray_tree.specs.declared.node.Node.{Node}
use Rattle.ray_tree.specs.declared.node.Node.TheVariants as nodes
use Rattle.ray_tree.specs.Shapes.{Gone, grow, levels, node_at, shape_in}
use Rattle.ray_tree.specs.Trees.{IsShape, TreeValue, shape_at}
use Rattle.ray_tree.proofs.Under.{shape_zero}
use Rattle.ray_tree.proofs.NodeLaws.{at_inner, unfolds}
use Rattle.ray_cert.specs.Checking.{Taken, behind, both_by, cut_off, end_of, refused, taken_of, whole_of}
use Rattle.ray_cert.specs.Cuttings.{Shut, Split, Tested, cut_by, marks}

-- ---- digits behind what was taken

behind-behind : (old items : List ℕ) (o : Option Taken) → behind (old ++ items) o ≡ behind old (behind items o)
behind-behind old items None = refl
behind-behind old items (Some (more, rest)) = ap (λ (zs : List ℕ). Some (zs, rest)) (append_assoc old items more)

taken_same : (x y : Taken) → Some x ≡ Some y → x ≡ y
taken_same x y p = cc

first_same : (x y : List ℕ) (r s : List Bool) → ◌≡◌ {A = Option Taken} (Some (x, r)) (Some (y, s)) → x ≡ y
first_same x y r s p = ap (λ (t : Taken). t.0) (taken_same (x, r) (y, s) p)

second_same : (x y : List ℕ) (r s : List Bool) → ◌≡◌ {A = Option Taken} (Some (x, r)) (Some (y, s)) → r ≡ s
second_same x y r s p = ap (λ (t : Taken). t.1) (taken_same (x, r) (y, s) p)

both-some : (old now : List ℕ) (rest : List Bool) (right : List Bool → Option Taken) (o : Option Taken) → Some (now, rest) ≡ behind old o
    → behind now (right rest) ≡ behind old (both_by right o)
both-some old now rest right None told = absurd (cc)
both-some old now rest right (Some (items, left)) told =
    let items_are : now ≡ old ++ items = first_same now (old ++ items) rest left told in
    let rest_is : rest ≡ left = second_same now (old ++ items) rest left told in
    (λ i. behind (items_are i) (right (rest_is i))) ∙ behind-behind old items (right left)

abbrev nothing : Option Taken
nothing = None

both-none : (old : List ℕ) (right : List Bool → Option Taken) (o : Option Taken) → nothing ≡ behind old o → nothing ≡ behind old (both_by right o)
both-none old right None told = refl
both-none old right (Some taken) told = absurd (cc)

-- where digits end that were taken
pub end-some : (many k : ℕ) (after : Option ℕ) → after ≡ Some k → end_of many after ≤ many → k ≤ many
end-some many k after some within = let same = ap (end_of many) some in omega (arith, same, within)

-- what is told of an answer, of what it is the same as
pub other-taken : {E : Type 0} (r : Result (Option ℕ) E) (now : List ℕ) (digits : List Bool) (x y : Option Taken) → x ≡ y
    → IfOk r (λ after. option_map (λ k. (now, drop k digits)) after ≡ x) → IfOk r (λ after. option_map (λ k. (now, drop k digits)) after ≡ y)
other-taken (Ok after) now digits x y same told = told ∙ same
other-taken (Err fault) now digits x y same told = told

-- ---- at a node

module _ (met : ℕ → Bool) (tree : TreeValue) (shape : IsShape tree) (n : ℕ) (small : n < length tree.nodes) where
  at_node : (node : Node) → node_at tree.nodes n ≡ node → shape_at tree n ≡ grow (shape_at tree) n node
  at_node node is = unfolds tree shape n small ∙ ap (grow (shape_at tree) n) is

  taken-at : (node : Node) (ds : List Bool) (digits : List Bool) → node_at tree.nodes n ≡ node → ds ≡ digits
      → taken_of met tree.order (shape_at tree n) ds ≡ taken_of met tree.order (grow (shape_at tree) n node) digits
  taken-at node ds digits is same = λ i. taken_of met tree.order (at_node node is i) (same i)

  pub taken-end : (old : List ℕ) (ds : List Bool) → ds ≡ [] → nothing ≡ behind old (taken_of met tree.order (shape_at tree n) ds)
  taken-end old ds empty = sym (ap (behind old) (taken-at (node_at tree.nodes n) ds [] refl empty ∙ by (node_at tree.nodes n)))
    where
      by : (node : Node) → taken_of met tree.order (grow (shape_at tree) n node) [] ≡ nothing
      by (nodes.Leaf first count) = refl
      by (nodes.Inner l r) = refl

  pub taken-shut : (old : List ℕ) (ds digits : List Bool) (at : ℕ) (b : Bool) (after : Option ℕ) → ds ≡ false ∷ drop (at + 1) digits → b ≡ met n
      → after ≡ (if b then None else Some (at + 1))
      → option_map (λ k. (old, drop k digits)) after ≡ behind old (taken_of met tree.order (shape_at tree n) ds)
  taken-shut old ds digits at b after next is told =
      ap (option_map (λ k. (old, drop k digits))) told
      ∙ (by b
      ∙ sym (ap (behind old) (taken-at (node_at tree.nodes n) ds (false ∷ drop (at + 1) digits) refl next
      ∙ (here (node_at tree.nodes n) ∙ ap (λ (c : Bool). if c then refused else cut_off (drop (at + 1) digits)) (sym is)))))
    where
      by : (c : Bool) → option_map (λ k. (old, drop k digits)) (if c then None else Some (at + 1))
          ≡ behind old (if c then refused else cut_off (drop (at + 1) digits))
      by true = refl
      by false = ap (λ (zs : List ℕ). Some (zs, drop (at + 1) digits)) (sym (append-nil old))

      here : (node : Node) → taken_of met tree.order (grow (shape_at tree) n node) (false ∷ drop (at + 1) digits)
          ≡ (if met n then refused else cut_off (drop (at + 1) digits))
      here (nodes.Leaf first count) = refl
      here (nodes.Inner l r) = refl

  pub taken-leaf : (old now : List ℕ) (ds rest : List Bool) (first count : ℕ) → ds ≡ true ∷ rest → node_at tree.nodes n ≡ nodes.Leaf first count
      → now ≡ old ++ take count (drop first tree.order) → Some (now, rest) ≡ behind old (taken_of met tree.order (shape_at tree n) ds)
  taken-leaf old now ds rest first count next is items =
      ap (λ (zs : List ℕ). Some (zs, rest)) items ∙ sym (ap (behind old) (taken-at (nodes.Leaf first count) ds (true ∷ rest) is next))

  module _ (l r : ℕ) (is : node_at tree.nodes n ≡ nodes.Inner l r) where
    pub taken-left : (old now : List ℕ) (ds rest digits : List Bool) (after : Option ℕ) → ds ≡ true ∷ rest
        → option_map (λ k. (now, drop k digits)) after ≡ behind old (taken_of met tree.order (shape_at tree l) rest) → after ≡ None
        → nothing ≡ behind old (taken_of met tree.order (shape_at tree n) ds)
    taken-left old now ds rest digits after next told none =
        both-none old (taken_of met tree.order (shape_at tree r)) (taken_of met tree.order (shape_at tree l) rest)
        (ap (option_map (λ k. (now, drop k digits))) (sym none) ∙ told)
        ∙ sym (ap (behind old) (taken-at (nodes.Inner l r) ds (true ∷ rest) is next))

    pub taken-right : (old now : List ℕ) (ds rest digits : List Bool) (after : Option ℕ) (k : ℕ) → ds ≡ true ∷ rest
        → option_map (λ j. (now, drop j digits)) after ≡ behind old (taken_of met tree.order (shape_at tree l) rest) → after ≡ Some k
        → behind now (taken_of met tree.order (shape_at tree r) (drop k digits)) ≡ behind old (taken_of met tree.order (shape_at tree n) ds)
    taken-right old now ds rest digits after k next told some =
        both-some old now (drop k digits) (taken_of met tree.order (shape_at tree r)) (taken_of met tree.order (shape_at tree l) rest)
        (ap (option_map (λ j. (now, drop j digits))) (sym some) ∙ told)
        ∙ sym (ap (behind old) (taken-at (nodes.Inner l r) ds (true ∷ rest) is next))

    pub lower-left : suc (levels (shape_at tree l)) ≤ levels (shape_at tree n)
    lower-left = let tall = ap levels (at_inner tree shape n l r small is).shape in omega (arith, tall)

    pub lower-right : suc (levels (shape_at tree r)) ≤ levels (shape_at tree n)
    lower-right = let tall = ap levels (at_inner tree shape n l r small is).shape in omega (arith, tall)

  -- ---- digits that are made

  made-at : (node : Node) → node_at tree.nodes n ≡ node → marks (cut_by met (shape_at tree n)) ≡ marks (cut_by met (grow (shape_at tree) n node))
  made-at node is = ap (λ s. marks (cut_by met s)) (at_node node is)

  pub made-shut : (old now : List Bool) (b : Bool) → b ≡ met n → b ≡ false → now ≡ old ++ b ∷ [] → now ≡ old ++ marks (cut_by met (shape_at tree n))
  made-shut old now b is not pushed =
      pushed ∙ ap (λ zs. old ++ zs)
      (ap (λ (c : Bool). c ∷ []) not ∙ sym (made-at (node_at tree.nodes n) refl ∙ by (node_at tree.nodes n)))
    where
      by : (node : Node) → marks (cut_by met (grow (shape_at tree) n node)) ≡ false ∷ []
      by (nodes.Leaf first count) = ap (λ (c : Bool). marks (if c then Tested else Shut)) (sym is ∙ not)
      by (nodes.Inner l r) = ap (λ (c : Bool). marks (if c then Split (cut_by met (shape_at tree l)) (cut_by met (shape_at tree r)) else Shut)) (sym is ∙ not)

  pub made-leaf : (old now : List Bool) (b : Bool) (first count : ℕ) → b ≡ met n → b ≡ true → node_at tree.nodes n ≡ nodes.Leaf first count
      → now ≡ old ++ b ∷ [] → now ≡ old ++ marks (cut_by met (shape_at tree n))
  made-leaf old now b first count is so at pushed =
      pushed ∙ ap (λ zs. old ++ zs)
      (ap (λ (c : Bool). c ∷ []) so
      ∙ sym (made-at (nodes.Leaf first count) at ∙ ap (λ (c : Bool). marks (if c then Tested else Shut)) (sym is ∙ so)))

  pub made-inner : (old pushed left right : List Bool) (b : Bool) (l r : ℕ) → b ≡ met n → b ≡ true → node_at tree.nodes n ≡ nodes.Inner l r
      → pushed ≡ old ++ b ∷ [] → left ≡ pushed ++ marks (cut_by met (shape_at tree l)) → right ≡ left ++ marks (cut_by met (shape_at tree r))
      → right ≡ old ++ marks (cut_by met (shape_at tree n))
  made-inner old pushed left right b l r is so at push first second =
      let a = marks (cut_by met (shape_at tree l)) in
      let c = marks (cut_by met (shape_at tree r)) in
      let whole : marks (cut_by met (shape_at tree n)) ≡ true ∷ (a ++ c) =
      made-at (nodes.Inner l r) at
      ∙ ap (λ (d : Bool). marks (if d then Split (cut_by met (shape_at tree l)) (cut_by met (shape_at tree r)) else Shut)) (sym is ∙ so) in
      second
      ∙ (ap (λ zs. zs ++ c) (first ∙ ap (λ zs. zs ++ a) (push ∙ ap (λ (d : Bool). old ++ d ∷ []) so))
      ∙ (append_assoc (old ++ true ∷ []) a c ∙ (append_assoc old (true ∷ []) (a ++ c) ∙ ap (λ zs. old ++ zs) (sym whole))))

-- ---- whole strings

pub drop-all : {X : Type 0} (xs : List X) → drop (length xs) xs ≡ []
drop-all [] = refl
drop-all (x ∷ xs) = drop-all xs

pub record IsLeft {X : Type 0} (xs : List X) : Type 0 where
  pub first : X
  pub rest : List X
  pub is : xs ≡ first ∷ rest

pub drop-some : {X : Type 0} (k : ℕ) (xs : List X) → k < length xs → IsLeft (drop k xs)
drop-some k [] below = absurd (omega (arith, below))
drop-some zero (x ∷ xs) below = record { first = x; rest = xs; is = refl }
drop-some (suc k) (x ∷ xs) below = drop-some k xs (omega (arith, below))

abbrev no_items : Option (List ℕ)
no_items = None

whole-refused : (o : Option Taken) → nothing ≡ behind [] o → no_items ≡ whole_of o
whole-refused None told = refl
whole-refused (Some taken) told = absurd (cc)

whole-by : (now : List ℕ) (left : List Bool) (o : Option Taken) → ◌≡◌ {A = Option Taken} (Some (now, left)) (behind [] o)
    → whole_of (Some (now, left)) ≡ whole_of o
whole-by now left None told = absurd (cc)
whole-by now left (Some (items, rest)) told =
    let items_are : now ≡ items = first_same now items left rest told in
    let rest_is : left ≡ rest = second_same now items left rest told in
    λ i. whole_of (Some (items_are i, rest_is i))

-- where digits are told to end
pub whole-none : (now : List ℕ) (digits : List Bool) (after : Option ℕ) (o : Option Taken)
    → option_map (λ k. (now, drop k digits)) after ≡ behind [] o → after ≡ None → no_items ≡ whole_of o
whole-none now digits after o told none = whole-refused o (ap (option_map (λ k. (now, drop k digits))) (sym none) ∙ told)

pub whole-left : (now : List ℕ) (digits : List Bool) (after : Option ℕ) (k : ℕ) (o : Option Taken)
    → option_map (λ j. (now, drop j digits)) after ≡ behind [] o → after ≡ Some k → k < length digits → no_items ≡ whole_of o
whole-left now digits after k o told some below =
    let left = drop-some k digits below in
    ap (λ zs. whole_of (Some (now, zs))) (sym left.is)
    ∙ whole-by now (drop k digits) o (ap (option_map (λ j. (now, drop j digits))) (sym some) ∙ told)

pub whole-all : (now : List ℕ) (digits : List Bool) (after : Option ℕ) (k : ℕ) (o : Option Taken)
    → option_map (λ j. (now, drop j digits)) after ≡ behind [] o → after ≡ Some k → k ≡ length digits → Some now ≡ whole_of o
whole-all now digits after k o told some all =
    ap (λ zs. whole_of (Some (now, zs))) (sym (ap (λ n. drop n digits) all ∙ drop-all digits))
    ∙ whole-by now (drop k digits) o (ap (option_map (λ j. (now, drop j digits))) (sym some) ∙ told)

zero_of : (k : ℕ) → (0 < k → ⊥) → k ≡ 0
zero_of zero none = refl
zero_of (suc k) none = absurd (none (omega arith))

-- a tree without nodes has nothing to read, and no digits
gone-root : (tree : TreeValue) → (0 < length tree.nodes → ⊥) → shape_at tree 0 ≡ Gone
gone-root tree none = ap (λ k. shape_in k tree.nodes 0) (zero_of (length tree.nodes) none) ∙ shape_zero tree.nodes 0

pub taken-gone : (met : ℕ → Bool) (tree : TreeValue) (old : List ℕ) (digits : List Bool) → (0 < length tree.nodes → ⊥)
    → ◌≡◌ {A = Option Taken} (Some (old, digits)) (behind old (taken_of met tree.order (shape_at tree 0) digits))
taken-gone met tree old digits none =
    ap (λ (zs : List ℕ). Some (zs, digits)) (sym (append-nil old)) ∙ sym (ap (λ s. behind old (taken_of met tree.order s digits)) (gone-root tree none))

pub made-gone : (met : ℕ → Bool) (tree : TreeValue) (old : List Bool) → (0 < length tree.nodes → ⊥) → old ≡ old ++ marks (cut_by met (shape_at tree 0))
made-gone met tree old none = sym (append-nil old) ∙ ap (λ s. old ++ marks (cut_by met s)) (sym (gone-root tree none))
