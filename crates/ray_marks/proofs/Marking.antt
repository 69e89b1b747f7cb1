-- What marking a range of cells leaves.
use Rattle.std.proofs.Common.{◌≡◌, ◌<◌, ◌≤◌, ℕ, zero, suc, ◌+◌, ◌-◌, max, min, Bool, true, false, nat_lt, if◌then◌else◌, List, [], ◌∷◌, ◌++◌, slice_set, refl, sym, ◌∙◌, ap, subst, inl, inr, arith}
use Rattle.std.proofs.lemmas.Bool.{cases_Bool, ltb-true, lt-ltb, cond-true, cond-false}
use Rattle.std.proofs.lemmas.Bool.Decides.{nat_tests}
use Rattle.ray_marks.specs.declared.node.Node.{Node}
use Rattle.ray_marks.specs.Rising.{is_in}
use Rattle.ray_marks.specs.Tree.{cells_of, size_of, root, first_half, second_half, mark_at, AreParts, IsTree, IsMarked}
use Rattle.ray_marks.proofs.Choices.{is_in-later, is_in-true, max-choice, choice-le}
use Rattle.ray_marks.proofs.Trees.{AreHalves, IsParted, joined, mark_at-joined, mark_at-le, cells-some}

-- no cell of the tree is in the range
pub marked-none :
    (h : ℕ) (ns : List Node) (start end value : ℕ) → min end (cells_of h) ≤ start → IsMarked h ns start end value ns
marked-none h ns start end value e = record {
  marks = λ c l.
      let none : is_in start end c ≡ false = grind (arith, nat_tests) in
      sym (cond-false (is_in start end c) value (mark_at h ns c) none);
  part =
      let none : nat_lt start (min end (cells_of h)) ≡ false = grind (arith, nat_tests) in
      sym (cond-false (nat_lt start (min end (cells_of h))) value (root ns).part none);
}

-- the root of a tree all of whose cells have a new mark
abbrev pub all_at : ℕ → Node
all_at value = record { whole = value; part = value }

-- where the root has a mark that is at least all, each cell has it
pub mark_at-all :
    (h : ℕ) (n : Node) (ns : List Node) (c value : ℕ) → AreParts h (n ∷ ns) → n.part ≤ value → c < cells_of h
    → mark_at h (all_at value ∷ ns) c ≡ value
mark_at-all zero n ns c value p v l = refl
mark_at-all (suc h) n ns c value p v l =
    let e = p.0 in
    let below :
    (if nat_lt c (cells_of h) then mark_at h (first_half h (n ∷ ns)) c
    else mark_at h (second_half h (n ∷ ns)) (c - cells_of h))
    ≤ value =
    choice-le (nat_lt c (cells_of h)) _ _ _
    (λ t. let u = mark_at-le h (first_half h (n ∷ ns)) c p.1 (ltb-true c (cells_of h) t) in omega arith)
    (λ f.
    let g : cells_of h ≤ c = grind (arith, nat_tests) in
    let u = mark_at-le h (second_half h (n ∷ ns)) (c - cells_of h) p.2 (omega arith) in omega arith)
    in
    omega arith

pub parts-all : (h : ℕ) (n : Node) (ns : List Node) (value : ℕ) → AreParts h (n ∷ ns) → n.part ≤ value → AreParts h (all_at value ∷ ns)
parts-all zero n ns value p v = refl
parts-all (suc h) n ns value p v = let e = p.0 in (omega arith, p.1, p.2)

-- all cells of the tree are in the range
pub marked-all :
    (h : ℕ) (ns new : List Node) (end value : ℕ) → IsTree h ns → (root ns).part ≤ value → cells_of h ≤ end
    → new ≡ slice_set ns 0 (all_at value) → IsTree h new × IsMarked h ns 0 end value new
marked-all zero [] new end value t v e is = absurd (let s : 0 ≡ 1 = t.sized in omega arith)
marked-all (suc h) [] new end value t v e is =
    absurd (let s : 0 ≡ suc (size_of h + size_of h) = t.sized in omega arith)
marked-all h (n ∷ ns) new end value t v e is =
    subst (λ l. IsTree h l × IsMarked h (n ∷ ns) 0 end value l) (sym is) (
      record { sized = t.sized; parts = parts-all h n ns value t.parts v },
      record {
        marks = λ c l.
            mark_at-all h n ns c value t.parts v l
            ∙ sym (cond-true (is_in 0 end c) value (mark_at h (n ∷ ns) c) (is_in-true 0 end c (omega arith) (omega arith)));
        part =
            let some : 0 < min end (cells_of h) = omega (arith, cells-some h) in
            sym (cond-true (nat_lt 0 (min end (cells_of h))) value n.part (lt-ltb 0 (min end (cells_of h)) some));
      },
    )

-- both halves are marked
pub record AreMarked (h : ℕ) (a b : List Node) (start end value : ℕ) (c d : List Node) : Type 0 where
  pub first : IsMarked h a start end value c
  pub second : IsMarked h b (start - cells_of h) (end - cells_of h) value d

-- the part of a half that is marked, or not
pub part-within :
    (old value new : ℕ) (b : Bool) → new ≡ (if b then value else old) → old ≤ value → new ≤ value
part-within old value new true e v = omega arith
part-within old value new false e v = omega arith

pub part-taken : (old value new : ℕ) (b : Bool) → b ≡ true → new ≡ (if b then value else old) → new ≡ value
part-taken old value new b t e = e ∙ cond-true b value old t

pub halves-marked :
    (h : ℕ) (n : Node) (a b c d : List Node) (start end value : ℕ) → AreHalves h n a b → IsTree h c → IsTree h d
    → AreMarked h a b start end value c d → n.part ≤ value → start < end → start < cells_of h + cells_of h
    → AreHalves h (record n { part = value }) c d
halves-marked h n a b c d start end value p tc td m v se sc = record {
  first = tc;
  second = td;
  part =
      let e = p.part in
      let first : (root c).part ≤ value =
      part-within (root a).part value (root c).part (nat_lt start (min end (cells_of h))) m.first.part (omega arith)
      in
      let second : (root d).part ≤ value =
      part-within (root b).part value (root d).part
      (nat_lt (start - cells_of h) (min (end - cells_of h) (cells_of h))) m.second.part (omega arith)
      in
      elim (cases_Bool (nat_lt start (cells_of h))) [
        | inl t ↦
            let below = ltb-true start (cells_of h) t in
            let is : (root c).part ≡ value =
            part-taken (root a).part value (root c).part (nat_lt start (min end (cells_of h)))
            (lt-ltb start (min end (cells_of h)) (omega arith)) m.first.part
            in
            omega arith
        | inr f ↦
            let above : cells_of h ≤ start = grind (arith, nat_tests) in
            let is : (root d).part ≡ value =
            part-taken (root b).part value (root d).part
            (nat_lt (start - cells_of h) (min (end - cells_of h) (cells_of h)))
            (lt-ltb (start - cells_of h) (min (end - cells_of h) (cells_of h)) (omega arith)) m.second.part
            in
            omega arith
      ];
}

-- a choice between two marks, each of which is the new one or what it was
pub choice-marked :
    (low t t' : Bool) (w x y x' y' value : ℕ) → w ≤ value → (low ≡ true → x' ≡ (if t then value else x))
    → (low ≡ false → y' ≡ (if t' then value else y)) → (low ≡ false → t' ≡ t)
    → max w (if low then x' else y') ≡ (if t then value else max w (if low then x else y))
choice-marked true t t' w x y x' y' value v p q s = ap (max w) (p refl) ∙ max-choice t w x value v
choice-marked false t t' w x y x' y' value v p q s =
    ap (max w) (q refl ∙ ap (λ b. if b then value else y) (s refl)) ∙ max-choice t w y value v

-- some cells of the tree are in the range
pub marked-some :
    (h : ℕ) (ns a b c d : List Node) (start end value : ℕ) → IsParted h ns a b → IsTree h c → IsTree h d
    → AreMarked h a b start end value c d → (root ns).part ≤ value → start < end → start < cells_of h + cells_of h
    → IsMarked (suc h) ns start end value (record (root ns) { part = value } ∷ (c ++ d))
marked-some h ns a b c d start end value p tc td m v se sc =
    let n : Node = root ns in
    let e = p.are.part in
    subst (λ l. IsMarked (suc h) l start end value (record (root ns) { part = value } ∷ (c ++ d))) (sym p.nodes)
    (record {
      marks = λ k l.
          mark_at-joined h (record (root ns) { part = value }) c d k tc.sized
          ∙ (choice-marked (nat_lt k (cells_of h)) (is_in start end k)
          (is_in (start - cells_of h) (end - cells_of h) (k - cells_of h)) (root ns).whole (mark_at h a k)
          (mark_at h b (k - cells_of h)) (mark_at h c k) (mark_at h d (k - cells_of h)) value (omega arith)
          (λ t. m.first.marks k (ltb-true k (cells_of h) t))
          (λ f.
          let g : cells_of h ≤ k = grind (arith, nat_tests) in m.second.marks (k - cells_of h) (omega arith))
          (λ f. let g : cells_of h ≤ k = grind (arith, nat_tests) in is_in-later start end k (cells_of h) g)
          ∙ ap (λ x. if is_in start end k then value else x) (sym (mark_at-joined h (root ns) a b k p.are.first.sized)));
      part =
          let some : start < min end (cells_of h + cells_of h) = omega arith in
          sym (cond-true (nat_lt start (min end (cells_of h + cells_of h))) value (root ns).part
          (lt-ltb start (min end (cells_of h + cells_of h)) some));
    })

-- the same of a tree whose halves were taken apart, marked and put together
pub marked-put :
    (k h : ℕ) (ns a b c d new top : List Node) (start end value : ℕ) → k ≡ suc h → IsParted h ns a b → IsTree h c
    → IsTree h d → AreMarked h a b start end value c d → (root ns).part ≤ value → start < end
    → start < cells_of h + cells_of h → top ≡ record { whole = (root ns).whole; part = value } ∷ []
    → new ≡ top ++ (c ++ d) → IsTree k new × IsMarked k ns start end value new
marked-put k h ns a b c d new top start end value ek p tc td m v se sc et e =
    subst (λ j. IsTree j new × IsMarked j ns start end value new) (sym ek)
    (subst (λ l. IsTree (suc h) l × IsMarked (suc h) ns start end value l) (sym (e ∙ ap (λ l. l ++ (c ++ d)) et)) (
      joined h (record (root ns) { part = value }) c d
          (halves-marked h (root ns) a b c d start end value p.are tc td m v se sc),
      marked-some h ns a b c d start end value p tc td m v se sc,
    ))
