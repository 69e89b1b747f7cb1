-- The marks of all cells in order, and a tree that is over them.
use Rattle.std.proofs.Common.{◌≡◌, ◌<◌, ◌≤◌, ℕ, zero, suc, ◌+◌, ◌-◌, max, nat_lt, List, ◌++◌, length, take, drop, refl, sym, ◌∙◌, ap, subst, inl, inr, arith}
use Rattle.std.specs.Prelude.{replicate}
use Rattle.std.proofs.lemmas.List.{take-replicate, drop-replicate, length-replicate, get_or_past}
use Rattle.std.proofs.lemmas.List.FromFn.{get_or-map-range_with_len, length-map-range_with_len}
use Rattle.std.proofs.lemmas.Bool.{cases_Bool, ltb-true, cond-true, cond-false}
use Rattle.std.proofs.lemmas.Bool.Decides.{nat_tests}
use Rattle.std.proofs.Math.Seq.{take-append_seam}
use Rattle.ray_marks.specs.declared.node.Node.{Node}
use Rattle.ray_marks.specs.Rising.{mark_of, is_in, is_marked, IsGreatest}
use Rattle.ray_marks.specs.Tree.{cells_of, size_of, root, mark_at, marks_of, no_mark, AreParts, IsTree, IsOver, IsMarked, IsGreatestOf}
use Rattle.ray_marks.proofs.Choices.{is_in-above}
use Rattle.ray_marks.proofs.Trees.{mark_at-there}

pub length-marks_of : (h cells : ℕ) (ns : List Node) → length (marks_of h cells ns) ≡ cells
length-marks_of h cells ns = length-map-range_with_len (mark_at h ns) 0 cells

pub mark_of-at : (h cells : ℕ) (ns : List Node) (c : ℕ) → c < cells → mark_of (marks_of h cells ns) c ≡ mark_at h ns c
mark_of-at h cells ns c l = get_or-map-range_with_len (mark_at h ns) 0 cells c c 0 l (omega arith)

pub mark_of-none : (h cells : ℕ) (ns : List Node) (c : ℕ) → cells ≤ c → mark_of (marks_of h cells ns) c ≡ 0
mark_of-none h cells ns c l = get_or_past (marks_of h cells ns) c 0 (let e = length-marks_of h cells ns in omega arith)

-- a tree whose cells are marked
pub record IsMarkedOver (h cells : ℕ) (old : List Node) (start end value : ℕ) (new : List Node) : Type 0 where
  pub over : IsOver h cells new
  pub marks :
      (c : ℕ) → mark_of (marks_of h cells new) c ≡ is_marked start end value (mark_of (marks_of h cells old) c) c

pub over-marked :
    (h cells : ℕ) (ns new : List Node) (start end value : ℕ) → IsOver h cells ns → end ≤ cells → IsTree h new
    → IsMarked h ns start end value new → IsMarkedOver h cells ns start end value new
over-marked h cells ns new start end value o e t m = record {
  over = record {
    tree = t;
    enough = o.enough;
    beyond = λ c l k.
        m.marks c k
        ∙ (cond-false (is_in start end c) value (mark_at h ns c) (is_in-above start end c (omega arith))
        ∙ o.beyond c l k);
  };
  marks = λ c.
      elim (cases_Bool (nat_lt c cells)) [
        | inl l ↦
            let below = ltb-true c cells l in
            let enough = o.enough in
            mark_of-at h cells new c below
            ∙ (m.marks c (omega arith)
            ∙ ap (λ x. is_marked start end value x c) (sym (mark_of-at h cells ns c below)))
        | inr g ↦
            let above : cells ≤ c = grind (arith, nat_tests) in
            mark_of-none h cells new c above
            ∙ (sym (mark_of-none h cells ns c above)
            ∙ sym (cond-false (is_in start end c) value (mark_of (marks_of h cells ns) c)
            (is_in-above start end c (omega arith))))
      ];
}

-- where no mark is above a value, the root's greatest isn't
pub over-rising :
    (h cells : ℕ) (ns : List Node) (value : ℕ) → IsOver h cells ns → ((c : ℕ) → mark_of (marks_of h cells ns) c ≤ value)
    → (root ns).part ≤ value
over-rising h cells ns value o r =
    let (c, l, le) = mark_at-there h ns o.tree.parts in
    elim (cases_Bool (nat_lt c cells)) [
      | inl b ↦
          let e = mark_of-at h cells ns c (ltb-true c cells b) in let u = r c in omega arith
      | inr g ↦
          let above : cells ≤ c = grind (arith, nat_tests) in
          let e = o.beyond c above l in
          omega arith
    ]

pub over-greatest :
    (h cells : ℕ) (ns : List Node) (limit start end greatest : ℕ) → IsOver h cells ns → end ≤ cells
    → IsGreatestOf h ns limit start end greatest → IsGreatest (marks_of h cells ns) limit start end greatest
over-greatest h cells ns limit start end greatest o e g =
    let enough = o.enough in
    record {
      most = λ c s l.
          let u = g.most c s l (omega arith) in let v = mark_of-at h cells ns c (omega arith) in omega arith;
      there =
          elim g.there [
            | inl z ↦ inl z
            | inr (c, s, l, k, is, more) ↦ inr (c, s, l, mark_of-at h cells ns c (omega arith) ∙ is, more)
          ];
    }

-- the nodes of a tree without marks
abbrev pub no_marks : ℕ → List Node
no_marks h = replicate (size_of h) no_mark

pub halves-none :
    (n s : ℕ) → (take s (replicate (s + s) no_mark) ≡ replicate s no_mark) × (drop s (replicate (s + s) no_mark) ≡ replicate s no_mark)
halves-none n s = (
  take-replicate s (s + s) no_mark (omega arith),
  drop-replicate s (s + s) no_mark ∙ ap (λ k. replicate k no_mark) (omega arith),
)

pub root-none : (h : ℕ) → root (no_marks h) ≡ no_mark
root-none zero = refl
root-none (suc h) = refl

pub mark_at-none : (h : ℕ) (c : ℕ) → mark_at h (no_marks h) c ≡ 0
mark_at-none zero c = refl
mark_at-none (suc h) c =
    let (first, second) = halves-none 0 (size_of h) in
    let a : mark_at h (take (size_of h) (replicate (size_of h + size_of h) no_mark)) c ≡ 0 =
    ap (λ (l : List Node). mark_at h l c) first ∙ mark_at-none h c
    in
    let b : mark_at h (drop (size_of h) (replicate (size_of h + size_of h) no_mark)) (c - cells_of h) ≡ 0 =
    ap (λ (l : List Node). mark_at h l (c - cells_of h)) second ∙ mark_at-none h (c - cells_of h)
    in
    elim (cases_Bool (nat_lt c (cells_of h))) [
      | inl t ↦ ap (max 0) (cond-true (nat_lt c (cells_of h)) _ _ t ∙ a)
      | inr f ↦ ap (max 0) (cond-false (nat_lt c (cells_of h)) _ _ f ∙ b)
    ]

pub parts-none : (h : ℕ) → AreParts h (no_marks h)
parts-none zero = refl
parts-none (suc h) =
    let (first, second) = halves-none 0 (size_of h) in (
      sym
          (ap (max 0)
          ((λ i. max (root (first i)).part (root (second i)).part)
          ∙ ap (λ (n : Node). max n.part n.part) (root-none h))),
      subst (AreParts h) (sym first) (parts-none h),
      subst (AreParts h) (sym second) (parts-none h),
    )

pub over-none : (h cells : ℕ) → cells ≤ cells_of h → IsOver h cells (no_marks h)
over-none h cells e = record {
  tree = record { sized = length-replicate (size_of h) no_mark; parts = parts-none h };
  enough = e;
  beyond = λ c l k. mark_at-none h c;
}

-- a slice that is all of a list
pub whole-slice :
    (n : ℕ) (new items : List Node) → n ≡ length new → take n (new ++ drop (length new) items) ≡ new
whole-slice n new items e = ap (λ k. take k (new ++ drop (length new) items)) e ∙ take-append_seam new _

pub mark_of-none_at : (h cells c : ℕ) → mark_of (marks_of h cells (no_marks h)) c ≡ 0
mark_of-none_at h cells c =
    elim (cases_Bool (nat_lt c cells)) [
      | inl l ↦ mark_of-at h cells (no_marks h) c (ltb-true c cells l) ∙ mark_at-none h c
      | inr g ↦ mark_of-none h cells (no_marks h) c (grind (arith, nat_tests))
    ]
