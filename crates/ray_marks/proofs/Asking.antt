-- What the greatest mark above a limit of a range is.
use Rattle.std.proofs.Common.{◌≡◌, ◌<◌, ◌≤◌, ◌⊎◌, ℕ, suc, ◌+◌, ◌-◌, max, min, false, nat_lt, List, refl, sym, ◌∙◌, ap, subst, inl, inr, arith}
use Rattle.std.proofs.lemmas.Bool.{cases_Bool, ltb-true, lt-ltb, cond-true, cond-false}
use Rattle.std.proofs.lemmas.Bool.Decides.{nat_tests}
use Rattle.ray_marks.specs.declared.node.Node.{Node}
use Rattle.ray_marks.specs.Tree.{cells_of, root, mark_at, above, IsTree, IsGreatestOf}
use Rattle.ray_marks.proofs.Trees.{IsParted, mark_at-joined, mark_at-le, mark_at-there, IsSplit}

-- a mark is at most its limit or what is above it, which is 0 where it isn't the mark
pub above-is :
    (limit mark : ℕ)
    → (mark ≤ max limit (above limit mark))
    × ((above limit mark ≡ 0) ⊎ ((above limit mark ≡ mark) × (limit < above limit mark)))
above-is limit mark =
    elim (cases_Bool (nat_lt limit mark)) [
      | inl t ↦
          let less = ltb-true limit mark t in
          let e = cond-true (nat_lt limit mark) mark 0 t in
          (omega arith, inr (e, omega arith))
      | inr f ↦
          let least : mark ≤ limit = grind (arith, nat_tests) in
          let e = cond-false (nat_lt limit mark) mark 0 f in
          (omega arith, inl e)
    ]

pub greatest-none :
    (h : ℕ) (ns : List Node) (limit start end : ℕ) → min end (cells_of h) ≤ start → IsGreatestOf h ns limit start end 0
greatest-none h ns limit start end e = record { most = λ c s l k. absurd (omega arith); there = inl refl }

-- no mark of the tree is above the limit
pub greatest-low :
    (h : ℕ) (ns : List Node) (limit start end : ℕ) → IsTree h ns → (root ns).part ≤ limit
    → IsGreatestOf h ns limit start end 0
greatest-low h ns limit start end t e = record {
  most = λ c s l k. let u = mark_at-le h ns c t.parts k in omega arith;
  there = inl refl;
}

pub greatest-all :
    (h : ℕ) (ns : List Node) (limit end : ℕ) → IsTree h ns → cells_of h ≤ end → limit < (root ns).part
    → IsGreatestOf h ns limit 0 end (root ns).part
greatest-all h ns limit end t e high = record {
  most = λ c s l k. let u = mark_at-le h ns c t.parts k in omega arith;
  there =
      let (c, lt, le) = mark_at-there h ns t.parts in
      let at = mark_at-le h ns c t.parts lt in
      inr (c, omega arith, omega arith, lt, omega arith, high);
}

-- the mark of a cell of a half
pub mark-first :
    (h : ℕ) (ns a b : List Node) (c : ℕ) → IsParted h ns a b → c < cells_of h
    → mark_at (suc h) ns c ≡ max (root ns).whole (mark_at h a c)
mark-first h ns a b c p l =
    ap (λ (x : List Node). mark_at (suc h) x c) p.nodes
    ∙ (mark_at-joined h (root ns) a b c p.are.first.sized
    ∙ ap (max (root ns).whole) (cond-true (nat_lt c (cells_of h)) _ _ (lt-ltb c (cells_of h) l)))

pub mark-second :
    (h : ℕ) (ns a b : List Node) (c : ℕ) → IsParted h ns a b → cells_of h ≤ c
    → mark_at (suc h) ns c ≡ max (root ns).whole (mark_at h b (c - cells_of h))
mark-second h ns a b c p l =
    let above : nat_lt c (cells_of h) ≡ false = grind (arith, nat_tests) in
    ap (λ (x : List Node). mark_at (suc h) x c) p.nodes
    ∙ (mark_at-joined h (root ns) a b c p.are.first.sized
    ∙ ap (max (root ns).whole) (cond-false (nat_lt c (cells_of h)) _ _ above))

-- no mark in the range is above the limit and the greatest of the halves and of the root
pub most-some :
    (h : ℕ) (ns a b : List Node) (limit start end r s g : ℕ) → IsParted h ns a b → IsGreatestOf h a limit start end r
    → IsGreatestOf h b limit (start - cells_of h) (end - cells_of h) s
    → g ≡ max (above limit (root ns).whole) (max r s)
    → (c : ℕ) → start ≤ c → c < end → c < cells_of h + cells_of h → mark_at (suc h) ns c ≤ max limit g
most-some h ns a b limit start end r s g p first second eg c sl l k =
    let (w, some) = above-is limit (root ns).whole in
    elim (cases_Bool (nat_lt c (cells_of h))) [
      | inl t ↦
          let low = ltb-true c (cells_of h) t in
          let u = first.most c sl l low in
          let e = mark-first h ns a b c p low in
          omega arith
      | inr f ↦
          let high : cells_of h ≤ c = grind (arith, nat_tests) in
          let u = second.most (c - cells_of h) (omega arith) (omega arith) (omega arith) in
          let e = mark-second h ns a b c p high in
          omega arith
    ]

-- each cell has at least the root's mark
pub mark_at-whole :
    (h : ℕ) (ns a b : List Node) (c : ℕ) → IsParted h ns a b → (root ns).whole ≤ mark_at (suc h) ns c
mark_at-whole h ns a b c p =
    let e =
    ap (λ (x : List Node). mark_at (suc h) x c) p.nodes ∙ mark_at-joined h (root ns) a b c p.are.first.sized
    in
    omega arith

-- a cell in the range has at least the greatest mark of the halves and of the root, or that is 0
pub there-some :
    (h : ℕ) (ns a b : List Node) (limit start end r s g : ℕ) → IsParted h ns a b → IsGreatestOf h a limit start end r
    → IsGreatestOf h b limit (start - cells_of h) (end - cells_of h) s → start < end
    → start < cells_of h + cells_of h → g ≡ max (above limit (root ns).whole) (max r s)
    → (g ≡ 0)
    ⊎ ((c : ℕ) × (start ≤ c) × (c < end) × (c < cells_of h + cells_of h) × (g ≤ mark_at (suc h) ns c) × (limit < g))
there-some h ns a b limit start end r s g p first second se sc eg =
    let (w, some) = above-is limit (root ns).whole in
    elim (cases_Bool (nat_lt (max r s) (above limit (root ns).whole))) [
      | inl t ↦
          let high = ltb-true (max r s) (above limit (root ns).whole) t in
          let u = mark_at-whole h ns a b start p in
          inr (start, omega arith, se, sc, omega arith, omega arith)
      | inr f ↦
          let within : above limit (root ns).whole ≤ max r s = grind (arith, nat_tests) in
          elim (cases_Bool (nat_lt r s)) [
            | inl t ↦
                let high = ltb-true r s t in
                elim second.there [
                  | inl z ↦ inl (omega arith)
                  | inr (c, cs, ce, ck, e, more) ↦
                      let back : c + cells_of h - cells_of h ≡ c = omega arith in
                      let at = mark-second h ns a b (c + cells_of h) p (omega arith) in
                      let there = ap (mark_at h b) back in
                      inr (c + cells_of h, omega arith, omega arith, omega arith, omega arith, omega arith)
                ]
            | inr q ↦
                let least : s ≤ r = grind (arith, nat_tests) in
                elim first.there [
                  | inl z ↦ inl (omega arith)
                  | inr (c, cs, ce, ck, e, more) ↦
                      let at = mark-first h ns a b c p ck in
                      inr (c, cs, ce, omega arith, omega arith, omega arith)
                ]
          ]
    ]

-- the greatest mark of a range of which some cells are in the tree
pub greatest-some :
    (h : ℕ) (ns a b : List Node) (limit start end r s g : ℕ) → IsParted h ns a b → IsGreatestOf h a limit start end r
    → IsGreatestOf h b limit (start - cells_of h) (end - cells_of h) s → start < end
    → start < cells_of h + cells_of h → g ≡ max (above limit (root ns).whole) (max r s)
    → IsGreatestOf (suc h) ns limit start end g
greatest-some h ns a b limit start end r s g p first second se sc eg = record {
  most = most-some h ns a b limit start end r s g p first second eg;
  there =
      elim (there-some h ns a b limit start end r s g p first second se sc eg) [
        | inl z ↦ inl z
        | inr (c, cs, ce, ck, le, more) ↦
            let u = most-some h ns a b limit start end r s g p first second eg c cs ce ck in
            inr (c, cs, ce, ck, omega arith, more)
      ];
}

-- the same of halves that are slices
pub greatest-split :
    (k : ℕ) (ns a b : List Node) (limit start end from to r s g : ℕ) → IsSplit k ns a b
    → from ≡ start - cells_of (k - 1) → to ≡ end - cells_of (k - 1) → IsGreatestOf (k - 1) a limit start end r
    → IsGreatestOf (k - 1) b limit from to s → start < end → start < cells_of (k - 1) + cells_of (k - 1)
    → g ≡ max (above limit (root ns).whole) (max r s) → IsGreatestOf k ns limit start end g
greatest-split k ns a b limit start end from to r s g p ef et first second se sc eg =
    subst (λ j. IsGreatestOf j ns limit start end g) (sym p.up)
    (greatest-some (k - 1) ns a b limit start end r s g p.parted first
    (subst (λ x. IsGreatestOf (k - 1) b limit (start - cells_of (k - 1)) x s) et
    (subst (λ x. IsGreatestOf (k - 1) b limit x to s) ef second)) se sc eg)
