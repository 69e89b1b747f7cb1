-- A tree of nodes taken apart, and put together.
use Rattle.std.proofs.Common.{◌≡◌, ◌<◌, ◌≤◌, ℕ, zero, suc, ◌+◌, ◌-◌, ◌/◌, max, false, nat_lt, if◌then◌else◌, List, [], ◌∷◌, ◌++◌, length, take, drop, slice_set, get_or, ◌⊎◌, refl, sym, ◌∙◌, ap, subst, inl, inr, arith, length-append, length-drop}
use Rattle.std.proofs.lemmas.List.{take-append-drop, length-take}
use Rattle.std.proofs.lemmas.Bool.{cases_Bool, ltb-true, lt-ltb, cond-true, cond-false}
use Rattle.std.proofs.lemmas.Bool.Decides.{nat_tests}
use Rattle.std.proofs.Math.Seq.{take-append_seam, drop-append_seam}
use Rattle.ray_marks.specs.declared.node.Node.{Node}
use Rattle.ray_marks.specs.Tree.{cells_of, size_of, root, first_half, second_half, mark_at, AreParts, IsTree}
use Rattle.ray_marks.proofs.Choices.{choice-le}

-- so many nodes for so many cells
pub size-cells : (h : ℕ) → suc (size_of h) ≡ cells_of h + cells_of h
size-cells zero = refl
size-cells (suc h) = omega (arith, size-cells h)

pub cells-some : (h : ℕ) → 0 < cells_of h
cells-some zero = omega arith
cells-some (suc h) = omega (arith, cells-some h)

pub first-joined : (h : ℕ) (n : Node) (a b : List Node) → length a ≡ size_of h → first_half h (n ∷ (a ++ b)) ≡ a
first-joined h n a b e = ap (λ k. take k (a ++ b)) (sym e) ∙ take-append_seam a b

pub second-joined : (h : ℕ) (n : Node) (a b : List Node) → length a ≡ size_of h → second_half h (n ∷ (a ++ b)) ≡ b
second-joined h n a b e = ap (λ k. drop k (a ++ b)) (sym e) ∙ drop-append_seam a b

-- a tree whose halves are these trees
pub record AreHalves (h : ℕ) (n : Node) (a b : List Node) : Type 0 where
  pub first : IsTree h a
  pub second : IsTree h b
  pub part : n.part ≡ max n.whole (max (root a).part (root b).part)

-- the halves of a tree together are a tree
pub joined : (h : ℕ) (n : Node) (a b : List Node) → AreHalves h n a b → IsTree (suc h) (n ∷ (a ++ b))
joined h n a b p = record {
  sized = ap suc (length-append a b ∙ (λ i. p.first.sized i + p.second.sized i));
  parts = (
    p.part
        ∙ (λ i.
        max n.whole
        (max (root (sym (first-joined h n a b p.first.sized) i)).part (root (sym (second-joined h n a b p.first.sized) i)).part)),
    subst (AreParts h) (sym (first-joined h n a b p.first.sized)) p.first.parts,
    subst (AreParts h) (sym (second-joined h n a b p.first.sized)) p.second.parts,
  );
}

-- the mark of a cell is that in its half, or the root's
pub mark_at-joined :
    (h : ℕ) (n : Node) (a b : List Node) (c : ℕ) → length a ≡ size_of h
    → mark_at (suc h) (n ∷ (a ++ b)) c
    ≡ max n.whole (if nat_lt c (cells_of h) then mark_at h a c else mark_at h b (c - cells_of h))
mark_at-joined h n a b c e =
    λ i.
    max n.whole
    (if nat_lt c (cells_of h) then mark_at h (first-joined h n a b e i) c
    else mark_at h (second-joined h n a b e i) (c - cells_of h))

-- a tree of more than one cell has halves
pub record IsParted (h : ℕ) (ns a b : List Node) : Type 0 where
  pub nodes : ns ≡ root ns ∷ (a ++ b)
  pub are : AreHalves h (root ns) a b

pub parted : (h : ℕ) (ns : List Node) → IsTree (suc h) ns → IsParted h ns (first_half h ns) (second_half h ns)
parted h [] t = absurd (let e : 0 ≡ suc (size_of h + size_of h) = t.sized in omega arith)
parted h (n ∷ ns) t =
    let e : suc (length ns) ≡ suc (size_of h + size_of h) = t.sized in
    record {
      nodes = ap (λ l. n ∷ l) (sym (take-append-drop (size_of h) ns));
      are = record {
        first = record { sized = length-take (size_of h) ns ∙ omega arith; parts = t.parts.1 };
        second = record { sized = length-drop (size_of h) ns ∙ omega arith; parts = t.parts.2 };
        part = t.parts.0;
      };
    }

-- the same of a tree and its halves as slices
pub parted_at :
    (k h m : ℕ) (ns a b : List Node) → k ≡ suc h → m ≡ size_of h → IsTree k ns → a ≡ take m (drop 1 ns)
    → b ≡ drop m (drop 1 ns) → IsParted h ns a b
parted_at k h m [] a b ek em t ea eb =
    absurd (let e : 0 ≡ suc (size_of h + size_of h) = t.sized ∙ ap size_of ek in omega arith)
parted_at k h m (n ∷ ns) a b ek em t ea eb =
    let first : first_half h (n ∷ ns) ≡ a = sym (ea ∙ ap (λ j. take j ns) em) in
    let second : second_half h (n ∷ ns) ≡ b = sym (eb ∙ ap (λ j. drop j ns) em) in
    subst (λ x. IsParted h (n ∷ ns) x b) first
    (subst (λ x. IsParted h (n ∷ ns) (first_half h (n ∷ ns)) x) second
    (parted h (n ∷ ns) (subst (λ j. IsTree j (n ∷ ns)) ek t)))

-- no mark of a cell is above the root's part
pub mark_at-le : (h : ℕ) (ns : List Node) (c : ℕ) → AreParts h ns → c < cells_of h → mark_at h ns c ≤ (root ns).part
mark_at-le zero ns c p l = let e : (root ns).part ≡ (root ns).whole = p in omega arith
mark_at-le (suc h) ns c p l =
    let below :
    (if nat_lt c (cells_of h) then mark_at h (first_half h ns) c else mark_at h (second_half h ns) (c - cells_of h))
    ≤ max (root (first_half h ns)).part (root (second_half h ns)).part =
    choice-le (nat_lt c (cells_of h)) _ _ _
    (λ t. let u = mark_at-le h (first_half h ns) c p.1 (ltb-true c (cells_of h) t) in omega arith)
    (λ f.
    let g : cells_of h ≤ c = grind (arith, nat_tests) in
    let u = mark_at-le h (second_half h ns) (c - cells_of h) p.2 (omega arith) in omega arith)
    in
    let e = p.0 in
    omega arith

-- what is at most the root's mark or one in a half is at most the cell's
pub first-is :
    (h : ℕ) (ns : List Node) (c v : ℕ) → c < cells_of h
    → v ≤ max (root ns).whole (mark_at h (first_half h ns) c) → v ≤ mark_at (suc h) ns c
first-is h ns c v l le =
    subst (λ m. v ≤ max (root ns).whole m) (sym (cond-true (nat_lt c (cells_of h)) _ _ (lt-ltb c (cells_of h) l))) le

pub second-is :
    (h : ℕ) (ns : List Node) (c v : ℕ)
    → v ≤ max (root ns).whole (mark_at h (second_half h ns) c) → v ≤ mark_at (suc h) ns (c + cells_of h)
second-is h ns c v le =
    let above : nat_lt (c + cells_of h) (cells_of h) ≡ false = grind (arith, nat_tests) in
    let back : c + cells_of h - cells_of h ≡ c = omega arith in
    subst (λ m. v ≤ max (root ns).whole m)
    (sym (cond-false (nat_lt (c + cells_of h) (cells_of h)) _ _ above ∙ ap (mark_at h (second_half h ns)) back)) le

-- some cell has the root's part
pub mark_at-there :
    (h : ℕ) (ns : List Node) → AreParts h ns → (c : ℕ) × (c < cells_of h) × ((root ns).part ≤ mark_at h ns c)
mark_at-there zero ns p = (0, omega arith, let e : (root ns).part ≡ (root ns).whole = p in omega arith)
mark_at-there (suc h) ns p =
    let e = p.0 in
    elim (cases_Bool (nat_lt (root (first_half h ns)).part (root (second_half h ns)).part)) [
      | inl l ↦
          let (c, lt, le) = mark_at-there h (second_half h ns) p.2 in (
            c + cells_of h,
            omega arith,
            second-is h ns c (root ns).part
                (let less = ltb-true (root (first_half h ns)).part (root (second_half h ns)).part l in omega arith),
          )
      | inr g ↦
          let (c, lt, le) = mark_at-there h (first_half h ns) p.1 in (
            c,
            omega arith,
            first-is h ns c (root ns).part lt
                (let least : (root (second_half h ns)).part ≤ (root (first_half h ns)).part = grind (arith, nat_tests) in omega arith),
          )
    ]

-- a tree has one cell or two halves
pub height-cases : (k : ℕ) → ((k ≡ 0) × (size_of k ≡ 1)) ⊎ (k ≡ suc (k - 1))
height-cases zero = inl (refl, refl)
height-cases (suc h) = inr (omega arith)

-- the root alone, with another greatest mark
pub top-set :
    (ns top : List Node) (value : ℕ) → 0 < length ns → top ≡ take 1 ns
    → slice_set top 0 (record { whole = (get_or top 0 (record { whole = 0; part = 0 })).whole; part = value })
    ≡ record { whole = (root ns).whole; part = value } ∷ []
top-set [] top value l e = absurd (omega arith)
top-set (n ∷ ns) top value l e =
    ap
    (λ (t : List Node). slice_set t 0 (record { whole = (get_or t 0 (record { whole = 0; part = 0 })).whole; part = value }))
    e

-- the halves of a tree that is neither left out nor taken whole, as slices
pub record IsSplit (k : ℕ) (ns a b : List Node) : Type 0 where
  pub up : k ≡ suc (k - 1)
  pub parted : IsParted (k - 1) ns a b

pub split :
    (k start end : ℕ) (ns rest a b : List Node) → IsTree k ns → start < end → start < length ns / 2 + 1
    → ((start ≡ 0) × (end < length ns / 2 + 1)) ⊎ (start ≡ 0 → ⊥) → rest ≡ drop 1 ns → a ≡ take (length rest / 2) rest
    → b ≡ drop (length rest / 2) rest → IsSplit k ns a b
split k start end ns rest a b t se sc some er ea eb =
    let e = t.sized in
    let up : k ≡ suc (k - 1) = let s = height-cases k in omega arith in
    let s = ap size_of up in
    let l : length rest + 1 ≡ length ns = let d = ap length er ∙ length-drop 1 ns in omega arith in
    record {
      up = up;
      parted =
          parted_at k (k - 1) (length rest / 2) ns a b up (omega arith) t (ea ∙ ap (take (length rest / 2)) er)
          (eb ∙ ap (drop (length rest / 2)) er);
    }

-- the root is what an index gives
pub root-is : (ns : List Node) → root ns ≡ get_or ns 0 (record { whole = 0; part = 0 })
root-is [] = refl
root-is (n ∷ ns) = refl
