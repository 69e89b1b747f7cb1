-- Where all leaves are done, each node is exact; and what is read from a done sibling is true.
use Rattle.std.proofs.Common.{◌≡◌, ℕ, zero, suc, ◌<◌, ◌⊎◌, inl, inr, Bool, true, false, List, refl, sym, subst, arith}
use mathlib.Core.Option.{some}
use lib.ListN.{get_elem?}
use Rattle.ray_climb.specs.declared.rule.View.{View}
use Rattle.ray_climb.specs.declared.rule.Hand.{Hand}
use Rattle.ray_climb.specs.declared.rule.Hand.TheVariants.{Empty, At}
use Rattle.ray_climb.specs.Frames.{Frame}
use Rattle.ray_climb.specs.Rule.{times, holds, stands, todos, held, hands, has, IsExact, IsPassed, IsTrueHand, HasArrived, IsClimb}
use Rattle.ray_climb.proofs.Trees.{IsFrame}
use Rattle.ray_climb.proofs.Sums.{total_none, part_le, alike}
use Rattle.ray_climb.proofs.Passed.{passed_inner, passed_leaf}

module _ (t : Frame) (ok : IsFrame t) (A L H : ℕ → ℕ) (views : List View) (id : ℕ) (v : View)
    (r : IsClimb t A L H views) (at : get_elem? views id ≡ some v) (all : (k : ℕ) → k < t.leaves → times k v.done ≡ 1) where
  none_left : (k : ℕ) → k < t.leaves → (todos k views ≡ 0) × (held k views ≡ 0)
  none_left k lt =
      let p = part_le (λ u. times k u.done) views id v at in
      let one = all k lt in
      let old = r.each_once k lt in
      (omega arith, omega arith)

  idle_by : (i : ℕ) (hand : Hand) → ((k : ℕ) → k < t.leaves → holds k hand ≡ 0) → IsTrueHand t L H hand → stands i hand ≡ 0
  idle_by i Empty none is = refl
  idle_by i (At leaf node low high) none is = let z = none leaf is.leaf_small in let one = alike leaf leaf refl in absurd (omega arith)

  idle : (i : ℕ) → hands i views ≡ 0
  idle i =
      total_none (λ u. stands i u.hand) views
      (λ j u there. idle_by i u.hand (λ k lt. let p = part_le (λ x. holds k x.hand) views j u there in let z = (none_left k lt).1 in omega arith) (r.true_hands j u there))

  -- a node that is passed is exact
  from_passed : (i : ℕ) → i < t.nodes → IsPassed t A views i → HasArrived t A i ⊎ ((i ≡ 0) × IsExact t L H i)
  from_passed i lt p = elim (r.moves_on i lt p) [ inl a ↦ absurd (let z = idle i in omega arith) | inr b ↦ b ]

  arrived : (p : ℕ) (s : Bool) → p < t.nodes → t.inner p ≡ true → IsPassed t A views (t.child p s) → has (A p) s ≡ true
  arrived p s lt inner passed =
      let kid = ok.kids p s lt inner in
      elim (from_passed (t.child p s) kid.small passed) [
        | inl a ↦ subst (λ x. has (A x) s ≡ true) kid.parent (subst (λ x. has (A (t.parent (t.child p s))) x ≡ true) kid.side a.1)
        | inr b ↦ absurd (kid.below b.0)
      ]

  passed_by : (n i : ℕ) → ok.height i < n → i < t.nodes → (b : Bool) → t.inner i ≡ b → IsPassed t A views i
  passed_by zero i low lt b inner = absurd (omega arith)
  passed_by (suc n) i low lt false inner = passed_leaf t A views i inner (λ k small _. (none_left k small).0)
  passed_by (suc n) i low lt true inner =
      let up : (s : Bool) → has (A i) s ≡ true = λ s.
      let kid = ok.kids i s lt inner in
      let h = ok.higher i s lt inner in
      arrived i s lt inner (passed_by n (t.child i s) (omega arith) kid.small (t.inner (t.child i s)) refl) in
      passed_inner t A views i inner (up false, up true)

  pub all_exact : (i : ℕ) → i < t.nodes → IsExact t L H i
  all_exact i lt = elim (from_passed i lt (passed_by (suc (ok.height i)) i (omega arith) lt (t.inner i) refl)) [
    | inl a ↦ (r.bits i lt a).exact
    | inr b ↦ subst (λ x. IsExact t L H x) (sym b.0) (subst (λ x. IsExact t L H x) b.0 b.1)
  ]
