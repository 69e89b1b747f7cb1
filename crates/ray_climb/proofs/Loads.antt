-- What a hand loads of its sibling's box is true, and so is what it computes by it.
use Rattle.std.proofs.Common.{◌≡◌, ◌≢◌, ℕ, ◌<◌, Bool, true, false, not, List, refl, sym, ap, ◌∙◌, subst, arith}
use Rattle.std.proofs.Math.Nat.{min_comm, max_comm}
use mathlib.Core.Option.{some}
use lib.ListN.{get_elem?}
use Rattle.ray_climb.specs.declared.rule.View.{View}
use Rattle.ray_climb.specs.declared.rule.Half.{Half}
use Rattle.ray_climb.specs.declared.rule.Hand.TheVariants.{At}
use Rattle.ray_climb.specs.Frames.{Frame}
use Rattle.ray_climb.specs.Halves.{packed, x_of, y_of, z_of, lesser_half, greater_half}
use Rattle.ray_climb.specs.Rule.{stands, hands, has, IsExact, IsTrueAt, IsTrueHand, IsClimb}
use Rattle.ray_climb.proofs.Trees.{IsFrame}
use Rattle.ray_climb.proofs.Sums.{part_le, alike}

lesser_half-comm : (a b : ℕ) → lesser_half a b ≡ lesser_half b a
unfolding lesser_half
lesser_half-comm a b = λ i. packed (min_comm (x_of a) (x_of b) i) (min_comm (y_of a) (y_of b) i) (min_comm (z_of a) (z_of b) i)

greater_half-comm : (a b : ℕ) → greater_half a b ≡ greater_half b a
unfolding greater_half
greater_half-comm a b = λ i. packed (max_comm (x_of a) (x_of b) i) (max_comm (y_of a) (y_of b) i) (max_comm (z_of a) (z_of b) i)

bit_of_both : (a : ℕ) (s : Bool) → (has a false ≡ true) × (has a true ≡ true) → has a s ≡ true
bit_of_both a true x = x.1
bit_of_both a false x = x.0

module _ (t : Frame) (ok : IsFrame t) (A L H : ℕ → ℕ) (views : List View) (id : ℕ) (v : View) (leaf node child : ℕ) (low high : Half)
    (r : IsClimb t A L H views) (at : get_elem? views id ≡ some v) (is : v.hand ≡ At leaf node low high)
    (small : child < t.nodes) (below : child ≢ 0) (parent : t.parent child ≡ node) where
  hand : IsTrueAt t L H leaf node low high
  hand = subst (λ h. IsTrueHand t L H h) is (r.true_hands id v at)

  inner : t.inner node ≡ true
  inner = subst (λ n. t.inner n ≡ true) parent (ok.parent_inner child small below)

  here : 0 < hands node views
  here = let p = part_le (λ u. stands node u.hand) views id v at in let e = ap (stands node) is in let one = alike node node refl in omega arith

  pub sibling : ℕ
  sibling = t.child node (not (t.side child))

  sibling_exact : IsExact t L H (t.child node (not (t.side child)))
  sibling_exact =
      let s : Bool = not (t.side child) in
      let kid = ok.kids node s hand.node_small inner in
      let b = bit_of_both (A node) s (r.both_bits node hand.node_small inner here) in
      (r.bits (t.child node s) kid.small
      (kid.below, subst (λ x. has (A x) (t.side (t.child node s)) ≡ true) (sym kid.parent) (subst (λ x. has (A node) x ≡ true) (sym kid.side) b))).exact

  child_here : t.child node (t.side child) ≡ child
  child_here = subst (λ n. t.child n (t.side child) ≡ child) parent (ok.child_is child small below)

  low_by : (s : Bool) → t.child node s ≡ child → lesser_half (t.low child) (t.low (t.child node (not s))) ≡ t.low node
  low_by false e = ap (λ c. lesser_half (t.low c) (t.low (t.child node true))) (sym e) ∙ sym (ok.low_joins node hand.node_small inner)
  low_by true e =
      lesser_half-comm (t.low child) (t.low (t.child node false))
      ∙ ap (λ c. lesser_half (t.low (t.child node false)) (t.low c)) (sym e)
      ∙ sym (ok.low_joins node hand.node_small inner)

  high_by : (s : Bool) → t.child node s ≡ child → greater_half (t.high child) (t.high (t.child node (not s))) ≡ t.high node
  high_by false e = ap (λ c. greater_half (t.high c) (t.high (t.child node true))) (sym e) ∙ sym (ok.high_joins node hand.node_small inner)
  high_by true e =
      greater_half-comm (t.high child) (t.high (t.child node false))
      ∙ ap (λ c. greater_half (t.high (t.child node false)) (t.high c)) (sym e)
      ∙ sym (ok.high_joins node hand.node_small inner)

  pub low_true : (half found : ℕ) → half ≡ t.low child → found ≡ L (t.child node (not (t.side child))) → lesser_half half found ≡ t.low node
  low_true half found half_is found_is =
      (λ i. lesser_half (half_is i) ((found_is ∙ sibling_exact.0) i)) ∙ low_by (t.side child) child_here

  pub high_true : (half found : ℕ) → half ≡ t.high child → found ≡ H (t.child node (not (t.side child))) → greater_half half found ≡ t.high node
  high_true half found half_is found_is =
      (λ i. greater_half (half_is i) ((found_is ∙ sibling_exact.1) i)) ∙ high_by (t.side child) child_here
