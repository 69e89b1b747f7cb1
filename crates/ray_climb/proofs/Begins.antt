-- The first store at a leaf keeps the climb rule.
use Rattle.std.proofs.Common.{◌≡◌, ◌≢◌, ℕ, ◌+◌, ◌<◌, inl, inr, List, set, refl, sym, ap, ◌∙◌, subst, arith, true≢false}
use mathlib.Core.Option.{some}
use mathlib.Core.Logic.{dite}
use native.Mathlib.Decide.{ℕ_discrete}
use lib.ListN.{get_elem?}
use Rattle.ray_climb.specs.declared.rule.View.{View}
use Rattle.ray_climb.specs.declared.rule.Half.TheVariants.{Held, Stored}
use Rattle.ray_climb.specs.declared.rule.Hand.{Hand}
use Rattle.ray_climb.specs.declared.rule.Hand.TheVariants.{Empty, At}
use Rattle.ray_climb.specs.Frames.{Frame}
use Rattle.ray_climb.specs.Rule.{times, holds, stands, todos, held, hands, IsPassed, IsTrueHand, IsClimb}
use Rattle.ray_climb.specs.Steps.{begun}
use Rattle.ray_climb.proofs.Trees.{IsFrame}
use Rattle.ray_climb.proofs.Sums.{total_set, total_none, part_le, each_set, alike, unlike, times_without}
use Rattle.ray_climb.proofs.Passed.{IsTruer, same_words, exact_stays, hand_stays, passed_stays, leaf_passed}

module _ (t : Frame) (ok : IsFrame t) (A L H M : ℕ → ℕ) (views : List View) (id : ℕ) (v : View) (leaf low high : ℕ)
    (r : IsClimb t A L H views) (at : get_elem? views id ≡ some v) (free : v.hand ≡ Empty)
    (small : leaf < t.leaves) (listed : 0 < times leaf v.todo)
    (lows : IsTruer t.low L M) (stored : M (t.node_of leaf) ≡ low) (low_is : low ≡ t.low (t.node_of leaf)) (high_is : high ≡ t.high (t.node_of leaf)) where
  -- the leaf stands in a todo list, so nowhere else
  todo_one : 0 < todos leaf views
  todo_one = let p = part_le (λ u. times leaf u.todo) views id v at in omega arith

  none_held : held leaf views ≡ 0
  none_held = let a = todo_one in let old = r.each_once leaf small in omega arith

  -- so no hand is at its node
  no_hand_by : (j : ℕ) (hand : Hand) → holds leaf hand ≡ 0 → IsTrueHand t L H hand → stands (t.node_of leaf) hand ≡ 0
  no_hand_by j Empty not_held is = refl
  no_hand_by j (At other node a b) not_held is = dite (ℕ_discrete node (t.node_of leaf))
      (λ e. let own : t.node_of other ≡ node = is.own_leaf (ap t.inner e ∙ ok.leaf_is leaf small) in
      let same : other ≡ leaf = ok.leaf_only other leaf is.leaf_small small (own ∙ e) in
      let one = alike other leaf same in absurd (omega arith))
      (λ ne. unlike node (t.node_of leaf) ne)

  no_hand : hands (t.node_of leaf) views ≡ 0
  no_hand =
      total_none (λ u. stands (t.node_of leaf) u.hand) views
      (λ j u there. no_hand_by j u.hand (let p = part_le (λ x. holds leaf x.hand) views j u there in let none = none_held in omega arith) (r.true_hands j u there))

  -- and it is not passed
  not_passed : IsPassed t A views (t.node_of leaf) → ⊥
  not_passed p =
      let none = leaf_passed t A views (t.node_of leaf) (ok.leaf_is leaf small) p leaf small refl in
      let one = todo_one in
      absurd (omega arith)

  pub begins : IsClimb t A M H (set views id (begun v leaf (At leaf (t.node_of leaf) (Stored low) (Held high))))
  begins =
      let n : ℕ = t.node_of leaf in
      let w : View = begun v leaf (At leaf n (Stored low) (Held high)) in
      let highs = same_words t.high H in
      let less : (k : ℕ) → todos k (set views id w) + holds k w.hand ≡ todos k views = λ k.
      let s = total_set (λ u. times k u.todo) views id v w at in
      let o = times_without k leaf v.todo listed in
      omega arith in
      let others : (i : ℕ) → i ≢ n → hands i (set views id w) ≡ hands i views = λ i ne.
      let s = total_set (λ u. stands i u.hand) views id v w at in
      let e = ap (stands i) free in
      let no = unlike n i (λ q. ne (sym q)) in
      omega arith in
      let here : hands n (set views id w) ≡ 1 =
      let s = total_set (λ u. stands n u.hand) views id v w at in
      let e = ap (stands n) free in
      let one = alike n n refl in
      let none = no_hand in
      omega arith in
      let todo_other : (i k : ℕ) → i ≢ n → t.node_of k ≡ i → todos k (set views id w) ≡ todos k views = λ i k ne e.
      let l = less k in
      let no = unlike leaf k (λ q. ne (sym e ∙ ap t.node_of (sym q))) in
      omega arith in
      record {
        small = r.small;
        each_once = λ k lt.
            let a = less k in
            let b = total_set (λ u. times k u.done) views id v w at in
            let c = total_set (λ u. holds k u.hand) views id v w at in
            let e = ap (holds k) free in
            let old = r.each_once k lt in
            omega arith;
        bits = λ i lt b.
            let d = r.bits i lt b in
            let ne : i ≢ n = λ e. not_passed (subst (λ x. IsPassed t A views x) e d.passed) in
            record {
              exact = exact_stays t L H M H lows highs i d.exact;
              free = others i ne ∙ d.free;
              passed = passed_stays t A views (set views id w) i (λ k _ e. let s = todo_other i k ne e in omega arith) d.passed;
            };
        one_hand = λ i lt. dite (ℕ_discrete i n) (λ e. let one = here in let same = ap (λ x. hands x (set views id w)) e in omega arith)
            (λ ne. let e = others i ne in let old = r.one_hand i lt in omega arith);
        both_bits = λ i lt inner there. dite (ℕ_discrete i n)
            (λ e. absurd (true≢false (sym inner ∙ ap t.inner e ∙ ok.leaf_is leaf small)))
            (λ ne. r.both_bits i lt inner (let e = others i ne in omega arith));
        true_hands = each_set (λ u. IsTrueHand t M H u.hand) views id w
            (record {
              leaf_small = small;
              node_small = ok.leaf_small leaf small;
              own_leaf = λ _. refl;
              low_true = (low_is, stored);
              high_true = high_is;
              low_first = λ _. refl;
            })
            (λ j u there. hand_stays t L H M H lows highs u.hand (r.true_hands j u there));
        moves_on = λ i lt p. dite (ℕ_discrete i n) (λ e. inl (let one = here in let same = ap (λ x. hands x (set views id w)) e in omega arith))
            (λ ne. elim (r.moves_on i lt (passed_stays t A (set views id w) views i (λ k _ e. let s = todo_other i k ne e in omega arith) p)) [
              | inl a ↦ inl (let e = others i ne in omega arith)
              | inr b ↦ elim b [ inl c ↦ inr (inl c) | inr d ↦ inr (inr (d.0, exact_stays t L H M H lows highs i d.1)) ]
            ]);
      }
