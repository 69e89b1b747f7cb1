-- A hand that stays where it is, or that ends at the root, keeps the climb rule.
use Rattle.std.proofs.Common.{◌≡◌, ◌≢◌, ℕ, ◌≤◌, inl, inr, List, [], ◌∷◌, set, sym, ap, ◌∙◌, subst, arith}
use mathlib.Core.Option.{some}
use mathlib.Core.Logic.{dite}
use native.Mathlib.Decide.{ℕ_discrete}
use lib.ListN.{get_elem?}
use Rattle.ray_climb.specs.declared.rule.View.{View}
use Rattle.ray_climb.specs.declared.rule.Half.{Half}
use Rattle.ray_climb.specs.declared.rule.Hand.TheVariants.{At}
use Rattle.ray_climb.specs.Frames.{Frame}
use Rattle.ray_climb.specs.Rule.{times, holds, stands, todos, hands, IsExact, IsTrueAt, IsTrueHand, IsClimb}
use Rattle.ray_climb.specs.Steps.{with_hand, ended}
use Rattle.ray_climb.proofs.Sums.{total_set, each_set, unlike, times_append}
use Rattle.ray_climb.proofs.Passed.{IsTruer, exact_stays, hand_stays, passed_stays}

module _ (t : Frame) (A L H M K : ℕ → ℕ) (views : List View) (id : ℕ) (v : View) (leaf node : ℕ) (low high : Half)
    (r : IsClimb t A L H views) (at : get_elem? views id ≡ some v) (is : v.hand ≡ At leaf node low high)
    (lows : IsTruer t.low L M) (highs : IsTruer t.high H K) where
  -- a hand that stays, with other halves
  pub stays : (low' high' : Half) → IsTrueAt t M K leaf node low' high' → IsClimb t A M K (set views id (with_hand v (At leaf node low' high')))
  stays low' high' true_now =
      let w : View = with_hand v (At leaf node low' high') in
      let todo_same : (k : ℕ) → todos k (set views id w) ≡ todos k views = λ k. let s = total_set (λ u. times k u.todo) views id v w at in omega arith in
      let hands_same : (i : ℕ) → hands i (set views id w) ≡ hands i views =
      λ i. let s = total_set (λ u. stands i u.hand) views id v w at in let e = ap (stands i) is in omega arith in
      record {
        small = r.small;
        each_once = λ k lt.
            let a = todo_same k in
            let b = total_set (λ u. times k u.done) views id v w at in
            let c = total_set (λ u. holds k u.hand) views id v w at in
            let e = ap (holds k) is in
            let old = r.each_once k lt in
            omega arith;
        bits = λ i lt b. let d = r.bits i lt b in record {
          exact = exact_stays t L H M K lows highs i d.exact;
          free = hands_same i ∙ d.free;
          passed = passed_stays t A views (set views id w) i (λ k _ _. let e = todo_same k in omega arith) d.passed;
        };
        one_hand = λ i lt. let e = hands_same i in let old = r.one_hand i lt in omega arith;
        both_bits = λ i lt inner there. r.both_bits i lt inner (let e = hands_same i in omega arith);
        true_hands = each_set (λ u. IsTrueHand t M K u.hand) views id w true_now (λ j u there. hand_stays t L H M K lows highs u.hand (r.true_hands j u there));
        moves_on = λ i lt p. elim (r.moves_on i lt (passed_stays t A (set views id w) views i (λ k _ _. let e = todo_same k in omega arith) p)) [
          | inl a ↦ inl (let e = hands_same i in omega arith)
          | inr b ↦ elim b [ inl c ↦ inr (inl c) | inr d ↦ inr (inr (d.0, exact_stays t L H M K lows highs i d.1)) ]
        ];
      }

  -- a hand at the root that has stored both halves lets its leaf go
  pub ends : node ≡ 0 → IsExact t M K 0 → IsClimb t A M K (set views id (ended v leaf))
  ends root exact =
      let w : View = ended v leaf in
      let todo_same : (k : ℕ) → todos k (set views id w) ≡ todos k views = λ k. let s = total_set (λ u. times k u.todo) views id v w at in omega arith in
      let fewer : (i : ℕ) → hands i (set views id w) ≤ hands i views =
      λ i. let s = total_set (λ u. stands i u.hand) views id v w at in omega arith in
      let others : (i : ℕ) → i ≢ 0 → hands i (set views id w) ≡ hands i views =
      λ i ne. let s = total_set (λ u. stands i u.hand) views id v w at in let e = ap (stands i) is in let no = unlike node i (λ q. ne (sym q ∙ root)) in omega arith in
      record {
        small = r.small;
        each_once = λ k lt.
            let a = todo_same k in
            let b = total_set (λ u. times k u.done) views id v w at in
            let c = total_set (λ u. holds k u.hand) views id v w at in
            let e = ap (holds k) is in
            let more = times_append k v.done (leaf ∷ []) in
            let old = r.each_once k lt in
            omega arith;
        bits = λ i lt b. let d = r.bits i lt b in record {
          exact = exact_stays t L H M K lows highs i d.exact;
          free = let e = fewer i in let f = d.free in omega arith;
          passed = passed_stays t A views (set views id w) i (λ k _ _. let e = todo_same k in omega arith) d.passed;
        };
        one_hand = λ i lt. let e = fewer i in let old = r.one_hand i lt in omega arith;
        both_bits = λ i lt inner there. r.both_bits i lt inner (let e = fewer i in omega arith);
        true_hands = each_set (λ u. IsTrueHand t M K u.hand) views id w tt (λ j u there. hand_stays t L H M K lows highs u.hand (r.true_hands j u there));
        moves_on = λ i lt p. dite (ℕ_discrete i 0) (λ e. inr (inr (e, subst (λ x. IsExact t M K x) (sym e) exact)))
            (λ ne. elim (r.moves_on i lt (passed_stays t A (set views id w) views i (λ k _ _. let e = todo_same k in omega arith) p)) [
              | inl a ↦ inl (let e = others i ne in omega arith)
              | inr b ↦ elim b [ inl c ↦ inr (inl c) | inr d ↦ inr (inr (d.0, exact_stays t L H M K lows highs i d.1)) ]
            ]);
      }
