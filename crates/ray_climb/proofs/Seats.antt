-- A split and a join keep the climb rule.
use Rattle.std.proofs.Common.{◌≡◌, ℕ, ◌+◌, inl, inr, List, [], ◌∷◌, ◌++◌, set, ap, ◌∙◌, arith}
use mathlib.Core.Option.{some}
use lib.ListN.{get_elem?}
use Rattle.ray_climb.specs.declared.rule.View.{View}
use Rattle.ray_climb.specs.declared.rule.Hand.TheVariants.{Empty}
use Rattle.ray_climb.specs.Frames.{Frame}
use Rattle.ray_climb.specs.Rule.{total, times, holds, stands, todos, dones, held, hands, IsTrueHand, IsClimb}
use Rattle.ray_climb.specs.Steps.{knows, both, spent}
use Rattle.ray_climb.proofs.Sums.{total_set, total_snoc, each_set, each_snoc, times_append}
use Rattle.ray_climb.proofs.Passed.{passed_stays}

-- where the lists have the same leaves together, and no hand changes
pub regrouped : (t : Frame) (A L H : ℕ → ℕ) (views now : List View) → IsClimb t A L H views
    → ((k : ℕ) → todos k now ≡ todos k views) → ((k : ℕ) → dones k now ≡ dones k views) → ((k : ℕ) → held k now ≡ held k views) → ((i : ℕ) → hands i now ≡ hands i views)
    → ((id : ℕ) (v : View) → get_elem? now id ≡ some v → IsTrueHand t L H v.hand) → IsClimb t A L H now
regrouped t A L H views now r todo_same done_same held_same hands_same hands_true = record {
  small = r.small;
  each_once = λ k lt. let a = todo_same k in let b = done_same k in let c = held_same k in let old = r.each_once k lt in omega arith;
  bits = λ i lt b. let d = r.bits i lt b in record {
    exact = d.exact;
    free = hands_same i ∙ d.free;
    passed = passed_stays t A views now i (λ k _ _. let e = todo_same k in omega arith) d.passed;
  };
  one_hand = λ i lt. let e = hands_same i in let old = r.one_hand i lt in omega arith;
  both_bits = λ i lt inner there. r.both_bits i lt inner (let e = hands_same i in omega arith);
  true_hands = hands_true;
  moves_on = λ i lt p. elim (r.moves_on i lt (passed_stays t A now views i (λ k _ _. let e = todo_same k in omega arith) p)) [
    | inl a ↦ inl (let e = hands_same i in omega arith)
    | inr b ↦ inr b
  ];
}

module _ (t : Frame) (A L H : ℕ → ℕ) (views : List View) (id : ℕ) (v : View) (r : IsClimb t A L H views) (at : get_elem? views id ≡ some v) (free : v.hand ≡ Empty) where
  -- what was to do is cut in two
  pub splits : (front back : List ℕ) → front ++ back ≡ v.todo → IsClimb t A L H (set views id (knows front v.done Empty) ++ knows back [] Empty ∷ [])
  splits front back all =
      let w : View = knows front v.done Empty in
      let u : View = knows back [] Empty in
      let sum : (f : View → ℕ) → total f (set views id w ++ u ∷ []) + f v ≡ total f views + (f w + f u) = λ f.
      let s = total_set f views id v w at in let a = total_snoc f (set views id w) u in omega arith in
      regrouped t A L H views (set views id w ++ u ∷ []) r
      (λ k. let s = sum (λ x. times k x.todo) in let e = times_append k front back in let same = ap (times k) all in omega arith)
      (λ k. let s = sum (λ x. times k x.done) in omega arith)
      (λ k. let s = sum (λ x. holds k x.hand) in let e = ap (holds k) free in omega arith)
      (λ i. let s = sum (λ x. stands i x.hand) in let e = ap (stands i) free in omega arith)
      (each_snoc (λ x. IsTrueHand t L H x.hand) (set views id w) u tt (each_set (λ x. IsTrueHand t L H x.hand) views id w tt r.true_hands))

  -- and put together
  pub joins : (other : ℕ) (w : View) → w.hand ≡ Empty → ¬ (other ≡ id) → get_elem? (set views id (both v w)) other ≡ some w
      → IsClimb t A L H (set (set views id (both v w)) other spent)
  joins other w idle apart there =
      let b : View = both v w in
      let ws : List View = set views id b in
      let sum : (f : View → ℕ) → total f (set ws other spent) + (f v + f w) ≡ total f views + (f b + f spent) = λ f.
      let s = total_set f views id v b at in let a = total_set f ws other w spent there in omega arith in
      regrouped t A L H views (set ws other spent) r
      (λ k. let s = sum (λ x. times k x.todo) in let e = times_append k v.todo w.todo in omega arith)
      (λ k. let s = sum (λ x. times k x.done) in let e = times_append k v.done w.done in omega arith)
      (λ k. let s = sum (λ x. holds k x.hand) in let e = ap (holds k) free in let f = ap (holds k) idle in omega arith)
      (λ i. let s = sum (λ x. stands i x.hand) in let e = ap (stands i) free in let f = ap (stands i) idle in omega arith)
      (each_set (λ x. IsTrueHand t L H x.hand) ws other spent tt (each_set (λ x. IsTrueHand t L H x.hand) views id b tt r.true_hands))
