-- The bit of a child keeps the climb rule: the hand goes on where the other bit was there, and else its leaf is
-- done.
use Rattle.std.proofs.Common.{◌≡◌, ◌≢◌, ℕ, ◌+◌, ◌<◌, ◌≤◌, ◌⊎◌, inl, inr, Bool, true, false, not, List, [], ◌∷◌, set, refl, sym, ap, ◌∙◌, subst, arith, true≢false}
use mathlib.Core.Option.{some}
use mathlib.Core.Logic.{dite}
use native.Mathlib.Decide.{ℕ_discrete}
use lib.ListN.{get_elem?}
use Rattle.ray_climb.specs.declared.rule.View.{View}
use Rattle.ray_climb.specs.declared.rule.Half.TheVariants.{Below, Stored}
use Rattle.ray_climb.specs.declared.rule.Hand.TheVariants.{At}
use Rattle.ray_climb.specs.Frames.{Frame}
use Rattle.ray_climb.specs.Rule.{times, holds, stands, todos, held, hands, has, IsExact, IsPassed, IsTrueAt, IsTrueHand, HasArrived, IsDone, IsClimb}
use Rattle.ray_climb.specs.Steps.{with_hand, ended}
use Rattle.ray_climb.proofs.Trees.{IsFrame}
use Rattle.ray_climb.proofs.Sums.{total_set, part_le, each_set, alike, unlike, times_append}
use Rattle.ray_climb.proofs.Passed.{passed_stays, passed_more, passed_inner, passed_leaf, inner_passed}

-- one bit more at a node
pub record IsRaised (A B : ℕ → ℕ) (p : ℕ) (s : Bool) : Type 0 where
  pub small : B p < 4
  pub here : has (B p) s ≡ true
  pub other : has (B p) (not s) ≡ has (A p) (not s)
  pub same : (j : ℕ) → j ≢ p → B j ≡ A j

-- a bit that was there is there
pub bit_stays : (A B : ℕ → ℕ) (p : ℕ) (s : Bool) → IsRaised A B p s → (i : ℕ) (b : Bool) → has (A i) b ≡ true → has (B i) b ≡ true
bit_stays A B p s more i b is = dite (ℕ_discrete i p)
    (λ e. subst (λ x. has (B x) b ≡ true) (sym e) (at_p s b more.here more.other (subst (λ x. has (A x) b ≡ true) e is)))
    (λ ne. subst (λ x. has x b ≡ true) (sym (more.same i ne)) is)
  where
    at_p : (s b : Bool) → has (B p) s ≡ true → has (B p) (not s) ≡ has (A p) (not s) → has (A p) b ≡ true → has (B p) b ≡ true
    at_p true true here other is = here
    at_p true false here other is = other ∙ is
    at_p false true here other is = other ∙ is
    at_p false false here other is = here

either_bit : (s b : Bool) → (s ≡ b) ⊎ (not s ≡ b)
either_bit true true = inl refl
either_bit true false = inr refl
either_bit false true = inr refl
either_bit false false = inl refl

both_of : (a : ℕ) (s : Bool) → has a s ≡ true → has a (not s) ≡ true → (has a false ≡ true) × (has a true ≡ true)
both_of a true x y = (y, x)
both_of a false x y = (x, y)

one_of_both : (a : ℕ) (s : Bool) → (has a false ≡ true) × (has a true ≡ true) → has a s ≡ true
one_of_both a true x = x.1
one_of_both a false x = x.0

module _ (t : Frame) (ok : IsFrame t) (A L H B : ℕ → ℕ) (views : List View) (id : ℕ) (v : View) (leaf i low high : ℕ)
    (r : IsClimb t A L H views) (at : get_elem? views id ≡ some v) (is : v.hand ≡ At leaf i (Stored low) (Stored high))
    (below : i ≢ 0) (more : IsRaised A B (t.parent i) (t.side i)) where
  hand : IsTrueAt t L H leaf i (Stored low) (Stored high)
  hand = subst (λ h. IsTrueHand t L H h) is (r.true_hands id v at)

  small : i < t.nodes
  small = hand.node_small

  exact : IsExact t L H i
  exact = (hand.low_true.1 ∙ hand.low_true.0, hand.high_true.1 ∙ hand.high_true.0)

  here : 0 < hands i views
  here = let p = part_le (λ u. stands i u.hand) views id v at in let e = ap (stands i) is in let one = alike i i refl in omega arith

  held_here : held leaf views ≡ 1
  held_here =
      let p = part_le (λ u. holds leaf u.hand) views id v at in
      let e = ap (holds leaf) is in
      let one = alike leaf leaf refl in
      let old = r.each_once leaf hand.leaf_small in
      omega arith

  -- the node is passed
  passed_by_case : (b : Bool) → t.inner i ≡ b → IsPassed t A views i
  passed_by_case true inner = passed_inner t A views i inner (r.both_bits i small inner here)
  passed_by_case false inner =
      passed_leaf t A views i inner (λ k lt e.
      let same : k ≡ leaf = ok.leaf_only k leaf lt hand.leaf_small (e ∙ sym (hand.own_leaf inner)) in
      let none : todos leaf views ≡ 0 = let one = held_here in let old = r.each_once leaf hand.leaf_small in omega arith in
      ap (λ x. todos x views) same ∙ none)

  passed : IsPassed t A views i
  passed = passed_by_case (t.inner i) refl

  -- its bit isn't there yet
  absent : has (A (t.parent i)) (t.side i) ≡ true → ⊥
  absent b = let d = r.bits i small (below, b) in let free = d.free in let one = here in absurd (omega arith)

  -- so there is no hand at the parent
  no_hand : hands (t.parent i) views ≡ 0
  no_hand = dite (ℕ_discrete (hands (t.parent i) views) 0) (λ e. e)
      (λ ne. absurd (absent (one_of_both (A (t.parent i)) (t.side i)
      (r.both_bits (t.parent i) (ok.parent_small i small below) (ok.parent_inner i small below) (let n : hands (t.parent i) views ≢ 0 = ne in omega arith)))))

  -- and the parent isn't passed
  parent_waits : IsPassed t A views (t.parent i) → ⊥
  parent_waits p = absent (one_of_both (A (t.parent i)) (t.side i) (inner_passed t A views (t.parent i) (ok.parent_inner i small below) p))

  apart : i ≢ t.parent i
  apart e = parent_waits (subst (λ x. IsPassed t A views x) e passed)

  -- another node's bit was there if it is there now
  bit_was : (j : ℕ) → j < t.nodes → j ≢ i → HasArrived t B j → HasArrived t A j
  bit_was j lt ne b = (
    b.0,
    dite (ℕ_discrete (t.parent j) (t.parent i))
        (λ e. elim (either_bit (t.side i) (t.side j)) [
          | inl s ↦ absurd (ne (sym (ok.child_is j lt b.0) ∙ (λ x. t.child (e x) (sym s x)) ∙ ok.child_is i small below))
          | inr s ↦ subst (λ x. has (A x) (t.side j) ≡ true) (sym e)
              (subst (λ x. has (A (t.parent i)) x ≡ true) s
              (sym more.other ∙ subst (λ x. has (B (t.parent i)) x ≡ true) (sym s) (subst (λ x. has (B x) (t.side j) ≡ true) e b.1)))
        ])
        (λ other. subst (λ x. has x (t.side j) ≡ true) (more.same (t.parent j) other) b.1),
  )

  bit_kept : (j : ℕ) → HasArrived t A j → HasArrived t B j
  bit_kept j b = (b.0, bit_stays A B (t.parent i) (t.side i) more (t.parent j) (t.side j) b.1)

  arrived : HasArrived t B i
  arrived = (below, more.here)

  passed_kept : (j : ℕ) → IsPassed t A views j → IsPassed t B views j
  passed_kept j p =
      passed_more t A B views j (bit_stays A B (t.parent i) (t.side i) more j false) (bit_stays A B (t.parent i) (t.side i) more j true) p

  passed_was : (j : ℕ) → j ≢ t.parent i → IsPassed t B views j → IsPassed t A views j
  passed_was j ne p =
      passed_more t B A views j (λ b. subst (λ x. has x false ≡ true) (more.same j ne) b) (λ b. subst (λ x. has x true ≡ true) (more.same j ne) b) p

  -- a done node stays done where no hand comes to it
  done_stays : (views' : List View) → ((k : ℕ) → todos k views' ≡ todos k views) → ((j : ℕ) → j ≢ t.parent i → hands j views' ≤ hands j views)
      → (j : ℕ) → j ≢ t.parent i → IsDone t A L H views j → IsDone t B L H views' j
  done_stays views' todo_same fewer j ne d = record {
    exact = d.exact;
    free = let f = d.free in let le = fewer j ne in omega arith;
    passed = passed_kept' j d.passed;
  }
    where
      passed_kept' : (j : ℕ) → IsPassed t A views j → IsPassed t B views' j
      passed_kept' j p = passed_stays t B views views' j (λ k _ _. let e = todo_same k in omega arith) (passed_kept j p)

  -- the hand goes on to the parent, with the halves of the child
  pub goes_on : has (A (t.parent i)) (not (t.side i)) ≡ true
      → IsClimb t B L H (set views id (with_hand v (At leaf (t.parent i) (Below i low) (Below i high))))
  goes_on other =
      let p : ℕ = t.parent i in
      let w : View = with_hand v (At leaf p (Below i low) (Below i high)) in
      let now : List View = set views id w in
      let todo_same : (k : ℕ) → todos k now ≡ todos k views = λ k. let s = total_set (λ u. times k u.todo) views id v w at in omega arith in
      let sum : (j : ℕ) → hands j now + stands j v.hand ≡ hands j views + stands j w.hand = λ j. total_set (λ u. stands j u.hand) views id v w at in
      let fewer : (j : ℕ) → j ≢ p → hands j now ≤ hands j views = λ j ne. let s = sum j in let z = unlike p j (λ q. ne (sym q)) in omega arith in
      let others : (j : ℕ) → j ≢ p → j ≢ i → hands j now ≡ hands j views = λ j ne mine.
      let s = sum j in let z = unlike p j (λ q. ne (sym q)) in let e = ap (stands j) is in let y = unlike i j (λ q. mine (sym q)) in omega arith in
      let at_p : hands p now ≡ 1 = let s = sum p in let z = alike p p refl in let e = ap (stands p) is in let y = unlike i p apart in let none = no_hand in omega arith in
      let at_i : hands i now ≡ 0 = let s = sum i in let z = unlike p i (λ q. apart (sym q)) in let e = ap (stands i) is in let y = alike i i refl in let old = r.one_hand i small in omega arith in
      record {
        small = λ j lt. dite (ℕ_discrete j p) (λ e. subst (λ x. B x < 4) (sym e) more.small) (λ ne. subst (λ x. x < 4) (sym (more.same j ne)) (r.small j lt));
        each_once = λ k lt.
            let a = todo_same k in
            let b = total_set (λ u. times k u.done) views id v w at in
            let c = total_set (λ u. holds k u.hand) views id v w at in
            let e = ap (holds k) is in
            let old = r.each_once k lt in
            omega arith;
        bits = λ j lt b. dite (ℕ_discrete j i)
            (λ e. subst (λ x. IsDone t B L H now x) (sym e) (record {
              exact = exact;
              free = at_i;
              passed = passed_stays t B views now i (λ k _ _. let e = todo_same k in omega arith) (passed_kept i passed);
            }))
            (λ ne. let d = r.bits j lt (bit_was j lt ne b) in
            done_stays now todo_same fewer j (λ e. parent_waits (subst (λ x. IsPassed t A views x) e d.passed)) d);
        one_hand = λ j lt. dite (ℕ_discrete j p) (λ e. let one = at_p in let same = ap (λ x. hands x now) e in omega arith)
            (λ ne. let e = fewer j ne in let old = r.one_hand j lt in omega arith);
        both_bits = λ j lt inner there. dite (ℕ_discrete j p)
            (λ e. subst (λ x. (has (B x) false ≡ true) × (has (B x) true ≡ true)) (sym e) (both_of (B p) (t.side i) more.here (more.other ∙ other)))
            (λ ne. let b = r.both_bits j lt inner (let e = fewer j ne in omega arith) in
            (bit_stays A B p (t.side i) more j false b.0, bit_stays A B p (t.side i) more j true b.1));
        true_hands = each_set (λ u. IsTrueHand t L H u.hand) views id w
            (record {
              leaf_small = hand.leaf_small;
              node_small = ok.parent_small i small below;
              own_leaf = λ leaf. absurd (true≢false (sym (ok.parent_inner i small below) ∙ leaf));
              low_true = (small, below, refl, hand.low_true.0);
              high_true = (small, below, refl, hand.high_true.0);
              low_first = λ e. absurd (true≢false (sym e));
            })
            r.true_hands;
        moves_on = λ j lt q. dite (ℕ_discrete j p) (λ e. inl (let one = at_p in let same = ap (λ x. hands x now) e in omega arith))
            (λ ne. dite (ℕ_discrete j i) (λ e. inr (inl (subst (λ x. HasArrived t B x) (sym e) arrived)))
            (λ mine. elim (r.moves_on j lt (passed_was j ne (passed_stays t B now views j (λ k _ _. let e = todo_same k in omega arith) q))) [
              | inl a ↦ inl (let e = others j ne mine in omega arith)
              | inr b ↦ elim b [ inl c ↦ inr (inl (bit_kept j c)) | inr d ↦ inr (inr d) ]
            ]));
      }

  -- or its leaf is done
  pub stops : (has (A (t.parent i)) (not (t.side i)) ≡ true → ⊥) → IsClimb t B L H (set views id (ended v leaf))
  stops alone =
      let p : ℕ = t.parent i in
      let w : View = ended v leaf in
      let now : List View = set views id w in
      let todo_same : (k : ℕ) → todos k now ≡ todos k views = λ k. let s = total_set (λ u. times k u.todo) views id v w at in omega arith in
      let sum : (j : ℕ) → hands j now + stands j v.hand ≡ hands j views = λ j. let s = total_set (λ u. stands j u.hand) views id v w at in omega arith in
      let fewer : (j : ℕ) → hands j now ≤ hands j views = λ j. let s = sum j in omega arith in
      let others : (j : ℕ) → j ≢ i → hands j now ≡ hands j views = λ j mine.
      let s = sum j in let e = ap (stands j) is in let y = unlike i j (λ q. mine (sym q)) in omega arith in
      let at_i : hands i now ≡ 0 = let s = sum i in let e = ap (stands i) is in let y = alike i i refl in let old = r.one_hand i small in omega arith in
      record {
        small = λ j lt. dite (ℕ_discrete j p) (λ e. subst (λ x. B x < 4) (sym e) more.small) (λ ne. subst (λ x. x < 4) (sym (more.same j ne)) (r.small j lt));
        each_once = λ k lt.
            let a = todo_same k in
            let b = total_set (λ u. times k u.done) views id v w at in
            let c = total_set (λ u. holds k u.hand) views id v w at in
            let e = ap (holds k) is in
            let longer = times_append k v.done (leaf ∷ []) in
            let old = r.each_once k lt in
            omega arith;
        bits = λ j lt b. dite (ℕ_discrete j i)
            (λ e. subst (λ x. IsDone t B L H now x) (sym e) (record {
              exact = exact;
              free = at_i;
              passed = passed_stays t B views now i (λ k _ _. let e = todo_same k in omega arith) (passed_kept i passed);
            }))
            (λ ne. let d = r.bits j lt (bit_was j lt ne b) in
            done_stays now todo_same (λ x _. fewer x) j (λ e. parent_waits (subst (λ x. IsPassed t A views x) e d.passed)) d);
        one_hand = λ j lt. let e = fewer j in let old = r.one_hand j lt in omega arith;
        both_bits = λ j lt inner there.
            let b = r.both_bits j lt inner (let e = fewer j in omega arith) in
            (bit_stays A B p (t.side i) more j false b.0, bit_stays A B p (t.side i) more j true b.1);
        true_hands = each_set (λ u. IsTrueHand t L H u.hand) views id w tt r.true_hands;
        moves_on = λ j lt q. dite (ℕ_discrete j p)
            (λ e. absurd (alone (sym more.other ∙ one_of_both (B p) (not (t.side i))
            (inner_passed t B now p (ok.parent_inner i small below) (subst (λ x. IsPassed t B now x) e q)))))
            (λ ne. dite (ℕ_discrete j i) (λ e. inr (inl (subst (λ x. HasArrived t B x) (sym e) arrived)))
            (λ mine. elim (r.moves_on j lt (passed_was j ne (passed_stays t B now views j (λ k _ _. let e = todo_same k in omega arith) q))) [
              | inl a ↦ inl (let e = others j mine in omega arith)
              | inr b ↦ elim b [ inl c ↦ inr (inl (bit_kept j c)) | inr d ↦ inr (inr d) ]
            ]));
      }
