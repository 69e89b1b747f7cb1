-- The table at the start keeps the climb rule, and at the end it has the true boxes.
use Rattle.std.proofs.Common.{◌≡◌, ℕ, zero, suc, ◌+◌, ◌*◌, ◌<◌, ◌≤◌, Bool, true, false, List, [], ◌∷◌, length, get_or, replicate, refl, sym, ap, ◌∙◌, subst, arith, true≢false}
use Rattle.std.specs.List.{range_with_len}
use Rattle.std.proofs.Math.ListN.{length-replicate}
use mathlib.Core.Option.{some, some-injective, some-ne-none}
use mathlib.Core.Logic.{dite}
use native.Mathlib.Decide.{ℕ_discrete}
use lib.ListN.{get_elem?}
use Rattle.atomic_table.specs.Table.{State, opening, Final, Seen}
use Rattle.ray_climb.specs.declared.rule.View.{View}
use Rattle.ray_climb.specs.Frames.{Frame}
use Rattle.ray_climb.specs.Rule.{times, has, words_of, arrivals_in, lows_in, highs_in, IsExact, IsPassed, IsTrueHand, IsClimb, HasClimb}
use Rattle.ray_climb.specs.Steps.{first_view}
use Rattle.ray_tree.specs.Trees.{leaves_of}
use Rattle.ray_climb.specs.Refits.{RefitValue, frame_of}
use Rattle.ray_climb.specs.Ready.{IsReady, AreExact}
use Rattle.ray_climb.specs.Seats.{HasEachLeaf}
use Rattle.ray_climb.proofs.Framed.{is_frame}
use Rattle.ray_climb.proofs.Trees.{IsFrame}
use Rattle.ray_climb.proofs.Sums.{alike, unlike}
use Rattle.ray_climb.proofs.Passed.{inner_passed, leaf_passed}
use Rattle.ray_climb.proofs.Closes.{all_exact}

-- a list of zeros
zeros : (n i : ℕ) → get_or (replicate {A = ℕ} n 0) i 0 ≡ 0
zeros zero i = refl
zeros (suc n) zero = refl
zeros (suc n) (suc i) = zeros n i

-- each number of a range stands there once
pub times_range : (k a n : ℕ) → a ≤ k → k < a + n → times k (range_with_len a n) ≡ 1
times_range k a zero le lt = absurd (omega arith)
times_range k a (suc n) le lt = dite (ℕ_discrete a k)
    (λ e. let one = alike a k e in let z = past k (a + 1) n (omega arith) in omega arith)
    (λ ne. let z = unlike a k ne in let r = times_range k (a + 1) n (omega arith) (omega arith) in omega arith)
  where
    past : (k a n : ℕ) → k < a → times k (range_with_len a n) ≡ 0
    past k a zero lt = refl
    past k a (suc n) lt = let z = unlike a k (λ e. omega arith) in let r = past k (a + 1) n (omega arith) in omega arith

only_first : (F : View → Type 0) (v : View) → F v → (id : ℕ) (w : View) → get_elem? (v ∷ []) id ≡ some w → F w
only_first F v here zero w at = subst F (some-injective v w at) here
only_first F v here (suc id) w at = absurd (some-ne-none w (sym at))

no_bit : (b : Bool) → has 0 b ≡ true → ⊥
no_bit true e = true≢false (sym e)
no_bit false e = true≢false (sym e)

opens_by : (t : Frame) → IsFrame t → (A L H : ℕ → ℕ) → ((i : ℕ) → A i ≡ 0) → IsClimb t A L H (first_view t.leaves ∷ [])
opens_by t ok A L H zero_bits = record {
  small = λ i lt. subst (λ x. x < 4) (sym (zero_bits i)) (omega arith);
  each_once = λ k lt. let one = times_range k 0 t.leaves (omega arith) (omega arith) in omega arith;
  bits = λ i lt b. absurd (no_bit (t.side i) (subst (λ x. has x (t.side i) ≡ true) (zero_bits (t.parent i)) b.1));
  one_hand = λ i lt. omega arith;
  both_bits = λ i lt inner there. absurd (omega arith);
  true_hands = only_first (λ v. IsTrueHand t L H v.hand) (first_view t.leaves) tt;
  moves_on = λ i lt p. absurd (by_kind i lt (t.inner i) refl p);
}
  where
    by_kind : (i : ℕ) → i < t.nodes → (b : Bool) → t.inner i ≡ b → IsPassed t A (first_view t.leaves ∷ []) i → ⊥
    by_kind i lt true inner p = absurd (no_bit false (subst (λ x. has x false ≡ true) (zero_bits i) (inner_passed t A (first_view t.leaves ∷ []) i inner p).0))
    by_kind i lt false leaf p =
        let k = ok.leaf_named i lt leaf in
        let none = leaf_passed t A (first_view t.leaves ∷ []) i leaf p k.0 k.1 k.2 in
        let one = times_range k.0 0 t.leaves (omega arith) (let s = k.1 in omega arith) in
        absurd (omega arith)

pub opens : (t : Frame) → IsFrame t → (ws : List ℕ) → ws ≡ replicate (words_of t.nodes) 0 → HasClimb t (opening ws [] (first_view t.leaves))
opens t ok ws is = record {
  long = ap length is ∙ length-replicate (words_of t.nodes) 0;
  unused = λ _. at_zero 0;
  rule = opens_by t ok (arrivals_in ws) (lows_in ws) (highs_in ws) (λ i. at_zero (3 * i));
}
  where
    at_zero : (i : ℕ) → get_or ws i 0 ≡ 0
    at_zero i = ap (λ (l : List ℕ). get_or l i 0) is ∙ zeros (words_of t.nodes) i

-- where a seat has done each leaf, each node's words are exact
pub closes : (t : Frame) → IsFrame t → (id : ℕ) (v : View) (ws : List ℕ) (xs : List (Unit {0})) → Final (Seen (HasClimb t) id v) ws xs
    → ((k : ℕ) → k < t.leaves → times k v.done ≡ 1) → (i : ℕ) → i < t.nodes → IsExact t (lows_in ws) (highs_in ws) i
closes t ok id v ws xs final all i lt =
    let s : State (Unit {0}) View = final.0 in
    subst (λ l. IsExact t (lows_in l) (highs_in l) i) final.2
    (all_exact t ok (arrivals_in s.words) (lows_in s.words) (highs_in s.words) s.views id v final.1.0.rule final.1.1 all i lt)

-- the same of a tree and its items
pub closes_at : (key r : RefitValue) → key ≡ r → IsReady r → (id : ℕ) (v : View) (done ws : List ℕ) (xs : List (Unit {0})) → Final (Seen (HasClimb (frame_of key)) id v) ws xs
    → v.done ≡ done → HasEachLeaf r.tree done → AreExact ws r
closes_at key r keyed ready id v done ws xs final is each =
    let f = subst (λ k. Final (Seen (HasClimb (frame_of k)) id v) ws xs) keyed final in
    let all : (k : ℕ) → k < length (leaves_of r.tree) → times k v.done ≡ 1 = λ k lt. ap (times k) is ∙ each.once k lt in
    let exact = closes (frame_of r) (is_frame r ready.shape ready.activity ready.boxes) id v ws xs f all in
    record { low = λ n lt. (exact n lt).0; high = λ n lt. (exact n lt).1 }
