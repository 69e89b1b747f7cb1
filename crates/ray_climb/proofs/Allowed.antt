-- Each kind of step is allowed by the rule of the table.
use Rattle.std.proofs.Common.{◌≡◌, ◌≢◌, ℕ, ◌+◌, ◌*◌, ◌/◌, ◌<◌, ◌⊎◌, inl, inr, Bool, true, false, not, eqb, List, length, get_or, set, take, drop, bit_or, refl, sym, ap, ◌∙◌, subst, arith, get_or-set_same, length-set, true≢false}
use Rattle.std.proofs.lemmas.List.{set-get_or, take-append-drop}
use mathlib.Core.Option.{none, some}
use lib.ListN.{get_elem?}
use Rattle.atomic_table.specs.Table.{State, Me, step, keeps, stepped, Allows, Splits, Joins}
use Rattle.ray_climb.specs.declared.rule.View.{View}
use Rattle.ray_climb.specs.declared.rule.Half.{Half}
use Rattle.ray_climb.specs.declared.rule.Half.TheVariants.{Below, Held, Stored}
use Rattle.ray_climb.specs.declared.rule.Hand.TheVariants.{Empty, At}
use Rattle.ray_climb.specs.Frames.{Frame}
use Rattle.ray_climb.specs.Halves.{lesser_half, greater_half}
use Rattle.ray_climb.specs.Rule.{times, has, arrivals_in, lows_in, highs_in, IsTrueAt, IsTrueHand, IsClimb, HasClimb}
use Rattle.ray_climb.specs.Steps.{with_hand, begun, ended, front, back, both, spent, bit, let_go, low_stored, high_stored, low_loaded, high_loaded, arrived, Begins, StoresLow, StoresHigh, Ends, Arrives, LoadsLow, LoadsHigh}
use Rattle.ray_climb.proofs.Trees.{IsFrame}
use Rattle.ray_climb.proofs.Passed.{same_words}
use Rattle.ray_climb.proofs.Stores.{stays, ends}
use Rattle.ray_climb.proofs.Begins.{begins}
use Rattle.ray_climb.proofs.Arrives.{goes_on, stops}
use Rattle.ray_climb.proofs.Loads.{low_true, high_true}
use Rattle.ray_climb.proofs.Seats.{splits, joins}
use Rattle.ray_climb.proofs.Words.{low_in, high_in, arrivals_of, lows_only, highs_only, arrivals_only, lows_truer, highs_truer, arrivals_raised, bit_first}

-- the table after a step, where the word is one of a node's
placed : (t : Frame) (s : State (Unit {0}) View) (i x id p : ℕ) (held : List (ℕ × Unit {0})) (w : View) → p < t.nodes → HasClimb t s
    → IsClimb t (arrivals_in (set s.words i x)) (lows_in (set s.words i x)) (highs_in (set s.words i x)) (set s.views id w)
    → HasClimb t (stepped s i x id held w keeps)
placed t s i x id p held w small h r = record {
  long = length-set s.words i x ∙ h.long;
  unused = λ none. absurd (omega arith);
  rule = r;
}

div_low : (n : ℕ) → (3 * n + 1) / 3 ≡ n
div_low n = omega arith

div_bits : (n : ℕ) → 3 * n / 3 ≡ n
div_bits n = omega arith

true_or : (b : Bool) → (b ≡ true) ⊎ (b ≡ false)
true_or true = inl refl
true_or false = inr refl

-- what is so of a seat's hand
true_hand : (t : Frame) (s : State (Unit {0}) View) (id leaf node : ℕ) (low high : Half) (v : View) → HasClimb t s → get_elem? s.views id ≡ some v → v.hand ≡ At leaf node low high
    → IsTrueAt t (lows_in s.words) (highs_in s.words) leaf node low high
true_hand t s id leaf node low high v h at is = subst (λ x. IsTrueHand t (lows_in s.words) (highs_in s.words) x) is (h.rule.true_hands id v at)

-- a word that is read stays
loaded_again : (t : Frame) (s : State (Unit {0}) View) (i id : ℕ) (held : List (ℕ × Unit {0})) (w : View) → HasClimb t s
    → IsClimb t (arrivals_in s.words) (lows_in s.words) (highs_in s.words) (set s.views id w) → HasClimb t (stepped s i (get_or s.words i 0) id held w keeps)
loaded_again t s i id held w h r = subst (λ ws. HasClimb t record { words = ws; homes = s.homes; views = set s.views id w }) (sym (set-get_or s.words i 0))
    (record { long = h.long; unused = h.unused; rule = r })

-- stores by a seat whose hand is known
module _ (t : Frame) (slots id : ℕ) (me : Me (Unit {0}) View) where
  -- the low half of an inner node's box is stored
  pub stores_low_at : (leaf node x : ℕ) (high : Half) → me.0.hand ≡ At leaf node (Held x) high
      → Allows (HasClimb t) slots id me (3 * node + 1) (λ _. x) (λ _. StoresLow (step slots (3 * node + 1) x 0 none) me x)
  stores_low_at leaf node x high is s h _ at _ =
      let v : View = me.0 in
      let hand = true_hand t s id leaf node (Held x) high v h at is in
      let in_words : 3 * node + 1 < length s.words = subst (λ n. 3 * node + 1 < n) (sym h.long) (low_in t.nodes node hand.node_small) in
      let words : List ℕ = set s.words (3 * node + 1) x in
      let w : View = with_hand v (At leaf node (Stored x) high) in
      let there : lows_in words node ≡ x = get_or-set_same s.words (3 * node + 1) x 0 in_words in
      let r = stays t (arrivals_in s.words) (lows_in s.words) (highs_in s.words) (lows_in words) (highs_in s.words) s.views id v leaf node (Held x) high h.rule at is
      (lows_truer t.low s.words node x in_words hand.low_true) (same_words t.high (highs_in s.words)) (Stored x) high
      (record {
        leaf_small = hand.leaf_small;
        node_small = hand.node_small;
        own_leaf = hand.own_leaf;
        low_true = (hand.low_true, there);
        high_true = hand.high_true;
        low_first = λ _. refl;
      }) in (
        w,
        keeps,
        tt,
        placed t s (3 * node + 1) x id node me.1 w hand.node_small h (lows_only t s.words node x (set s.views id w) r),
        (λ i. (with_hand v (low_stored (sym is i)), me.1)),
      )

  -- the high half of a node's box is stored
  pub stores_high_at : (leaf node low x : ℕ) → me.0.hand ≡ At leaf node (Stored low) (Held x)
      → Allows (HasClimb t) slots id me (3 * node + 2) (λ _. x) (λ _. StoresHigh (step slots (3 * node + 2) x 0 none) me x)
  stores_high_at leaf node low x is s h _ at _ =
      let v : View = me.0 in
      let hand = true_hand t s id leaf node (Stored low) (Held x) v h at is in
      let in_words : 3 * node + 2 < length s.words = subst (λ n. 3 * node + 2 < n) (sym h.long) (high_in t.nodes node hand.node_small) in
      let words : List ℕ = set s.words (3 * node + 2) x in
      let w : View = with_hand v (At leaf node (Stored low) (Stored x)) in
      let there : highs_in words node ≡ x = get_or-set_same s.words (3 * node + 2) x 0 in_words in
      let r = stays t (arrivals_in s.words) (lows_in s.words) (highs_in s.words) (lows_in s.words) (highs_in words) s.views id v leaf node (Stored low) (Held x) h.rule at is
      (same_words t.low (lows_in s.words)) (highs_truer t.high s.words node x in_words hand.high_true) (Stored low) (Stored x)
      (record {
        leaf_small = hand.leaf_small;
        node_small = hand.node_small;
        own_leaf = hand.own_leaf;
        low_true = hand.low_true;
        high_true = (hand.high_true, there);
        low_first = λ _. refl;
      }) in (
        w,
        keeps,
        tt,
        placed t s (3 * node + 2) x id node me.1 w hand.node_small h (highs_only t s.words node x (set s.views id w) r),
        (λ i. (with_hand v (high_stored (sym is i)), me.1)),
      )

  -- and that of the root's
  pub ends_at : (leaf node low x : ℕ) → node ≡ 0 → me.0.hand ≡ At leaf node (Stored low) (Held x)
      → Allows (HasClimb t) slots id me (3 * node + 2) (λ _. x) (λ _. Ends (step slots (3 * node + 2) x 0 none) me x)
  ends_at leaf node low x root is s h _ at _ =
      let v : View = me.0 in
      let hand = true_hand t s id leaf node (Stored low) (Held x) v h at is in
      let in_words : 3 * node + 2 < length s.words = subst (λ n. 3 * node + 2 < n) (sym h.long) (high_in t.nodes node hand.node_small) in
      let words : List ℕ = set s.words (3 * node + 2) x in
      let w : View = ended v leaf in
      let there : highs_in words node ≡ x = get_or-set_same s.words (3 * node + 2) x 0 in_words in
      let r = ends t (arrivals_in s.words) (lows_in s.words) (highs_in s.words) (lows_in s.words) (highs_in words) s.views id v leaf node (Stored low) (Held x) h.rule at is
      (same_words t.low (lows_in s.words)) (highs_truer t.high s.words node x in_words hand.high_true) root
      (subst (λ n. (lows_in s.words n ≡ t.low n) × (highs_in words n ≡ t.high n)) root (hand.low_true.1 ∙ hand.low_true.0, there ∙ hand.high_true)) in (
        w,
        keeps,
        tt,
        placed t s (3 * node + 2) x id node me.1 w hand.node_small h (highs_only t s.words node x (set s.views id w) r),
        (λ i. (let_go v (sym is i), me.1)),
      )

-- steps by a seat whose hand is known
module _ (t : Frame) (ok : IsFrame t) (slots id : ℕ) (me : Me (Unit {0}) View) where
  -- the first store of a climb
  pub begins_at : (leaf node low high : ℕ) → node ≡ t.node_of leaf → me.0.hand ≡ Empty → leaf < t.leaves → 0 < times leaf me.0.todo
      → low ≡ t.low node → high ≡ t.high node
      → Allows (HasClimb t) slots id me (3 * node + 1) (λ _. low) (λ _. Begins leaf high (step slots (3 * node + 1) low 0 none) me low)
  begins_at leaf node low high node_is free small listed low_is high_is s h _ at _ =
      let v : View = me.0 in
      let within : node < t.nodes = subst (λ n. n < t.nodes) (sym node_is) (ok.leaf_small leaf small) in
      let in_words : 3 * node + 1 < length s.words = subst (λ n. 3 * node + 1 < n) (sym h.long) (low_in t.nodes node within) in
      let words : List ℕ = set s.words (3 * node + 1) low in
      let w : View = begun v leaf (At leaf node (Stored low) (Held high)) in
      let there : lows_in words node ≡ low = get_or-set_same s.words (3 * node + 1) low 0 in_words in
      let r : IsClimb t (arrivals_in s.words) (lows_in words) (highs_in s.words) (set s.views id w) =
      subst (λ n. IsClimb t (arrivals_in s.words) (lows_in words) (highs_in s.words) (set s.views id (begun v leaf (At leaf n (Stored low) (Held high))))) (sym node_is)
      (begins t ok (arrivals_in s.words) (lows_in s.words) (highs_in s.words) (lows_in words) s.views id v leaf low high h.rule at free small listed
      (lows_truer t.low s.words node low in_words low_is)
      (subst (λ n. lows_in words n ≡ low) node_is there) (low_is ∙ ap t.low node_is) (high_is ∙ ap t.high node_is)) in (
        w,
        keeps,
        tt,
        placed t s (3 * node + 1) low id node me.1 w within h (lows_only t s.words node low (set s.views id w) r),
        (λ i. (begun v leaf (At leaf (sym (div_low node) i) (Stored low) (Held high)), me.1)),
      )

  -- a child's bit is set at its parent
  arrives_to : (leaf node low high : ℕ) → node ≢ 0 → me.0.hand ≡ At leaf node (Stored low) (Stored high)
      → Allows (HasClimb t) slots id me (3 * t.parent node) (λ n. bit_or n (bit (t.side node))) (Arrives (step slots (3 * t.parent node) (bit (t.side node)) 0 none) me)
  arrives_to leaf node low high below is s h _ at _ =
      let v : View = me.0 in
      let p : ℕ = t.parent node in
      let side : Bool = t.side node in
      let hand = true_hand t s id leaf node (Stored low) (Stored high) v h at is in
      let within : p < t.nodes = ok.parent_small node hand.node_small below in
      let in_words : 3 * p < length s.words = subst (λ n. 3 * p < n) (sym h.long) (arrivals_of t.nodes p within) in
      let found : ℕ = arrivals_in s.words p in
      let x : ℕ = bit_or found (bit side) in
      let words : List ℕ = set s.words (3 * p) x in
      let raised = arrivals_raised s.words p side in_words (h.rule.small p within) in
      let other : has found (eqb (bit side) 1) ≡ has found (not side) = ap (has found) (bit_first side) in
      elim (true_or (has found (not side))) [
        | inl a ↦ (let w : View = with_hand v (At leaf p (Below node low) (Below node high)) in
            let r = goes_on t ok (arrivals_in s.words) (lows_in s.words) (highs_in s.words) (arrivals_in words) s.views id v leaf node low high h.rule at is below raised a in (
              w,
              keeps,
              tt,
              placed t s (3 * p) x id p me.1 w within h (arrivals_only t s.words p x (set s.views id w) r),
              (λ i. (arrived v (sym (div_bits p) i) (sym (other ∙ a) i) (sym is i), me.1)),
            ))
        | inr b ↦ (let w : View = ended v leaf in
            let r = stops t ok (arrivals_in s.words) (lows_in s.words) (highs_in s.words) (arrivals_in words) s.views id v leaf node low high h.rule at is below raised
            (λ e. true≢false (sym e ∙ b)) in (
              w,
              keeps,
              tt,
              placed t s (3 * p) x id p me.1 w within h (arrivals_only t s.words p x (set s.views id w) r),
              (λ i. (arrived v (sym (div_bits p) i) (sym (other ∙ b) i) (sym is i), me.1)),
            ))
      ]

  pub arrives_at : (leaf node low high parent : ℕ) (right : Bool) → node ≢ 0 → me.0.hand ≡ At leaf node (Stored low) (Stored high)
      → parent ≡ t.parent node → right ≡ t.side node
      → Allows (HasClimb t) slots id me (3 * parent) (λ n. bit_or n (bit right)) (Arrives (step slots (3 * parent) (bit right) 0 none) me)
  arrives_at leaf node low high parent right below is parent_is right_is =
      subst (λ (z : ℕ × Bool). Allows (HasClimb t) slots id me (3 * z.0) (λ n. bit_or n (bit z.1)) (Arrives (step slots (3 * z.0) (bit z.1) 0 none) me))
      (λ i. (sym parent_is i, sym right_is i)) (arrives_to leaf node low high below is)

  -- a half of the sibling's box is loaded
  pub loads_low_at : (leaf node child x other : ℕ) (high : Half) → me.0.hand ≡ At leaf node (Below child x) high → other ≡ t.child node (not (t.side child))
      → Allows (HasClimb t) slots id me (3 * other + 1) (λ n. n) (LoadsLow (step slots (3 * other + 1) 0 0 none) me)
  loads_low_at leaf node child x other high is other_is s h _ at _ =
      let v : View = me.0 in
      let hand = true_hand t s id leaf node (Below child x) high v h at is in
      let found : ℕ = lows_in s.words other in
      let half : ℕ = lesser_half x found in
      let w : View = with_hand v (At leaf node (Held half) high) in
      let half_true : half ≡ t.low node = low_true t ok (arrivals_in s.words) (lows_in s.words) (highs_in s.words) s.views id v leaf node child (Below child x) high h.rule at is
      hand.low_true.0 hand.low_true.1 hand.low_true.2 x found hand.low_true.3 (ap (lows_in s.words) other_is) in
      let r = stays t (arrivals_in s.words) (lows_in s.words) (highs_in s.words) (lows_in s.words) (highs_in s.words) s.views id v leaf node (Below child x) high h.rule at is
      (same_words t.low (lows_in s.words)) (same_words t.high (highs_in s.words)) (Held half) high
      (record {
        leaf_small = hand.leaf_small;
        node_small = hand.node_small;
        own_leaf = hand.own_leaf;
        low_true = half_true;
        high_true = hand.high_true;
        low_first = hand.low_first;
      }) in
      (w, keeps, tt, loaded_again t s (3 * other + 1) id me.1 w h r, (λ i. (with_hand v (low_loaded found (sym is i)), me.1)))

  pub loads_high_at : (leaf node child x other : ℕ) (low : Half) → me.0.hand ≡ At leaf node low (Below child x) → other ≡ t.child node (not (t.side child))
      → Allows (HasClimb t) slots id me (3 * other + 2) (λ n. n) (LoadsHigh (step slots (3 * other + 2) 0 0 none) me)
  loads_high_at leaf node child x other low is other_is s h _ at _ =
      let v : View = me.0 in
      let hand = true_hand t s id leaf node low (Below child x) v h at is in
      let found : ℕ = highs_in s.words other in
      let half : ℕ = greater_half x found in
      let w : View = with_hand v (At leaf node low (Held half)) in
      let half_true : half ≡ t.high node = high_true t ok (arrivals_in s.words) (lows_in s.words) (highs_in s.words) s.views id v leaf node child low (Below child x) h.rule at is
      hand.high_true.0 hand.high_true.1 hand.high_true.2 x found hand.high_true.3 (ap (highs_in s.words) other_is) in
      let r = stays t (arrivals_in s.words) (lows_in s.words) (highs_in s.words) (lows_in s.words) (highs_in s.words) s.views id v leaf node low (Below child x) h.rule at is
      (same_words t.low (lows_in s.words)) (same_words t.high (highs_in s.words)) low (Held half)
      (record {
        leaf_small = hand.leaf_small;
        node_small = hand.node_small;
        own_leaf = hand.own_leaf;
        low_true = hand.low_true;
        high_true = half_true;
        low_first = λ e. absurd (true≢false (sym e));
      }) in
      (w, keeps, tt, loaded_again t s (3 * other + 2) id me.1 w h r, (λ i. (with_hand v (high_loaded found (sym is i)), me.1)))

-- a split
pub splits_at : (t : Frame) (id keep : ℕ) (v : View) → v.hand ≡ Empty → Splits (HasClimb t) id v (front keep v) (back keep v)
splits_at t id keep v free s h at = record {
  long = h.long;
  unused = h.unused;
  rule = splits t (arrivals_in s.words) (lows_in s.words) (highs_in s.words) s.views id v h.rule at free (take keep v.todo) (drop keep v.todo) (take-append-drop keep v.todo);
}

-- a join
pub joins_at : (t : Frame) (id other : ℕ) (v w : View) → v.hand ≡ Empty → w.hand ≡ Empty → Joins (HasClimb t) id v other w (both v w) spent
joins_at t id other v w free idle s h at apart there = record {
  long = h.long;
  unused = h.unused;
  rule = joins t (arrivals_in s.words) (lows_in s.words) (highs_in s.words) s.views id v h.rule at free other w idle apart there;
}

-- the same, with what the first step of a climb is told by other names
pub begins_told : (t : Frame) → IsFrame t → (slots id : ℕ) (me : Me (Unit {0}) View) (leaf node low high told_leaf told_high : ℕ) → told_leaf ≡ leaf → told_high ≡ high
    → node ≡ t.node_of leaf → me.0.hand ≡ Empty → leaf < t.leaves → 0 < times leaf me.0.todo → low ≡ t.low node → high ≡ t.high node
    → Allows (HasClimb t) slots id me (3 * node + 1) (λ _. low) (λ _. Begins told_leaf told_high (step slots (3 * node + 1) low 0 none) me low)
begins_told t ok slots id me leaf node low high told_leaf told_high leaf_is high_is node_is free small listed low_true high_true =
    subst (λ (z : ℕ × ℕ). Allows (HasClimb t) slots id me (3 * node + 1) (λ _. low) (λ _. Begins z.0 z.1 (step slots (3 * node + 1) low 0 none) me low))
    (λ i. (sym leaf_is i, sym high_is i)) (begins_at t ok slots id me leaf node low high node_is free small listed low_true high_true)

-- and a bit by another name
pub arrives_told : (t : Frame) → IsFrame t → (slots id : ℕ) (me : Me (Unit {0}) View) (leaf node low high parent told : ℕ) (right : Bool) → told ≡ bit right → node ≢ 0
    → me.0.hand ≡ At leaf node (Stored low) (Stored high) → parent ≡ t.parent node → right ≡ t.side node
    → Allows (HasClimb t) slots id me (3 * parent) (λ n. bit_or n told) (Arrives (step slots (3 * parent) told 0 none) me)
arrives_told t ok slots id me leaf node low high parent told right told_is below is parent_is right_is =
    subst (λ (z : ℕ). Allows (HasClimb t) slots id me (3 * parent) (λ n. bit_or n z) (Arrives (step slots (3 * parent) z 0 none) me))
    (sym told_is) (arrives_at t ok slots id me leaf node low high parent right below is parent_is right_is)

-- and the sibling by the parent's name for it
pub loads_low_told : (t : Frame) → IsFrame t → (slots id : ℕ) (me : Me (Unit {0}) View) (leaf node child x other : ℕ) (high : Half) → me.0.hand ≡ At leaf node (Below child x) high
    → node ≡ t.parent child → other ≡ t.child (t.parent child) (not (t.side child))
    → Allows (HasClimb t) slots id me (3 * other + 1) (λ n. n) (LoadsLow (step slots (3 * other + 1) 0 0 none) me)
loads_low_told t ok slots id me leaf node child x other high is node_is other_is =
    loads_low_at t ok slots id me leaf node child x other high is (other_is ∙ ap (λ n. t.child n (not (t.side child))) (sym node_is))

pub loads_high_told : (t : Frame) → IsFrame t → (slots id : ℕ) (me : Me (Unit {0}) View) (leaf node child x other : ℕ) (low : Half) → me.0.hand ≡ At leaf node low (Below child x)
    → node ≡ t.parent child → other ≡ t.child (t.parent child) (not (t.side child))
    → Allows (HasClimb t) slots id me (3 * other + 2) (λ n. n) (LoadsHigh (step slots (3 * other + 2) 0 0 none) me)
loads_high_told t ok slots id me leaf node child x other low is node_is other_is =
    loads_high_at t ok slots id me leaf node child x other low is (other_is ∙ ap (λ n. t.child n (not (t.side child))) (sym node_is))
