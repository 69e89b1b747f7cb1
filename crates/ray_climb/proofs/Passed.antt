-- What stays of the climb rule where words and views change: lemmas for all kinds of step.
use Rattle.std.proofs.Common.{◌≡◌, ℕ, ◌<◌, ◌≤◌, ◌⊎◌, inl, inr, Bool, true, false, List, sym, ◌∙◌, subst, arith}
use Rattle.ray_climb.specs.declared.rule.View.{View}
use Rattle.ray_climb.specs.declared.rule.Half.{Half}
use Rattle.ray_climb.specs.declared.rule.Half.TheVariants.{Below, Held, Stored}
use Rattle.ray_climb.specs.declared.rule.Hand.{Hand}
use Rattle.ray_climb.specs.declared.rule.Hand.TheVariants.{Empty, At}
use Rattle.ray_climb.specs.Frames.{Frame}
use Rattle.ray_climb.specs.Rule.{todos, has, IsExact, IsPassedBy, IsPassed, IsTrueHalf, IsTrueAt, IsTrueHand}

-- each word is as before, or now the true one
pub record IsTruer (truth old new : ℕ → ℕ) : Type 0 where
  pub each : (i : ℕ) → (new i ≡ old i) ⊎ (new i ≡ truth i)

pub same_words : (truth old : ℕ → ℕ) → IsTruer truth old old
same_words truth old = record { each = λ i. inl (λ j. old i) }

-- a true word stays true
word_stays : (truth old new : ℕ → ℕ) → IsTruer truth old new → (i : ℕ) → old i ≡ truth i → new i ≡ truth i
word_stays truth old new more i is = elim (more.each i) [ inl a ↦ a ∙ is | inr b ↦ b ]

pub exact_stays : (t : Frame) (L H M K : ℕ → ℕ) → IsTruer t.low L M → IsTruer t.high H K → (i : ℕ) → IsExact t L H i → IsExact t M K i
exact_stays t L H M K lows highs i e = (word_stays t.low L M lows i e.0, word_stays t.high H K highs i e.1)

half_stays : (t : Frame) (truth old new : ℕ → ℕ) → IsTruer truth old new → (node : ℕ) (half : Half) → IsTrueHalf t truth (old node) node half → IsTrueHalf t truth (new node) node half
half_stays t truth old new more node (Below child half) is = is
half_stays t truth old new more node (Held half) is = is
half_stays t truth old new more node (Stored half) is = (is.0, word_stays truth old new more node (is.1 ∙ is.0) ∙ sym is.0)

at_stays : (t : Frame) (L H M K : ℕ → ℕ) → IsTruer t.low L M → IsTruer t.high H K → (leaf node : ℕ) (low high : Half) → IsTrueAt t L H leaf node low high → IsTrueAt t M K leaf node low high
at_stays t L H M K lows highs leaf node low high is = record {
  leaf_small = is.leaf_small;
  node_small = is.node_small;
  own_leaf = is.own_leaf;
  low_true = half_stays t t.low L M lows node low is.low_true;
  high_true = half_stays t t.high H K highs node high is.high_true;
  low_first = is.low_first;
}

-- what a hand has stays true
pub hand_stays : (t : Frame) (L H M K : ℕ → ℕ) → IsTruer t.low L M → IsTruer t.high H K → (hand : Hand) → IsTrueHand t L H hand → IsTrueHand t M K hand
hand_stays t L H M K lows highs Empty is = is
hand_stays t L H M K lows highs (At leaf node low high) is = at_stays t L H M K lows highs leaf node low high is

passed_by : (t : Frame) (a : ℕ) (views views' : List View) (i : ℕ) (b : Bool)
    → ((k : ℕ) → k < t.leaves → t.node_of k ≡ i → todos k views' ≤ todos k views) → IsPassedBy t a views i b → IsPassedBy t a views' i b
passed_by t a views views' i true fewer is = is
passed_by t a views views' i false fewer is = λ k small at. let none = is k small at in let le = fewer k small at in omega arith

-- a node that is passed stays so where no todo list grows
pub passed_stays : (t : Frame) (A : ℕ → ℕ) (views views' : List View) (i : ℕ)
    → ((k : ℕ) → k < t.leaves → t.node_of k ≡ i → todos k views' ≤ todos k views) → IsPassed t A views i → IsPassed t A views' i
passed_stays t A views views' i fewer is = passed_by t (A i) views views' i (t.inner i) fewer is

bits_more : (t : Frame) (a b : ℕ) (views : List View) (i : ℕ) (inner : Bool) → (has a false ≡ true → has b false ≡ true) → (has a true ≡ true → has b true ≡ true)
    → IsPassedBy t a views i inner → IsPassedBy t b views i inner
bits_more t a b views i true left right is = (left is.0, right is.1)
bits_more t a b views i false left right is = is

-- or where bits are set
pub passed_more : (t : Frame) (A B : ℕ → ℕ) (views : List View) (i : ℕ) → (has (A i) false ≡ true → has (B i) false ≡ true) → (has (A i) true ≡ true → has (B i) true ≡ true)
    → IsPassed t A views i → IsPassed t B views i
passed_more t A B views i left right is = bits_more t (A i) (B i) views i (t.inner i) left right is

-- by whether the node has children
pub passed_inner : (t : Frame) (A : ℕ → ℕ) (views : List View) (i : ℕ) → t.inner i ≡ true → (has (A i) false ≡ true) × (has (A i) true ≡ true) → IsPassed t A views i
passed_inner t A views i inner is = subst (λ b. IsPassedBy t (A i) views i b) (sym inner) is

pub passed_leaf : (t : Frame) (A : ℕ → ℕ) (views : List View) (i : ℕ) → t.inner i ≡ false → ((k : ℕ) → k < t.leaves → t.node_of k ≡ i → todos k views ≡ 0) → IsPassed t A views i
passed_leaf t A views i leaf is = subst (λ b. IsPassedBy t (A i) views i b) (sym leaf) is

pub inner_passed : (t : Frame) (A : ℕ → ℕ) (views : List View) (i : ℕ) → t.inner i ≡ true → IsPassed t A views i → (has (A i) false ≡ true) × (has (A i) true ≡ true)
inner_passed t A views i inner is = subst (λ b. IsPassedBy t (A i) views i b) inner is

pub leaf_passed : (t : Frame) (A : ℕ → ℕ) (views : List View) (i : ℕ) → t.inner i ≡ false → IsPassed t A views i → (k : ℕ) → k < t.leaves → t.node_of k ≡ i → todos k views ≡ 0
leaf_passed t A views i leaf is = subst (λ b. IsPassedBy t (A i) views i b) leaf is
