-- What the turns that wait stand for is apart, and of the first of them nothing of it is nearer.
use Rattle.std.proofs.Common.{◌≡◌, ◌≤◌, ◌⊎◌, subst, true, false, List, [], ◌∷◌, All, inl, inr, sum_by, arith}
use Rattle.std.specs.Ordering.{is_le}
use Rattle.std.proofs.lemmas.List.Elements.{All-head, All-tail}
use Rattle.ray_geom.specs.Ratio.{ratio_cmp, ratio_of}
use Rattle.ray_geom.specs.RatioLaws.{ratio_cmp-total}
use Rattle.ray_query.specs.declared.found.Found.{Found}
use Rattle.ray_query.specs.declared.key.Key.{Key}
use Rattle.ray_query.specs.Key.{found_key, key_lt}
use Rattle.ray_nearest.specs.declared.node.WalkNode.{WalkNode}
use Rattle.ray_nearest.specs.declared.turn.Turn.{Turn}
use Rattle.ray_nearest.specs.declared.turn.Turn.TheVariants.{Node, Candidate}
use Rattle.ray_query.specs.KeyOrder.{AreApart, has_key}
use Rattle.ray_nearest.specs.Scene.{IsScene, SceneValue}
use Rattle.ray_nearest.specs.Turns.{is_before, turn_at}
use Rattle.ray_query.proofs.Members.{Member-flat_map, Each-member, Member, Member-append}
use Rattle.ray_query.proofs.Orders.{Each, Each-from_All, key_lt-not_both, lt-chain, lt-from_not_le, ratio_le-chain}
use Rattle.ray_nearest.proofs.Orders.{key-nearer, turn-farther}
use Rattle.ray_query.proofs.Rising.{AreApart-first, Differs, IsAbove, above_other}
use Rattle.ray_nearest.proofs.Pending.{Fits, keys, pending, pending-keys, stands, stands-farther}

-- ---- each of a list

pub Each-by : {X : Type 0} (P Q : X → Type 0) (xs : List X) → ((x : X) → P x → Q x) → Each P xs → Each Q xs
Each-by P Q [] h each = tt
Each-by P Q (x ∷ xs) h (first, rest) = (h x first, Each-by P Q xs h rest)

pub Each-both : {X : Type 0} (P Q R : X → Type 0) (xs : List X) → ((x : X) → P x → Q x → R x) → Each P xs → Each Q xs → Each R xs
Each-both P Q R [] h p q = tt
Each-both P Q R (x ∷ xs) h (p, ps) (q, qs) = (h x p q, Each-both P Q R xs h ps qs)

-- ---- the turns that wait

module _ (IsNode : WalkNode → Type 0) (s : SceneValue) where
  pub AreApart-pending : (items : List Turn) → ((k : Key) → sum_by (keys s k) items ≤ 1) → AreApart (pending s items)
  AreApart-pending items once = record {
    once = λ k.
        let sum : sum_by (has_key k) (pending s items) ≡ sum_by (keys s k) items = pending-keys s k items in
        let most : sum_by (keys s k) items ≤ 1 = once k in
        omega (arith, sum, most);
  }

  module _ (scene : IsScene IsNode s) where
    -- where none of the others is before a turn, nothing that they stand for is nearer than the turn
    pub rest-farther : (x : Turn) (rest : List Turn) → All (Fits IsNode s) rest → All (λ y. is_before y x ≡ false) rest
        → (f : Found) → Member f (pending s rest) → is_le (ratio_cmp (turn_at x) (ratio_of f.t)) ≡ true
    rest-farther x rest fit first f m = by (Member-flat_map (stands s) rest f m)
      where
        by : (y : Turn) × Member y rest × Member f (stands s y) → is_le (ratio_cmp (turn_at x) (ratio_of f.t)) ≡ true
        by (y, among, here) =
            ratio_le-chain (turn_at x) (turn_at y) (ratio_of f.t)
            (turn-farther x y (Each-member (λ z. is_before z x ≡ false) rest y (Each-from_All (λ z. is_before z x ≡ false) rest first) among))
            (stands-farther IsNode s scene y (Each-member (Fits IsNode s) rest y (Each-from_All (Fits IsNode s) rest fit) among) f here)

    -- nor than the turn itself
    pub all-farther : (x : Turn) (rest : List Turn) → All (Fits IsNode s) (x ∷ rest) → All (λ y. is_before y x ≡ false) rest
        → (f : Found) → Member f (pending s (x ∷ rest)) → is_le (ratio_cmp (turn_at x) (ratio_of f.t)) ≡ true
    all-farther x rest fit first f m = by (Member-append (stands s x) (pending s rest) f m)
      where
        by : Member f (stands s x) ⊎ Member f (pending s rest) → is_le (ratio_cmp (turn_at x) (ratio_of f.t)) ≡ true
        by (inl here) = stands-farther IsNode s scene x (All-head (Fits IsNode s) x rest fit) f here
        by (inr later) = rest-farther x rest (All-tail (Fits IsNode s) x rest fit) first f later

    -- of a candidate's turn, all that the others stand for has a key that isn't below its own
    pub not_below : (f : Found) (y : Turn) → Fits IsNode s y → is_before y (Candidate f) ≡ false → (g : Found) → Member g (stands s y)
        → key_lt (found_key g) (found_key f) ≡ false
    not_below f (Node e n) fits first g m =
        key_lt-not_both (found_key f) (found_key g)
        (key-nearer f g
        (lt-chain ratio_cmp-total (ratio_of f.t) e (ratio_of g.t)
        (lt-from_not_le ratio_cmp-total e (ratio_of f.t) first)
        (stands-farther IsNode s scene (Node e n) fits g m)))
    not_below f (Candidate h) fits first g (inl same) = subst (λ x. key_lt (found_key x) (found_key f) ≡ false) same first
    not_below f (Candidate h) fits first g (inr m) = absurd m

    pub rest-above : (f : Found) (rest : List Turn) → All (Fits IsNode s) rest → All (λ y. is_before y (Candidate f) ≡ false) rest
        → AreApart (f ∷ pending s rest) → (g : Found) → Member g (pending s rest) → IsAbove f g
    rest-above f rest fit first apart g m = by (Member-flat_map (stands s) rest g m)
      where
        by : (y : Turn) × Member y rest × Member g (stands s y) → IsAbove f g
        by (y, among, here) =
            above_other f g (Each-member (Differs f) (pending s rest) g (AreApart-first f (pending s rest) apart) m)
            (not_below f y (Each-member (Fits IsNode s) rest y (Each-from_All (Fits IsNode s) rest fit) among)
            (Each-member (λ z. is_before z (Candidate f) ≡ false) rest y (Each-from_All (λ z. is_before z (Candidate f) ≡ false) rest first) among) g here)
