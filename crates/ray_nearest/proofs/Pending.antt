-- What the turns of a walk still stand for.
use Rattle.std.proofs.Common.{◌≡◌, ap, subst, ℕ, Option, Some, None, true, List, [], ◌∷◌, inl, inr, sum_by}
use Rattle.std.specs.List.{flat_map}
use Rattle.std.specs.List.Sorted.{IsPermutation}
use Rattle.std.specs.Ordering.{is_le}
use Rattle.std.proofs.lemmas.Cmp.{tied_itself}
use Rattle.ray_geom.specs.declared.ratio.Ratio.{Ratio}
use Rattle.ray_geom.specs.Ratio.{ratio_cmp, ratio_of}
use Rattle.ray_geom.specs.RatioLaws.{ratio_cmp-total}
use Rattle.ray_query.specs.declared.found.Found.{Found}
use Rattle.ray_query.specs.declared.key.Key.{Key}
use Rattle.ray_nearest.specs.declared.node.WalkNode.{WalkNode}
use Rattle.ray_nearest.specs.declared.turn.Turn.{Turn}
use Rattle.ray_nearest.specs.declared.turn.Turn.TheVariants.{Node, Candidate}
use Rattle.ray_nearest.specs.Adding.{IsLow, MayWait}
use Rattle.ray_query.specs.KeyOrder.{has_key}
use Rattle.ray_query.specs.Limits.{Holds}
use Rattle.ray_nearest.specs.Scene.{IsScene, SceneValue}
use Rattle.ray_nearest.specs.Turns.{turn_at}
use Rattle.ray_query.proofs.Members.{sum_by-flat_map, Member-permuted, Member-flat_map, flat_map-has, Each-member, Member}
use Rattle.ray_query.proofs.Orders.{Each-from_All, ratio_le-chain}
use Rattle.ray_nearest.proofs.Waits.{waits-low}

module _ (s : SceneValue) where
  -- what a turn stands for: all that is found from a node down, or a candidate
  abbrev pub stands : Turn → List Found
  stands (Node e n) = s.every n
  stands (Candidate f) = f ∷ []

  abbrev pub pending : List Turn → List Found
  pending items = flat_map stands items

  -- how often a key stands there
  abbrev pub keys : Key → Turn → ℕ
  keys k x = sum_by (has_key k) (stands x)

  -- how many primitives are still to be opened below a turn, where the walk ends at a limit
  abbrev pub unopened : Option Ratio → Turn → ℕ
  unopened limit (Node e n) = s.opened limit n
  unopened limit (Candidate f) = 0

  -- what taking a turn takes off
  abbrev pub weight : Turn → ℕ
  weight (Node e n) = s.size n
  weight (Candidate f) = 1

  pub pending-permuted : (xs ys : List Turn) (f : Found) → IsPermutation xs ys → Member f (pending xs) → Member f (pending ys)
  pending-permuted xs ys f moved m = there (Member-flat_map stands xs f m)
    where
      there : (x : Turn) × Member x xs × Member f (stands x) → Member f (pending ys)
      there (x, among, here) = flat_map-has stands ys x f (Member-permuted xs ys x moved among) here

  pub pending-keys : (k : Key) (xs : List Turn) → sum_by (has_key k) (pending xs) ≡ sum_by (keys k) xs
  pending-keys k xs = sum_by-flat_map (has_key k) stands xs

module _ (IsNode : WalkNode → Type 0) (s : SceneValue) where
  -- a node that waits is known, and waits where it may
  abbrev pub Fits : Turn → Type 0
  Fits (Node e n) = IsNode n × MayWait (s.entry n) n e
  Fits (Candidate f) = Unit {0}

  low_holds : (entry : Option Ratio) (e : Ratio) (f : Found) → IsLow entry e → Holds entry f → is_le (ratio_cmp e (ratio_of f.t)) ≡ true
  low_holds None e f low h = absurd (cc)
  low_holds (Some a) e f low h = ratio_le-chain e a (ratio_of f.t) low h

  -- what a turn stands for isn't nearer than the turn
  pub stands-farther : IsScene IsNode s → (x : Turn) → Fits x → (f : Found) → Member f (stands s x) → is_le (ratio_cmp (turn_at x) (ratio_of f.t)) ≡ true
  stands-farther scene (Node e n) (known, waits) f m =
      low_holds (s.entry n) e f (waits-low n (s.entry n) e waits) (Each-member (Holds (s.entry n)) (s.every n) f (Each-from_All (Holds (s.entry n)) (s.every n) (scene.holds n known)) m)
  stands-farther scene (Candidate g) fits f (inl same) =
      subst (λ h. is_le (ratio_cmp (ratio_of g.t) (ratio_of h.t)) ≡ true) same (ap is_le (tied_itself ratio_cmp-total (ratio_of g.t)))
  stands-farther scene (Candidate g) fits f (inr m) = absurd m
