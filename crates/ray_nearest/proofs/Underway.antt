-- A walk that is underway: how its query, the turns that wait and its steps stand to all that is found in the scene.
use Rattle.std.proofs.Common.{◌≡◌, ◌∙◌, ◌+◌, ◌≤◌, ◌<◌, ◌⊎◌, refl, sym, ap, subst, ℕ, Option, Some, None, true, false, List, [], ◌∷◌, length, All, inl, inr, sum_by, arith}
use Rattle.std.specs.List.{flat_map}
use Rattle.std.specs.List.Sorted.{IsPermutation}
use Rattle.std.specs.Ordering.{is_le}
use Rattle.std.proofs.lemmas.List.Elements.{All-head, All-tail}
use Rattle.std.proofs.lemmas.List.Sorted.{All-permutation, IsPermutation-sym, sum_by-IsPermutation}
use Rattle.std.proofs.lemmas.List.Sums.{sum_by-cons}
use Rattle.ray_geom.specs.declared.ratio.Ratio.{Ratio}
use Rattle.ray_geom.specs.Ratio.{ratio_cmp, ratio_of}
use Rattle.ray_flags.specs.declared.ray_flags.RayFlags.{RayFlags}
use Rattle.ray_query.specs.declared.candidate.Candidate.{Candidate as Offer}
use Rattle.ray_query.specs.declared.commit.Commit.{Commit}
use Rattle.ray_query.specs.declared.decision.Decision.{Decision}
use Rattle.ray_query.specs.declared.found.Found.{Found}
use Rattle.ray_query.specs.declared.key.Key.{Key}
use Rattle.ray_query.specs.Laws.{LeavesOut, OverStays}
use Rattle.ray_query.specs.Machine.{QueryValue, query_of}
use Rattle.ray_query.specs.Play.{QueryState, play, play_one, start}
use Rattle.ray_nearest.specs.declared.node.WalkNode.{WalkNode}
use Rattle.ray_nearest.specs.declared.node.WalkNode.TheVariants.{TopInner, TopLeaf, Inner, Leaf}
use Rattle.ray_nearest.specs.declared.turn.Turn.{Turn}
use Rattle.ray_nearest.specs.declared.turn.Turn.TheVariants.{Node, Candidate}
use Rattle.ray_nearest.specs.Adding.{AddsNodes, HasValue, IsOpened}
use Rattle.ray_nearest.specs.Answer.{answer_in, played_in}
use Rattle.ray_query.specs.KeyOrder.{AreApart, has_key, in_key_order}
use Rattle.ray_query.specs.Limits.{IsInOrder, distance_of, is_within}
use Rattle.ray_nearest.specs.Scene.{IsScene, SceneValue, found_in, opened_in}
use Rattle.ray_query.specs.Limits.{is_open}
use Rattle.ray_nearest.specs.Taking.{IsNext, IsKnown, Takes}
use Rattle.ray_nearest.specs.Turns.{is_before, turn_at}
use Rattle.ray_query.proofs.Members.{Member-flat_map, Each-member, Member, Member-append, Member-append_left, Member-append_right}
use Rattle.ray_query.proofs.Orders.{Each, Each-from_All, never}
use Rattle.ray_query.proofs.Orders.{beyond-farther, beyond-passed}
use Rattle.ray_nearest.proofs.Orders.{within-value}
use Rattle.ray_query.proofs.Rising.{in_key_order-first}
use Rattle.ray_nearest.proofs.Farther.{AreApart-pending, Each-both, Each-by, all-farther, rest-above}
use Rattle.ray_nearest.proofs.Pending.{Fits, keys, pending, pending-permuted, stands, stands-farther, unopened, weight}
use Rattle.ray_query.proofs.Plays.{IsReached, play-same, plays_in, reached-play_one}
use Rattle.ray_nearest.proofs.Moving.{Moves, moves_nodes, moves_opened}

-- a candidate isn't before a mark
abbrev IsBehind : Ratio → Found → Type 0
IsBehind m f = is_le (ratio_cmp m (ratio_of f.t)) ≡ true

-- a limit isn't before a mark
abbrev Reaches : Option Ratio → Ratio → Type 0
Reaches limit m = is_within limit m ≡ true

pub record IsUnderway (IsNode : WalkNode → Type 0) (s : SceneValue) (meaning : Offer → Decision) (ray : ℕ) (flags : RayFlags) (begun : ℕ)
    (items : List Turn) (q : QueryValue) (now : ℕ) : Type 0 where
  -- the query is the ray's, and no offer waits for an answer
  pub ray_is : q.ray ≡ ray
  pub flags_is : q.flags ≡ flags
  pub answered : q.asked ≡ None
  -- the turns are the scene's, and stand for no key twice
  pub fit : All (Fits IsNode s) items
  pub once : (k : Key) → sum_by (keys s k) items ≤ 1
  pub in_order : (f : Found) → Member f (pending s items) → IsInOrder f
  -- what they stand for, played from here, ends as all that is found does
  pub same : play meaning ray flags q.state (in_key_order (pending s items)) ≡ played_in meaning ray flags s
  -- the entries of the nodes that were opened: neither what waits nor what is committed is before them, and where the walk ends at a limit
  -- that isn't before them, what was tested and what is still to be opened is no more than what is opened in all
  pub marks : List Ratio
  pub beyond : Each (λ m. (f : Found) → Member f (pending s items) → IsBehind m f) marks
  pub reached : Each (λ m. IsReached m q.state) marks
  pub bound : (limit : Option Ratio) → Each (Reaches limit) marks → now + sum_by (unopened s limit) items ≤ begun + opened_in s limit
  pub rising : begun ≤ now

module _ (IsNode : WalkNode → Type 0) (s : SceneValue) where
  module _ (scene : IsScene IsNode s) where
    module _ (leaves : LeavesOut) (meaning : Offer → Decision) (ray : ℕ) (flags : RayFlags) (begun : ℕ) where
      -- it doesn't matter in which order the turns stand
      turned : (items moved : List Turn) (q : QueryValue) (now : ℕ) → IsPermutation items moved
          → IsUnderway IsNode s meaning ray flags begun items q now → IsUnderway IsNode s meaning ray flags begun moved q now
      turned items moved q now p u =
          let once : (k : Key) → sum_by (keys s k) moved ≤ 1 = λ k.
          let same : sum_by (keys s k) moved ≡ sum_by (keys s k) items = sum_by-IsPermutation (keys s k) items moved p in
          let most : sum_by (keys s k) items ≤ 1 = u.once k in
          omega (arith, same, most) in
          let back : (f : Found) → Member f (pending s moved) → Member f (pending s items) =
          λ f m. pending-permuted s moved items f (IsPermutation-sym items moved p) m in
          record {
            ray_is = u.ray_is;
            flags_is = u.flags_is;
            answered = u.answered;
            fit = All-permutation (Fits IsNode s) items moved p u.fit;
            once = once;
            in_order = λ f m. u.in_order f (back f m);
            same =
                play-same leaves meaning ray flags q.state (pending s moved) (pending s items) (AreApart-pending IsNode s moved once) (AreApart-pending IsNode s items u.once)
                (λ f plays m. back f m) (λ f plays m. pending-permuted s items moved f p m) ∙ u.same;
            marks = u.marks;
            beyond = Each-by (λ m. (f : Found) → Member f (pending s items) → IsBehind m f) (λ m. (f : Found) → Member f (pending s moved) → IsBehind m f) u.marks
                (λ m h f among. h f (back f among)) u.beyond;
            reached = u.reached;
            bound = λ limit reaches.
                let same : sum_by (unopened s limit) moved ≡ sum_by (unopened s limit) items = sum_by-IsPermutation (unopened s limit) items moved p in
                let most : now + sum_by (unopened s limit) items ≤ begun + opened_in s limit = u.bound limit reaches in
                omega (arith, same, most);
            rising = u.rising;
          }

      -- it begins
      in_order-roots : (ns : List WalkNode) → All IsNode ns → (f : Found) → Member f (flat_map s.every ns) → IsInOrder f
      in_order-roots ns known f m = by (Member-flat_map s.every ns f m)
        where
          by : (n : WalkNode) × Member n ns × Member f (s.every n) → IsInOrder f
          by (n, among, here) =
              Each-member IsInOrder (s.every n) f
              (Each-from_All IsInOrder (s.every n) (scene.in_order n (Each-member IsNode ns n (Each-from_All IsNode ns known) among))) here

      either_none : (f : Found) (more : List Found) → Member f more ⊎ Member f (pending s []) → Member f more
      either_none f more (inl m) = m
      either_none f more (inr m) = absurd m

      begins_empty : (items : List Turn) → AddsNodes None s s.roots [] items
          → IsUnderway IsNode s meaning ray flags begun items (query_of ray flags) begun
      begins_empty items added =
          let moves : Moves IsNode s start (found_in s) (λ c. opened_in s c) (sum_by s.size s.roots) [] items =
          moves_nodes IsNode s start scene s.roots [] items scene.roots added in
          let once : (k : Key) → sum_by (keys s k) items ≤ 1 = λ k.
          let most : sum_by (keys s k) items ≤ sum_by (has_key k) (found_in s) + sum_by (keys s k) [] = moves.once k in
          let one : sum_by (has_key k) (found_in s) ≤ 1 = scene.apart.once k in
          let none : sum_by (keys s k) [] ≡ 0 = refl in
          omega (arith, most, one, none) in
          record {
            ray_is = refl;
            flags_is = refl;
            answered = refl;
            fit = moves.fit (λ k d below. absurd (omega (arith, below)));
            once = once;
            in_order = λ f m. in_order-roots s.roots scene.roots f (either_none f (found_in s) (moves.only f m));
            same =
                play-same leaves meaning ray flags start (pending s items) (found_in s) (AreApart-pending IsNode s items once) scene.apart
                (λ f plays m. either_none f (found_in s) (moves.only f m)) (λ f plays m. moves.kept f plays (inl m));
            marks = [];
            beyond = tt;
            reached = tt;
            bound = λ limit reaches.
                let most : sum_by (unopened s limit) items ≤ opened_in s limit + sum_by (unopened s limit) [] = moves.cost limit in
                let none : sum_by (unopened s limit) [] ≡ 0 = refl in
                omega (arith, most, none);
            rising = omega arith;
          }

      pub begins : (old items : List Turn) (q : QueryValue) → old ≡ [] → q ≡ query_of ray flags → AddsNodes None s s.roots old items
          → IsUnderway IsNode s meaning ray flags begun items q begun
      begins old items q empty new added =
          subst (λ v. IsUnderway IsNode s meaning ray flags begun items v begun) (sym new)
          (begins_empty items (subst (λ ts. AddsNodes None s s.roots ts items) empty added))

      -- a node was opened
      node_open : (limit entry : Option Ratio) (e : Ratio) → HasValue entry e → is_within limit e ≡ true → is_open limit entry ≡ true
      node_open limit None e value in_ = absurd value
      node_open limit (Some a) e value in_ = sym (within-value limit e a value) ∙ in_

      -- its marks are what is left to show
      opened_by : (e : Ratio) (n : WalkNode) (rest new : List Turn) (q : QueryValue) (now : ℕ) (marks : List Ratio)
          → IsOpened (distance_of q.state.committed) s n rest new
          → IsUnderway IsNode s meaning ray flags begun (Node e n ∷ rest) q now
          → (((f : Found) → Member f (pending s new) → Member f (pending s (Node e n ∷ rest)))
          → Each (λ m. (f : Found) → Member f (pending s new) → IsBehind m f) marks)
          → Each (λ m. IsReached m q.state) marks
          → (((limit : Option Ratio) → sum_by (unopened s limit) new ≤ sum_by (s.opened limit) (s.below n) + sum_by (unopened s limit) rest)
          → (limit : Option Ratio) → Each (Reaches limit) marks → (now + s.tests n) + sum_by (unopened s limit) new ≤ begun + opened_in s limit)
          → IsUnderway IsNode s meaning ray flags begun new q (now + s.tests n)
      opened_by e n rest new q now marks opened u behind reached bound =
          let fits : Fits IsNode s (Node e n) = All-head (Fits IsNode s) (Node e n) rest u.fit in
          let moves : Moves IsNode s q.state (s.every n) (λ c. sum_by (s.opened c) (s.below n)) (length (s.finds n) + sum_by s.size (s.below n)) rest new =
          moves_opened IsNode s q.state scene n rest new fits.0 opened in
          let once : (k : Key) → sum_by (keys s k) new ≤ 1 = λ k.
          let most : sum_by (keys s k) new ≤ sum_by (has_key k) (s.every n) + sum_by (keys s k) rest = moves.once k in
          let sum : sum_by (keys s k) (Node e n ∷ rest) ≡ sum_by (has_key k) (s.every n) + sum_by (keys s k) rest = sum_by-cons (keys s k) (Node e n) rest in
          let one : sum_by (keys s k) (Node e n ∷ rest) ≤ 1 = u.once k in
          omega (arith, most, sum, one) in
          let back : (f : Found) → Member f (pending s new) → Member f (pending s (Node e n ∷ rest)) = λ f m. joined f (moves.only f m) in
          record {
            ray_is = u.ray_is;
            flags_is = u.flags_is;
            answered = u.answered;
            fit = moves.fit (All-tail (Fits IsNode s) (Node e n) rest u.fit);
            once = once;
            in_order = λ f m. u.in_order f (back f m);
            same =
                play-same leaves meaning ray flags q.state (pending s new) (pending s (Node e n ∷ rest)) (AreApart-pending IsNode s new once)
                (AreApart-pending IsNode s (Node e n ∷ rest) u.once)
                (λ f plays m. back f m) (λ f plays m. moves.kept f plays (Member-append (s.every n) (pending s rest) f m)) ∙ u.same;
            marks = marks;
            beyond = behind back;
            reached = reached;
            bound = bound moves.cost;
            rising = let up : begun ≤ now = u.rising in omega (arith, up);
          }
        where
          joined : (f : Found) → Member f (s.every n) ⊎ Member f (pending s rest) → Member f (pending s (Node e n ∷ rest))
          joined f (inl m) = Member-append_left (s.every n) (pending s rest) f m
          joined f (inr m) = Member-append_right (s.every n) (pending s rest) f m

      -- what was behind the marks so far still is
      still_behind : (items new : List Turn) (marks : List Ratio) → ((f : Found) → Member f (pending s new) → Member f (pending s items))
          → Each (λ m. (f : Found) → Member f (pending s items) → IsBehind m f) marks → Each (λ m. (f : Found) → Member f (pending s new) → IsBehind m f) marks
      still_behind items new marks back behind =
          Each-by (λ m. (f : Found) → Member f (pending s items) → IsBehind m f) (λ m. (f : Found) → Member f (pending s new) → IsBehind m f) marks
          (λ m h f among. h f (back f among)) behind

      -- a leaf waited at its entry, which is one mark more
      leaf_taken : (e : Ratio) (n : WalkNode) (rest new : List Turn) (q : QueryValue) (now : ℕ) → HasValue (s.entry n) e
          → is_within (distance_of q.state.committed) e ≡ true → All (λ y. is_before y (Node e n) ≡ false) rest
          → IsOpened (distance_of q.state.committed) s n rest new
          → IsUnderway IsNode s meaning ray flags begun (Node e n ∷ rest) q now → IsUnderway IsNode s meaning ray flags begun new q (now + s.tests n)
      leaf_taken e n rest new q now value in_ first opened u =
          let fits : Fits IsNode s (Node e n) = All-head (Fits IsNode s) (Node e n) rest u.fit in
          opened_by e n rest new q now (e ∷ u.marks) opened u
          (λ back. ((λ f m. all-farther IsNode s scene (Node e n) rest u.fit first f (back f m)), still_behind (Node e n ∷ rest) new u.marks back u.beyond))
          (in_, u.reached)
          (λ costs limit reaches.
          let cost : sum_by (unopened s limit) new ≤ sum_by (s.opened limit) (s.below n) + sum_by (unopened s limit) rest = costs limit in
          let sum : sum_by (unopened s limit) (Node e n ∷ rest) ≡ s.opened limit n + sum_by (unopened s limit) rest = sum_by-cons (unopened s limit) (Node e n) rest in
          let most : now + sum_by (unopened s limit) (Node e n ∷ rest) ≤ begun + opened_in s limit = u.bound limit reaches.1 in
          let part : s.tests n + sum_by (s.opened limit) (s.below n) ≤ s.opened limit n =
          scene.opened n limit fits.0 (node_open limit (s.entry n) e value reaches.0) in
          omega (arith, cost, sum, most, part))

      -- at each other node nothing is tested, so that it needs none
      quiet_taken : (e : Ratio) (n : WalkNode) (rest new : List Turn) (q : QueryValue) (now : ℕ) → s.tests n ≡ 0
          → IsOpened (distance_of q.state.committed) s n rest new
          → IsUnderway IsNode s meaning ray flags begun (Node e n ∷ rest) q now → IsUnderway IsNode s meaning ray flags begun new q (now + s.tests n)
      quiet_taken e n rest new q now quiet opened u =
          let fits : Fits IsNode s (Node e n) = All-head (Fits IsNode s) (Node e n) rest u.fit in
          opened_by e n rest new q now u.marks opened u
          (λ back. still_behind (Node e n ∷ rest) new u.marks back u.beyond)
          u.reached
          (λ costs limit reaches.
          let cost : sum_by (unopened s limit) new ≤ sum_by (s.opened limit) (s.below n) + sum_by (unopened s limit) rest = costs limit in
          let sum : sum_by (unopened s limit) (Node e n ∷ rest) ≡ s.opened limit n + sum_by (unopened s limit) rest = sum_by-cons (unopened s limit) (Node e n) rest in
          let most : now + sum_by (unopened s limit) (Node e n ∷ rest) ≤ begun + opened_in s limit = u.bound limit reaches in
          let part : sum_by (s.opened limit) (s.below n) ≤ s.opened limit n = scene.nested n limit fits.0 in
          omega (arith, cost, sum, most, part, quiet))

      node_taken : (e : Ratio) (n : WalkNode) (rest new : List Turn) (q : QueryValue) (now : ℕ)
          → is_within (distance_of q.state.committed) e ≡ true → All (λ y. is_before y (Node e n) ≡ false) rest
          → IsOpened (distance_of q.state.committed) s n rest new
          → IsUnderway IsNode s meaning ray flags begun (Node e n ∷ rest) q now → IsUnderway IsNode s meaning ray flags begun new q (now + s.tests n)
      node_taken e (TopInner n) rest new q now in_ first opened u = quiet_taken e (TopInner n) rest new q now (scene.quiet (TopInner n)) opened u
      node_taken e (TopLeaf n) rest new q now in_ first opened u = quiet_taken e (TopLeaf n) rest new q now (scene.quiet (TopLeaf n)) opened u
      node_taken e (Inner i n) rest new q now in_ first opened u = quiet_taken e (Inner i n) rest new q now (scene.quiet (Inner i n)) opened u
      node_taken e (Leaf i n) rest new q now in_ first opened u =
          let fits : Fits IsNode s (Node e (Leaf i n)) = All-head (Fits IsNode s) (Node e (Leaf i n)) rest u.fit in
          leaf_taken e (Leaf i n) rest new q now fits.1 in_ first opened u

      -- a candidate was played
      played : Found → QueryValue → QueryValue
      played f q = record q { state = play_one meaning q.ray q.flags q.state f }

      found_taken : (f : Found) (rest : List Turn) (q : QueryValue) (now : ℕ) → All (λ y. is_before y (Candidate f) ≡ false) rest
          → IsUnderway IsNode s meaning ray flags begun (Candidate f ∷ rest) q now
          → IsUnderway IsNode s meaning ray flags begun rest (record q { state = play_one meaning q.ray q.flags q.state f }) now
      found_taken f rest q now first u =
          let fit : All (Fits IsNode s) rest = All-tail (Fits IsNode s) (Candidate f) rest u.fit in
          let apart : AreApart (f ∷ pending s rest) = AreApart-pending IsNode s (Candidate f ∷ rest) u.once in
          let order : in_key_order (f ∷ pending s rest) ≡ f ∷ in_key_order (pending s rest) =
          in_key_order-first f (pending s rest) (rest-above IsNode s scene f rest fit first apart) in
          let here : Member f (pending s (Candidate f ∷ rest)) = inl refl in
          record {
            ray_is = u.ray_is;
            flags_is = u.flags_is;
            answered = u.answered;
            fit = fit;
            once = λ k.
                let sum : sum_by (keys s k) (Candidate f ∷ rest) ≡ keys s k (Candidate f) + sum_by (keys s k) rest = sum_by-cons (keys s k) (Candidate f) rest in
                let one : sum_by (keys s k) (Candidate f ∷ rest) ≤ 1 = u.once k in
                omega (arith, sum, one);
            in_order = λ g m. u.in_order g (inr m);
            same =
                (λ i. play meaning ray flags (play_one meaning (u.ray_is i) (u.flags_is i) q.state f) (in_key_order (pending s rest))) ∙
                (sym (ap (play meaning ray flags q.state) order) ∙ u.same);
            marks = u.marks;
            beyond = Each-by (λ m. (g : Found) → Member g (pending s (Candidate f ∷ rest)) → IsBehind m g) (λ m. (g : Found) → Member g (pending s rest) → IsBehind m g)
                u.marks (λ m h g among. h g (inr among)) u.beyond;
            reached = Each-both (λ m. (g : Found) → Member g (pending s (Candidate f ∷ rest)) → IsBehind m g) (λ m. IsReached m q.state)
                (λ m. IsReached m (play_one meaning q.ray q.flags q.state f)) u.marks
                (λ m behind reached. reached-play_one m meaning q.ray q.flags q.state f (behind f here) (u.in_order f here) reached) u.beyond u.reached;
            bound = λ limit reaches.
                let sum : sum_by (unopened s limit) (Candidate f ∷ rest) ≡ 0 + sum_by (unopened s limit) rest = sum_by-cons (unopened s limit) (Candidate f) rest in
                let most : now + sum_by (unopened s limit) (Candidate f ∷ rest) ≤ begun + opened_in s limit = u.bound limit reaches in
                omega (arith, sum, most);
            rising = u.rising;
          }

      -- a turn was taken
      pub goes_on : (x : Turn) (items rest new : List Turn) (q r : QueryValue) (now later : ℕ)
          → IsUnderway IsNode s meaning ray flags begun items q now → IsNext q.state items (Some x) rest → Takes meaning s x q rest now r new later
          → IsUnderway IsNode s meaning ray flags begun new r later
      goes_on (Node e n) items rest new q r now later u (open_, in_, moved, first) (stays, opened, tested) =
          let u' : IsUnderway IsNode s meaning ray flags begun (Node e n ∷ rest) q now = turned items (Node e n ∷ rest) q now moved u in
          subst (λ v. IsUnderway IsNode s meaning ray flags begun new v later) (sym stays)
          (subst (λ t. IsUnderway IsNode s meaning ray flags begun new q t) (sym tested) (node_taken e n rest new q now in_ first opened u'))
      goes_on (Candidate f) items rest new q r now later u (open_, in_, moved, first) (plays, none, stays) =
          let u' : IsUnderway IsNode s meaning ray flags begun (Candidate f ∷ rest) q now = turned items (Candidate f ∷ rest) q now moved u in
          subst (λ v. IsUnderway IsNode s meaning ray flags begun new v later) (sym plays)
          (subst (λ ts. IsUnderway IsNode s meaning ray flags begun ts (record q { state = play_one meaning q.ray q.flags q.state f }) later) (sym none)
          (subst (λ t. IsUnderway IsNode s meaning ray flags begun rest (record q { state = play_one meaning q.ray q.flags q.state f }) t) (sym stays)
          (found_taken f rest q now first u')))

      -- so less waits
      pub lighter : (x : Turn) (items rest new : List Turn) (q r : QueryValue) (now later : ℕ)
          → IsUnderway IsNode s meaning ray flags begun items q now → IsNext q.state items (Some x) rest → Takes meaning s x q rest now r new later
          → sum_by (weight s) new < sum_by (weight s) items
      lighter (Node e n) items rest new q r now later u (open_, in_, moved, first) (stays, opened, tested) =
          let u' : IsUnderway IsNode s meaning ray flags begun (Node e n ∷ rest) q now = turned items (Node e n ∷ rest) q now moved u in
          let fits : Fits IsNode s (Node e n) = All-head (Fits IsNode s) (Node e n) rest u'.fit in
          let moves : Moves IsNode s q.state (s.every n) (λ c. sum_by (s.opened c) (s.below n)) (length (s.finds n) + sum_by s.size (s.below n)) rest new =
          moves_opened IsNode s q.state scene n rest new fits.0 opened in
          let light : sum_by (weight s) new ≤ (length (s.finds n) + sum_by s.size (s.below n)) + sum_by (weight s) rest = moves.light in
          let size : 1 + (length (s.finds n) + sum_by s.size (s.below n)) ≤ s.size n = scene.size n fits.0 in
          let same : sum_by (weight s) (Node e n ∷ rest) ≡ sum_by (weight s) items = sum_by-IsPermutation (weight s) items (Node e n ∷ rest) moved in
          let sum : sum_by (weight s) (Node e n ∷ rest) ≡ s.size n + sum_by (weight s) rest = sum_by-cons (weight s) (Node e n) rest in
          omega (arith, light, size, same, sum)
      lighter (Candidate f) items rest new q r now later u (open_, in_, moved, first) (plays, none, stays) =
          let light : sum_by (weight s) new ≡ sum_by (weight s) rest = ap (sum_by (weight s)) none in
          let same : sum_by (weight s) (Candidate f ∷ rest) ≡ sum_by (weight s) items = sum_by-IsPermutation (weight s) items (Candidate f ∷ rest) moved in
          let sum : sum_by (weight s) (Candidate f ∷ rest) ≡ 1 + sum_by (weight s) rest = sum_by-cons (weight s) (Candidate f) rest in
          omega (arith, light, same, sum)

      -- the node of a turn is known
      fits_known : (x : Turn) → Fits IsNode s x → IsKnown IsNode x
      fits_known (Node e n) fits = fits.0
      fits_known (Candidate f) fits = tt

      pub known : (x : Turn) (items rest : List Turn) (q : QueryValue) (now : ℕ)
          → IsUnderway IsNode s meaning ray flags begun items q now → IsNext q.state items (Some x) rest → IsKnown IsNode x
      known x items rest q now u (open_, in_, moved, first) =
          fits_known x (All-head (Fits IsNode s) x rest (All-permutation (Fits IsNode s) items (x ∷ rest) moved u.fit))

      -- ---- it ends

      all_passed : (items : List Turn) (q : QueryValue) (now : ℕ) → IsUnderway IsNode s meaning ray flags begun items q now
          → All (λ y. is_within (distance_of q.state.committed) (turn_at y) ≡ false) items
          → (f : Found) → Member f (pending s items) → plays_in q.state f ≡ false
      all_passed items q now u late f m = by (Member-flat_map (stands s) items f m)
        where
          by : (y : Turn) × Member y items × Member f (stands s y) → plays_in q.state f ≡ false
          by (y, among, here) =
              beyond-passed q.state.committed f
              (beyond-farther (distance_of q.state.committed) (turn_at y) (ratio_of f.t)
              (stands-farther IsNode s scene y (Each-member (Fits IsNode s) items y (Each-from_All (Fits IsNode s) items u.fit) among) f here)
              (Each-member (λ z. is_within (distance_of q.state.committed) (turn_at z) ≡ false) items y
              (Each-from_All (λ z. is_within (distance_of q.state.committed) (turn_at z) ≡ false) items late) among))

      none_left : (st : QueryState) → play meaning ray flags st (in_key_order []) ≡ st
      unfolding in_key_order
      none_left st = refl

      AreApart-none : AreApart []
      AreApart-none = record { once = λ k. omega arith }

      ended : OverStays → (items new : List Turn) (q : QueryValue) (now : ℕ) → IsUnderway IsNode s meaning ray flags begun items q now
          → IsNext q.state items None new → q.state ≡ played_in meaning ray flags s
      ended over items new q now u (inl is_over) = sym (over meaning ray flags q.state (in_key_order (pending s items)) is_over) ∙ u.same
      ended over items new q now u (inr late) =
          let passed : (f : Found) → Member f (pending s items) → plays_in q.state f ≡ false = all_passed items q now u late in
          sym (none_left q.state) ∙
          (play-same leaves meaning ray flags q.state [] (pending s items) AreApart-none (AreApart-pending IsNode s items u.once)
          (λ f plays m. absurd m) (λ f plays m. never (plays_in q.state f) plays (passed f m)) ∙ u.same)

      pub answers : OverStays → (items new : List Turn) (q : QueryValue) (now : ℕ) → IsUnderway IsNode s meaning ray flags begun items q now
          → IsNext q.state items None new → q.state.committed ≡ answer_in meaning ray flags s
      answers over items new q now u next = ap (λ (st : QueryState). st.committed) (ended over items new q now u next)

      pub bounds : (items : List Turn) (q : QueryValue) (now : ℕ) (answer : Option Commit) → answer ≡ q.state.committed
          → IsUnderway IsNode s meaning ray flags begun items q now → now ≤ begun + opened_in s (distance_of answer)
      bounds items q now answer is u =
          let most : now + sum_by (unopened s (distance_of q.state.committed)) items ≤ begun + opened_in s (distance_of q.state.committed) =
          u.bound (distance_of q.state.committed) u.reached in
          subst (λ a. now ≤ begun + opened_in s (distance_of a)) (sym is) (omega (arith, most))
