-- What opening a node does to all that waits: what is found below comes in the place of the node.
use Rattle.std.proofs.Common.{◌≡◌, ◌∙◌, ◌++◌, ◌+◌, ◌≤◌, ◌⊎◌, sym, ap, subst, ℕ, zero, suc, Option, true, false, List, [], ◌∷◌, length, All, inl, inr, sum_by, arith}
use Rattle.std.specs.List.{flat_map}
use Rattle.std.specs.List.Sorted.{IsPermutation}
use Rattle.std.proofs.lemmas.List.Concat.{flat_map-append}
use Rattle.std.proofs.lemmas.List.Elements.{All-cons, All-head, All-tail}
use Rattle.std.proofs.lemmas.List.Sorted.{All-permutation, IsPermutation-sym, sum_by-IsPermutation}
use Rattle.std.proofs.lemmas.List.Sums.{sum_by-append, sum_by-cons}
use Rattle.ray_geom.specs.declared.ratio.Ratio.{Ratio}
use Rattle.ray_query.specs.declared.found.Found.{Found}
use Rattle.ray_query.specs.declared.key.Key.{Key}
use Rattle.ray_query.specs.Play.{QueryState}
use Rattle.ray_nearest.specs.declared.node.WalkNode.{WalkNode}
use Rattle.ray_nearest.specs.declared.turn.Turn.{Turn}
use Rattle.ray_nearest.specs.declared.turn.Turn.TheVariants.{Node, Candidate}
use Rattle.ray_nearest.specs.Adding.{Adds, AddsFound, AddsNode, AddsNodes, AddsOne, IsOpened, Passes}
use Rattle.ray_query.specs.KeyOrder.{has_key}
use Rattle.ray_query.specs.Limits.{Holds}
use Rattle.ray_nearest.specs.Scene.{IsScene, SceneValue}
use Rattle.ray_query.specs.Limits.{distance_of}
use Rattle.ray_query.proofs.Members.{Each-member, Member, Member-append, Member-append_left, Member-append_right}
use Rattle.ray_query.proofs.Orders.{Each-from_All, never}
use Rattle.ray_query.proofs.Orders.{beyond-passed, shut-beyond}
use Rattle.ray_nearest.proofs.Pending.{Fits, keys, pending, pending-permuted, stands, unopened, weight}
use Rattle.ray_query.proofs.Plays.{plays_in}

-- turns were added that stand for what is more: of that nothing is lost but what is passed over, nothing else came, and it costs and weighs
-- no more than so much
pub record Moves (IsNode : WalkNode → Type 0) (s : SceneValue) (st : QueryState) (more : List Found) (costs : Option Ratio → ℕ) (weighs : ℕ) (old new : List Turn) : Type 0 where
  pub kept : (f : Found) → plays_in st f ≡ true → Member f more ⊎ Member f (pending s old) → Member f (pending s new)
  pub only : (f : Found) → Member f (pending s new) → Member f more ⊎ Member f (pending s old)
  pub once : (k : Key) → sum_by (keys s k) new ≤ sum_by (has_key k) more + sum_by (keys s k) old
  pub fit : All (Fits IsNode s) old → All (Fits IsNode s) new
  pub cost : (c : Option Ratio) → sum_by (unopened s c) new ≤ costs c + sum_by (unopened s c) old
  pub light : sum_by (weight s) new ≤ weighs + sum_by (weight s) old

module _ (IsNode : WalkNode → Type 0) (s : SceneValue) (st : QueryState) where
  -- what is left out is passed over
  moves_without : (more : List Found) (costs : Option Ratio → ℕ) (weighs : ℕ) (old new : List Turn)
      → ((f : Found) → Member f more → plays_in st f ≡ false) → IsPermutation old new → Moves IsNode s st more costs weighs old new
  moves_without more costs weighs old new passed moved = record {
    kept = λ f plays. kept f plays;
    only = λ f m. inr (pending-permuted s new old f (IsPermutation-sym old new moved) m);
    once = λ k.
        let same : sum_by (keys s k) new ≡ sum_by (keys s k) old = sum_by-IsPermutation (keys s k) old new moved in
        omega (arith, same);
    fit = All-permutation (Fits IsNode s) old new moved;
    cost = λ c.
        let same : sum_by (unopened s c) new ≡ sum_by (unopened s c) old = sum_by-IsPermutation (unopened s c) old new moved in
        omega (arith, same);
    light =
        let same : sum_by (weight s) new ≡ sum_by (weight s) old = sum_by-IsPermutation (weight s) old new moved in
        omega (arith, same);
  }
    where
      kept : (f : Found) → plays_in st f ≡ true → Member f more ⊎ Member f (pending s old) → Member f (pending s new)
      kept f plays (inl m) = never (plays_in st f) plays (passed f m)
      kept f plays (inr m) = pending-permuted s old new f moved m

  -- one turn more
  moves_with : (x : Turn) (old new : List Turn) → Fits IsNode s x → IsPermutation (x ∷ old) new
      → Moves IsNode s st (stands s x) (λ c. unopened s c x) (weight s x) old new
  moves_with x old new fits moved = record {
    kept = λ f plays m. pending-permuted s (x ∷ old) new f moved (joined f m);
    only = λ f m. Member-append (stands s x) (pending s old) f (pending-permuted s new (x ∷ old) f (IsPermutation-sym (x ∷ old) new moved) m);
    once = λ k.
        let same : sum_by (keys s k) new ≡ sum_by (keys s k) (x ∷ old) = sum_by-IsPermutation (keys s k) (x ∷ old) new moved in
        let sum : sum_by (keys s k) (x ∷ old) ≡ keys s k x + sum_by (keys s k) old = sum_by-cons (keys s k) x old in
        omega (arith, same, sum);
    fit = λ all. All-permutation (Fits IsNode s) (x ∷ old) new moved (All-cons (Fits IsNode s) x old fits all);
    cost = λ c.
        let same : sum_by (unopened s c) new ≡ sum_by (unopened s c) (x ∷ old) = sum_by-IsPermutation (unopened s c) (x ∷ old) new moved in
        let sum : sum_by (unopened s c) (x ∷ old) ≡ unopened s c x + sum_by (unopened s c) old = sum_by-cons (unopened s c) x old in
        omega (arith, same, sum);
    light =
        let same : sum_by (weight s) new ≡ sum_by (weight s) (x ∷ old) = sum_by-IsPermutation (weight s) (x ∷ old) new moved in
        let sum : sum_by (weight s) (x ∷ old) ≡ weight s x + sum_by (weight s) old = sum_by-cons (weight s) x old in
        omega (arith, same, sum);
  }
    where
      joined : (f : Found) → Member f (stands s x) ⊎ Member f (pending s old) → Member f (pending s (x ∷ old))
      joined f (inl m) = Member-append_left (stands s x) (pending s old) f m
      joined f (inr m) = Member-append_right (stands s x) (pending s old) f m

  -- one after the other
  moves_more : (first rest : List Found) (c d : Option Ratio → ℕ) (v w : ℕ) (old mid new : List Turn)
      → Moves IsNode s st first c v old mid → Moves IsNode s st rest d w mid new
      → Moves IsNode s st (first ++ rest) (λ limit. c limit + d limit) (v + w) old new
  moves_more first rest c d v w old mid new one two = record {
    kept = λ f plays m. kept f plays m;
    only = λ f m. only f (two.only f m);
    once = λ k.
        let a : sum_by (keys s k) mid ≤ sum_by (has_key k) first + sum_by (keys s k) old = one.once k in
        let b : sum_by (keys s k) new ≤ sum_by (has_key k) rest + sum_by (keys s k) mid = two.once k in
        let sum : sum_by (has_key k) (first ++ rest) ≡ sum_by (has_key k) first + sum_by (has_key k) rest = sum_by-append (has_key k) first rest in
        omega (arith, a, b, sum);
    fit = λ all. two.fit (one.fit all);
    cost = λ limit.
        let a : sum_by (unopened s limit) mid ≤ c limit + sum_by (unopened s limit) old = one.cost limit in
        let b : sum_by (unopened s limit) new ≤ d limit + sum_by (unopened s limit) mid = two.cost limit in
        omega (arith, a, b);
    light =
        let a : sum_by (weight s) mid ≤ v + sum_by (weight s) old = one.light in
        let b : sum_by (weight s) new ≤ w + sum_by (weight s) mid = two.light in
        omega (arith, a, b);
  }
    where
      part : (f : Found) → plays_in st f ≡ true → Member f first ⊎ Member f rest → Member f (pending s new)
      part f plays (inl m) = two.kept f plays (inr (one.kept f plays (inl m)))
      part f plays (inr m) = two.kept f plays (inl m)

      kept : (f : Found) → plays_in st f ≡ true → Member f (first ++ rest) ⊎ Member f (pending s old) → Member f (pending s new)
      kept f plays (inl m) = part f plays (Member-append first rest f m)
      kept f plays (inr m) = two.kept f plays (inr (one.kept f plays (inr m)))

      early : (f : Found) → Member f first ⊎ Member f (pending s old) → Member f (first ++ rest) ⊎ Member f (pending s old)
      early f (inl m) = inl (Member-append_left first rest f m)
      early f (inr m) = inr m

      only : (f : Found) → Member f rest ⊎ Member f (pending s mid) → Member f (first ++ rest) ⊎ Member f (pending s old)
      only f (inl m) = inl (Member-append_right first rest f m)
      only f (inr m) = early f (one.only f m)

  -- it may cost and weigh more than it does
  moves_within : (more : List Found) (c d : Option Ratio → ℕ) (v w : ℕ) (old new : List Turn) → ((limit : Option Ratio) → c limit ≤ d limit) → v ≤ w
      → Moves IsNode s st more c v old new → Moves IsNode s st more d w old new
  moves_within more c d v w old new costs weighs moves = record {
    kept = moves.kept;
    only = moves.only;
    once = moves.once;
    fit = moves.fit;
    cost = λ limit.
        let a : sum_by (unopened s limit) new ≤ c limit + sum_by (unopened s limit) old = moves.cost limit in
        let b : c limit ≤ d limit = costs limit in
        omega (arith, a, b);
    light =
        let a : sum_by (weight s) new ≤ v + sum_by (weight s) old = moves.light in
        omega (arith, a, weighs);
  }

  -- ---- a node, and what is found
  module _ (scene : IsScene IsNode s) where
    moves_node : (n : WalkNode) (old new : List Turn) → IsNode n → AddsOne (AddsNode (distance_of st.committed) s.entry n) old new
        → Moves IsNode s st (s.every n) (λ c. s.opened c n) (s.size n) old new
    moves_node n old new known (ts, inl (none, shut), moved) =
        moves_without (s.every n) (λ c. s.opened c n) (s.size n) old new
        (λ f m. beyond-passed st.committed f (shut-beyond (distance_of st.committed) (s.entry n) f
        (Each-member (Holds (s.entry n)) (s.every n) f (Each-from_All (Holds (s.entry n)) (s.every n) (scene.holds n known)) m) shut))
        (subst (λ us. IsPermutation (us ++ old) new) none moved)
    moves_node n old new known (ts, inr (e, waits, one), moved) =
        moves_with (Node e n) old new (known, waits) (subst (λ us. IsPermutation (us ++ old) new) one moved)

    moves_found : (f : Found) (old new : List Turn) → AddsOne (AddsFound (distance_of st.committed) f) old new
        → Moves IsNode s st (f ∷ []) (λ c. 0) 1 old new
    moves_found f old new (ts, inl (none, far), moved) =
        moves_without (f ∷ []) (λ c. 0) 1 old new
        (λ g m. alone g m)
        (subst (λ us. IsPermutation (us ++ old) new) none moved)
      where
        alone : (g : Found) → Member g (f ∷ []) → plays_in st g ≡ false
        alone g (inl same) = subst (λ h. plays_in st h ≡ false) same (beyond-passed st.committed f far)
        alone g (inr m) = absurd m
    moves_found f old new (ts, inr one, moved) = moves_with (Candidate f) old new tt (subst (λ us. IsPermutation (us ++ old) new) one moved)

    -- nodes, one after the other
    abbrev MovesNodes : List WalkNode → List Turn → List Turn → Type 0
    MovesNodes ns old new = Moves IsNode s st (flat_map s.every ns) (λ c. sum_by (s.opened c) ns) (sum_by s.size ns) old new

    moves_each : (ns : List WalkNode) (old new : List Turn) → All IsNode ns → Adds (AddsNode (distance_of st.committed) s.entry) ns old new
        → MovesNodes ns old new
    moves_each [] old new known moved = moves_without [] (λ c. 0) 0 old new (λ f m. absurd m) moved
    moves_each (n ∷ ns) old new known (mid, one, rest) =
        moves_within (s.every n ++ flat_map s.every ns) (λ c. s.opened c n + sum_by (s.opened c) ns) (λ c. sum_by (s.opened c) (n ∷ ns))
        (s.size n + sum_by s.size ns) (sum_by s.size (n ∷ ns)) old new
        (λ c. let sum : sum_by (s.opened c) (n ∷ ns) ≡ s.opened c n + sum_by (s.opened c) ns = sum_by-cons (s.opened c) n ns in omega (arith, sum))
        (let sum : sum_by s.size (n ∷ ns) ≡ s.size n + sum_by s.size ns = sum_by-cons s.size n ns in omega (arith, sum))
        (moves_more (s.every n) (flat_map s.every ns) (λ c. s.opened c n) (λ c. sum_by (s.opened c) ns) (s.size n) (sum_by s.size ns) old mid new
        (moves_node n old mid (All-head IsNode n ns known) one) (moves_each ns mid new (All-tail IsNode n ns known) rest))

    -- where nothing is found right at a node, what is found below it is all that is found from it down
    below-every : (n : WalkNode) → IsNode n → s.finds n ≡ [] → s.every n ≡ flat_map s.every (s.below n)
    below-every n known none = scene.every n known ∙ ap (λ fs. fs ++ flat_map s.every (s.below n)) none

    every-passed : (before after : List WalkNode) (n : WalkNode) → IsNode n → s.finds n ≡ []
        → flat_map s.every (before ++ (s.below n ++ after)) ≡ flat_map s.every (before ++ n ∷ after)
    every-passed before after n known none =
        flat_map-append s.every before (s.below n ++ after)
        ∙ (ap (λ fs. flat_map s.every before ++ fs)
        (flat_map-append s.every (s.below n) after ∙ ap (λ fs. fs ++ flat_map s.every after) (sym (below-every n known none)))
        ∙ sym (flat_map-append s.every before (n ∷ after)))

    -- a sum over what stands in the place of a node is no more than one over the node
    sum-passed : (f : WalkNode → ℕ) (before after : List WalkNode) (n : WalkNode) → sum_by f (s.below n) ≤ f n
        → sum_by f (before ++ (s.below n ++ after)) ≤ sum_by f (before ++ n ∷ after)
    sum-passed f before after n less =
        let one : sum_by f (before ++ (s.below n ++ after)) ≡ sum_by f before + sum_by f (s.below n ++ after) = sum_by-append f before (s.below n ++ after) in
        let two : sum_by f (s.below n ++ after) ≡ sum_by f (s.below n) + sum_by f after = sum_by-append f (s.below n) after in
        let three : sum_by f (before ++ n ∷ after) ≡ sum_by f before + sum_by f (n ∷ after) = sum_by-append f before (n ∷ after) in
        let four : sum_by f (n ∷ after) ≡ f n + sum_by f after = sum_by-cons f n after in
        omega (arith, one, two, three, four, less)

    -- of nodes that are known, those that stand for one are
    known-passed : (before after : List WalkNode) (n : WalkNode) → All IsNode (before ++ n ∷ after) → IsNode n × All IsNode (before ++ (s.below n ++ after))
    known-passed [] after n known = (
      All-head IsNode n after known,
      All-joined (s.below n) after (scene.below n (All-head IsNode n after known)) (All-tail IsNode n after known),
    )
      where
        All-joined : (ms ns : List WalkNode) → All IsNode ms → All IsNode ns → All IsNode (ms ++ ns)
        All-joined [] ns a b = b
        All-joined (m ∷ ms) ns a b =
            All-cons IsNode m (ms ++ ns) (All-head IsNode m ms a) (All-joined ms ns (All-tail IsNode m ms a) b)
    known-passed (m ∷ ms) after n known =
        let rest = known-passed ms after n (All-tail IsNode m (ms ++ n ∷ after) known) in
        (rest.0, All-cons IsNode m (ms ++ (s.below n ++ after)) (All-head IsNode m (ms ++ n ∷ after) known) rest.1)

    -- nodes that stand for others move what these would
    moves_passed : (k : ℕ) (ns ms : List WalkNode) (old new : List Turn) → All IsNode ns → Passes s k ns ms
        → (All IsNode ms → MovesNodes ms old new) → MovesNodes ns old new
    moves_passed zero ns ms old new known same moves =
        subst (λ xs. MovesNodes xs old new) (sym same) (moves (subst (λ xs. All IsNode xs) same known))
    moves_passed (suc k) ns ms old new known (before, n, after, split, none, rest) moves =
        let both = known-passed before after n (subst (λ xs. All IsNode xs) split known) in
        let passed : MovesNodes (before ++ (s.below n ++ after)) old new = moves_passed k (before ++ (s.below n ++ after)) ms old new both.1 rest moves in
        subst (λ xs. MovesNodes xs old new) (sym split)
        (moves_within (flat_map s.every (before ++ n ∷ after)) (λ c. sum_by (s.opened c) (before ++ (s.below n ++ after)))
        (λ c. sum_by (s.opened c) (before ++ n ∷ after)) (sum_by s.size (before ++ (s.below n ++ after))) (sum_by s.size (before ++ n ∷ after)) old new
        (λ c. sum-passed (s.opened c) before after n (scene.nested n c both.0))
        (sum-passed s.size before after n
        (let size : 1 + (length (s.finds n) + sum_by s.size (s.below n)) ≤ s.size n = scene.size n both.0 in omega (arith, size)))
        (subst (λ fs. Moves IsNode s st fs (λ c. sum_by (s.opened c) (before ++ (s.below n ++ after))) (sum_by s.size (before ++ (s.below n ++ after))) old new)
        (every-passed before after n both.0 none) passed))

    pub moves_nodes : (ns : List WalkNode) (old new : List Turn) → All IsNode ns → AddsNodes (distance_of st.committed) s ns old new
        → MovesNodes ns old new
    moves_nodes ns old new known (k, ms, passes, added) =
        moves_passed k ns ms old new known passes (λ there. moves_each ms old new there added)

    moves_founds : (fs : List Found) (old new : List Turn) → Adds (AddsFound (distance_of st.committed)) fs old new
        → Moves IsNode s st fs (λ c. 0) (length fs) old new
    moves_founds [] old new moved = moves_without [] (λ c. 0) 0 old new (λ f m. absurd m) moved
    moves_founds (f ∷ fs) old new (mid, one, rest) =
        moves_within (f ∷ fs) (λ c. 0) (λ c. 0) (1 + length fs) (length (f ∷ fs)) old new (λ c. omega arith) (omega arith)
        (moves_more (f ∷ []) fs (λ c. 0) (λ c. 0) 1 (length fs) old mid new (moves_found f old mid one) (moves_founds fs mid new rest))

    -- opening a node
    pub moves_opened : (n : WalkNode) (old new : List Turn) → IsNode n → IsOpened (distance_of st.committed) s n old new
        → Moves IsNode s st (s.every n) (λ c. sum_by (s.opened c) (s.below n)) (length (s.finds n) + sum_by s.size (s.below n)) old new
    moves_opened n old new known (mid, found, nodes) =
        subst (λ more. Moves IsNode s st more (λ c. sum_by (s.opened c) (s.below n)) (length (s.finds n) + sum_by s.size (s.below n)) old new)
        (sym (scene.every n known))
        (moves_within (s.finds n ++ flat_map s.every (s.below n)) (λ c. 0 + sum_by (s.opened c) (s.below n)) (λ c. sum_by (s.opened c) (s.below n))
        (length (s.finds n) + sum_by s.size (s.below n)) (length (s.finds n) + sum_by s.size (s.below n)) old new
        (λ c. omega arith) (omega arith)
        (moves_more (s.finds n) (flat_map s.every (s.below n)) (λ c. 0) (λ c. sum_by (s.opened c) (s.below n)) (length (s.finds n)) (sum_by s.size (s.below n)) old mid new
        (moves_founds (s.finds n) old mid found) (moves_nodes (s.below n) mid new (scene.below n known) nodes)))
