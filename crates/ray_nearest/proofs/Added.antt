-- For who writes a scene: from the calls that add turns to `IsOpened`.
use Rattle.std.proofs.lemmas.List.{append_assoc, take_more}
use Rattle.std.proofs.Common.{ℕ, zero, suc, ap, ◌+◌, ◌<◌, length, slice_index_or, take, ◌≡◌, ◌∙◌, ◌++◌, refl, sym, subst, Option, Some, None, Bool, true, false, if◌then◌else◌, List, [], ◌∷◌, inl, inr}
use Rattle.std.specs.List.Sorted.{IsPermutation}
use Rattle.std.proofs.lemmas.List.Sorted.{IsPermutation-append_right, IsPermutation-refl, IsPermutation-trans}
use Rattle.ray_geom.specs.declared.ratio.Ratio.{Ratio}
use Rattle.ray_geom.specs.Ratio.{ratio_of}
use Rattle.ray_query.specs.declared.found.Found.{Found}
use Rattle.ray_nearest.specs.declared.node.WalkNode.{WalkNode}
use Rattle.ray_nearest.specs.declared.turn.Turn.{Turn}
use Rattle.ray_nearest.specs.declared.turn.Turn.TheVariants.{Node, Candidate}
use Rattle.ray_nearest.specs.Adding.{Adds, AddsFound, AddsNode, AddsNodes, AddsOne, IsLow, IsOpened, MayWait, Passes}
use Rattle.ray_nearest.specs.Scene.{SceneValue}
use Rattle.ray_query.specs.Limits.{is_open}
use Rattle.ray_query.specs.Limits.{is_within}
use Rattle.ray_nearest.specs.Turns.{turn_within}
use Rattle.ray_query.proofs.Orders.{beyond-farther}
use Rattle.ray_nearest.proofs.Waits.{waits-low}

-- ---- one

shut : (limit entry : Option Ratio) (e : Ratio) → IsLow entry e → is_within limit e ≡ false → is_open limit entry ≡ false
shut limit None e low far = refl
shut limit (Some a) e low far = beyond-farther limit e a low far

module _ (limit : Option Ratio) (old new : List Turn) where
  -- the turn of a node was pushed, at a ratio at which it may wait
  pub pushed_node : (entry : WalkNode → Option Ratio) (n : WalkNode) (e : Ratio) → MayWait (entry n) n e
      → IsPermutation (turn_within limit (Node e n) ++ old) new → AddsOne (AddsNode limit entry n) old new
  pushed_node entry n e waits moved = by (is_within limit e) refl moved
    where
      by : (b : Bool) → is_within limit e ≡ b → IsPermutation ((if b then Node e n ∷ [] else []) ++ old) new → AddsOne (AddsNode limit entry n) old new
      by true in_ p = (Node e n ∷ [], inr (e, waits, refl), p)
      by false far p = ([], inl (refl, shut limit (entry n) e (waits-low n (entry n) e waits) far), p)

  -- what was found was pushed
  pub pushed_found : (f : Found) → IsPermutation (turn_within limit (Candidate f) ++ old) new → AddsOne (AddsFound limit f) old new
  pushed_found f moved = by (is_within limit (ratio_of f.t)) refl moved
    where
      by : (b : Bool) → is_within limit (ratio_of f.t) ≡ b → IsPermutation ((if b then Candidate f ∷ [] else []) ++ old) new → AddsOne (AddsFound limit f) old new
      by true in_ p = (Candidate f ∷ [], inr refl, p)
      by false far p = ([], inl (refl, far), p)

-- ---- one after the other

module _ {X : Type 0} (P : X → List Turn → Type 0) where
  pub Adds-none : (turns : List Turn) → Adds P [] turns turns
  Adds-none turns = IsPermutation-refl turns

  Adds-before : (xs : List X) (old mid new : List Turn) → IsPermutation old mid → Adds P xs mid new → Adds P xs old new
  Adds-before [] old mid new moved p = IsPermutation-trans old mid new moved p
  Adds-before (x ∷ xs) old mid new moved (first, (ts, q, p), rest) =
      (first, (ts, q, IsPermutation-trans (ts ++ old) (ts ++ mid) first (IsPermutation-append_right ts old mid moved) p), rest)

  pub Adds-append : (xs ys : List X) (old mid new : List Turn) → Adds P xs old mid → Adds P ys mid new → Adds P (xs ++ ys) old new
  Adds-append [] ys old mid new moved rest = Adds-before ys old mid new moved rest
  Adds-append (x ∷ xs) ys old mid new (first, one, more) rest = (first, one, Adds-append xs ys first mid new more rest)

  pub Adds-more : (xs : List X) (x : X) (old mid new : List Turn) → Adds P xs old mid → AddsOne (P x) mid new → Adds P (xs ++ x ∷ []) old new
  Adds-more xs x old mid new before one = Adds-append xs (x ∷ []) old mid new before (new, one, IsPermutation-refl new)

  -- the step of a loop over a list
  pub Adds-take : (xs : List X) (i : ℕ) (x : X) (old mid new : List Turn) → i < length xs → x ≡ slice_index_or xs i x
      → Adds P (take i xs) old mid → AddsOne (P x) mid new → Adds P (take (i + 1) xs) old new
  Adds-take xs i x old mid new below at before one =
      subst (λ ys. Adds P ys old new) (sym (take_more xs i x below))
      (Adds-more (take i xs) (slice_index_or xs i x) old mid new before (subst (λ y. AddsOne (P y) mid new) at one))

-- ---- nodes that stand for others

-- each stands for itself
pub each_itself : (limit : Option Ratio) (s : SceneValue) (ns : List WalkNode) (old new : List Turn) → Adds (AddsNode limit s.entry) ns old new
    → AddsNodes limit s ns old new
each_itself limit s ns old new added = (0, ns, refl, added)

module _ (s : SceneValue) where
  inside : {X : Type 0} (fs bs cs ds es : List X) → fs ++ ((bs ++ (cs ++ ds)) ++ es) ≡ (fs ++ bs) ++ (cs ++ (ds ++ es))
  inside fs bs cs ds es =
      ap (λ xs. fs ++ xs) (append_assoc bs (cs ++ ds) es ∙ ap (λ xs. bs ++ xs) (append_assoc cs ds es)) ∙ sym (append_assoc fs bs (cs ++ (ds ++ es)))

  -- also among others
  pub Passes-among : (k : ℕ) (fs ns ms es : List WalkNode) → Passes s k ns ms → Passes s k (fs ++ (ns ++ es)) (fs ++ (ms ++ es))
  Passes-among zero fs ns ms es same = ap (λ xs. fs ++ (xs ++ es)) same
  Passes-among (suc k) fs ns ms es (before, n, after, split, none, rest) = (
    fs ++ before,
    n,
    after ++ es,
    ap (λ xs. fs ++ (xs ++ es)) split ∙ inside fs before (n ∷ []) after es,
    none,
    subst (λ xs. Passes s k xs (fs ++ (ms ++ es))) (inside fs before (s.below n) after es)
        (Passes-among k fs (before ++ (s.below n ++ after)) ms es rest),
  )

-- a node among others that add nothing, at which nothing is found: the nodes below it are added in its place
pub passed_by : (limit : Option Ratio) (s : SceneValue) (before after : List WalkNode) (n : WalkNode) (old new : List Turn) → s.finds n ≡ []
    → ((turns : List Turn) → Adds (AddsNode limit s.entry) before turns turns) → ((turns : List Turn) → Adds (AddsNode limit s.entry) after turns turns)
    → AddsNodes limit s (s.below n) old new → AddsNodes limit s (before ++ n ∷ after) old new
passed_by limit s before after n old new none first last (k, ms, passes, added) = (
  suc k,
  before ++ (ms ++ after),
  (before, n, after, refl, none, Passes-among s k before (s.below n) ms after passes),
  Adds-append (AddsNode limit s.entry) before (ms ++ after) old old new (first old)
      (Adds-append (AddsNode limit s.entry) ms after old new new added (last new)),
)

-- ---- a node

module _ (limit : Option Ratio) (s : SceneValue) (n : WalkNode) (old new : List Turn) where
  -- at which nothing is found
  pub IsOpened-inner : s.finds n ≡ [] → AddsNodes limit s (s.below n) old new → IsOpened limit s n old new
  IsOpened-inner none added = (old, subst (λ fs. Adds (AddsFound limit) fs old old) (sym none) (IsPermutation-refl old), added)

  -- below which there is none
  pub IsOpened-leaf : s.below n ≡ [] → Adds (AddsFound limit) (s.finds n) old new → IsOpened limit s n old new
  IsOpened-leaf none added =
      (new, added, subst (λ ns. AddsNodes limit s ns new new) (sym none) (each_itself limit s [] new new (IsPermutation-refl new)))
