-- A scene from its parts keeps the laws of scenes.
use Rattle.std.proofs.Common.{◌≡◌, ◌∙◌, ◌++◌, ◌+◌, ◌≤◌, ◌<◌, ◌⊎◌, refl, sym, ap, subst, ℕ, zero, suc, Option, Some, None, Bool, true, false, if◌then◌else◌, List, [], ◌∷◌, length, map, All, inl, inr, sum_by, arith}
use Rattle.std.specs.List.{flat_map, sum}
use Rattle.std.proofs.lemmas.List.Folds.{flat_map-map}
use Rattle.std.proofs.lemmas.List.Sums.{sum-map, sum_by-cons}
use Rattle.std.proofs.lemmas.List.Concat.{flat_map-append}
use Rattle.ray_geom.specs.declared.ratio.Ratio.{Ratio}
use Rattle.std.specs.Ordering.{is_le}
use Rattle.std.proofs.lemmas.Cmp.{tied_itself}
use Rattle.ray_geom.specs.Ratio.{ratio_of}
use Rattle.ray_geom.specs.RatioLaws.{ratio_cmp-total}
use Rattle.ray_query.specs.declared.found.Found.{Found}
use Rattle.ray_nearest.specs.declared.node.WalkNode.{WalkNode}
use Rattle.ray_query.specs.KeyOrder.{AreApart}
use Rattle.ray_nearest.specs.Parts.{AreParts, IsBelow, Nests, SceneParts, all_from, every_with, grown, nodes_with, opened_with, scene_of, size_with, tested_at}
use Rattle.ray_query.specs.Limits.{Holds, is_open}
use Rattle.ray_nearest.specs.Scene.{IsScene, found_in}
use Rattle.ray_query.specs.Limits.{IsInOrder}
use Rattle.ray_query.proofs.Members.{Member-flat_map, sum_by-flat_map, All-from_Each, Each-from_members, Each-member, Member, Member-append}
use Rattle.ray_query.proofs.Orders.{Each-from_All, false-else, never}

map-same : {X Y : Type 0} (f g : X → Y) (xs : List X) → ((x : X) → Member x xs → f x ≡ g x) → map f xs ≡ map g xs
map-same f g [] h = refl
map-same f g (x ∷ xs) h =
    let first : f x ≡ g x = h x (inl refl) in
    let rest : map f xs ≡ map g xs = map-same f g xs (λ y m. h y (inr m)) in
    λ i. first i ∷ rest i

-- each member, from what holds of all
each_member : {X : Type 0} (P : X → Type 0) (xs : List X) → All P xs → (x : X) → Member x xs → P x
each_member P xs all x m = Each-member P xs x (Each-from_All P xs all) m

all_members : {X : Type 0} (P : X → Type 0) (xs : List X) → ((x : X) → Member x xs → P x) → All P xs
all_members P xs h = All-from_Each P xs (Each-from_members P xs h)

flat_map-same : {X Y : Type 0} (f g : X → List Y) (xs : List X) → ((x : X) → Member x xs → f x ≡ g x) → flat_map f xs ≡ flat_map g xs
flat_map-same f g [] h = refl
flat_map-same f g (x ∷ xs) h =
    let first : f x ≡ g x = h x (inl refl) in
    let rest : flat_map f xs ≡ flat_map g xs = flat_map-same f g xs (λ y m. h y (inr m)) in
    λ i. first i ++ rest i

flat_map-flat_map : {X Y Z : Type 0} (f : Y → List Z) (g : X → List Y) (xs : List X) → flat_map f (flat_map g xs) ≡ flat_map (λ x. flat_map f (g x)) xs
flat_map-flat_map f g [] = refl
flat_map-flat_map f g (x ∷ xs) = flat_map-append f (g x) (flat_map g xs) ∙ ap (λ zs. flat_map f (g x) ++ zs) (flat_map-flat_map f g xs)

sum_by-same : {X : Type 0} (f g : X → ℕ) (xs : List X) → ((x : X) → Member x xs → f x ≡ g x) → sum_by f xs ≡ sum_by g xs
sum_by-same f g [] h = refl
sum_by-same f g (x ∷ xs) h =
    let first : f x ≡ g x = h x (inl refl) in
    let rest : sum_by f xs ≡ sum_by g xs = sum_by-same f g xs (λ y m. h y (inr m)) in
    let one : sum_by f (x ∷ xs) ≡ f x + sum_by f xs = sum_by-cons f x xs in
    let two : sum_by g (x ∷ xs) ≡ g x + sum_by g xs = sum_by-cons g x xs in
    omega (arith, first, rest, one, two)

sum_by-none : {X : Type 0} (f : X → ℕ) (xs : List X) → ((x : X) → Member x xs → f x ≡ 0) → sum_by f xs ≡ 0
sum_by-none f [] h = refl
sum_by-none f (x ∷ xs) h =
    let first : f x ≡ 0 = h x (inl refl) in
    let rest : sum_by f xs ≡ 0 = sum_by-none f xs (λ y m. h y (inr m)) in
    let one : sum_by f (x ∷ xs) ≡ f x + sum_by f xs = sum_by-cons f x xs in
    omega (arith, first, rest, one)

left_out : (b : Bool) (x : ℕ) → b ≡ false → (if b then x else 0) ≡ 0
left_out true x h = absurd (cc)
left_out false x h = refl

-- where an inner box is met within a limit, an outer one is, also where there is no limit
pub open-outer : (outer inner limit : Option Ratio) → Nests outer inner → is_open limit inner ≡ true → is_open limit outer ≡ true
open-outer outer inner (Some t) nests met = nests t met
open-outer outer None None nests met = absurd (cc)
open-outer outer (Some e) None nests met = is_there outer (nests e (ap is_le (tied_itself ratio_cmp-total e)))
  where
    is_there : (o : Option Ratio) → is_open (Some e) o ≡ true → is_open None o ≡ true
    is_there None h = absurd (cc)
    is_there (Some a) h = refl

module _ (IsNode : WalkNode → Type 0) (p : SceneParts) (parts : AreParts IsNode p) where
  child : (n : WalkNode) → IsNode n → (c : WalkNode) → Member c (p.below n) → IsBelow IsNode p n c
  child n known c m = each_member (IsBelow IsNode p n) (p.below n) (parts.below n known) c m

  -- more levels than a node's rank change nothing
  module _ {A : Type 0} (make : WalkNode → List A → A) (none : A) where
    stable : (j k : ℕ) (n : WalkNode) → IsNode n → p.rank n < j → p.rank n < k → grown p.below make none j n ≡ grown p.below make none k n
    unfolding grown
    stable zero k n known lower low = absurd (omega (arith, lower))
    stable (suc j) zero n known lower low = absurd (omega (arith, low))
    stable (suc j) (suc k) n known lower low =
        ap (make n) (map-same (grown p.below make none j) (grown p.below make none k) (p.below n)
        (λ c m.
        let b : IsBelow IsNode p n c = child n known c m in
        let less : p.rank c < p.rank n = b.lower in
        stable j k c b.known (omega (arith, lower, less)) (omega (arith, low, less))))

    unfolds : (n : WalkNode) → IsNode n
        → grown p.below make none (suc (p.rank n)) n ≡ make n (map (λ c. grown p.below make none (suc (p.rank c)) c) (p.below n))
    unfolding grown
    unfolds n known =
        ap (make n) (map-same (grown p.below make none (p.rank n)) (λ c. grown p.below make none (suc (p.rank c)) c) (p.below n)
        (λ c m.
        let b : IsBelow IsNode p n c = child n known c m in
        stable (p.rank n) (suc (p.rank c)) c b.known b.lower (omega arith)))

  -- what is found from a node down: below it, and right there
  pub every : (n : WalkNode) → IsNode n → (scene_of p).every n ≡ p.finds n ++ flat_map (scene_of p).every (p.below n)
  every n known =
      unfolds (every_with p) [] n known ∙
      ap (λ fs. p.finds n ++ fs) (flat_map-map (λ fs. fs) (scene_of p).every (p.below n))

  -- all nodes from a node down: itself, and those below it
  pub all : (n : WalkNode) → IsNode n → all_from p n ≡ n ∷ flat_map (all_from p) (p.below n)
  all n known = unfolds nodes_with [] n known ∙ ap (λ ns. n ∷ ns) (flat_map-map (λ ns. ns) (all_from p) (p.below n))

  size : (n : WalkNode) → IsNode n → 1 + (length (p.finds n) + sum_by (scene_of p).size (p.below n)) ≤ (scene_of p).size n
  size n known =
      let at : (scene_of p).size n ≡ 1 + (length (p.finds n) + sum (map (scene_of p).size (p.below n))) = unfolds (size_with p) 0 n known in
      let same : sum (map (scene_of p).size (p.below n)) ≡ sum_by (scene_of p).size (p.below n) = sum-map (scene_of p).size (p.below n) in
      omega (arith, at, same)

  chosen : (b : Bool) (x : ℕ) → b ≡ true → (if b then x else 0) ≡ x
  chosen true x h = refl
  chosen false x h = absurd (cc)

  -- what is opened from a node down: where the node is met, what is tested there and what is opened below
  pub opened-is : (n : WalkNode) (limit : Option Ratio) → IsNode n
      → (scene_of p).opened limit n ≡ (if is_open limit (p.entry n) then p.tests n + sum_by ((scene_of p).opened limit) (p.below n) else 0)
  opened-is n limit known =
      unfolds (opened_with p limit) 0 n known ∙
      ap (λ below. if is_open limit (p.entry n) then p.tests n + below else 0) (sum-map ((scene_of p).opened limit) (p.below n))

  opened : (n : WalkNode) (limit : Option Ratio) → IsNode n → is_open limit (p.entry n) ≡ true
      → p.tests n + sum_by ((scene_of p).opened limit) (p.below n) ≤ (scene_of p).opened limit n
  opened n limit known met =
      let at : (scene_of p).opened limit n ≡ p.tests n + sum_by ((scene_of p).opened limit) (p.below n) =
      opened-is n limit known ∙ chosen (is_open limit (p.entry n)) _ met in
      omega (arith, at)

  -- where a node isn't met none below it is
  none_open : (n c : WalkNode) (limit : Option Ratio) → IsBelow IsNode p n c → is_open limit (p.entry n) ≡ false → (scene_of p).opened limit c ≡ 0
  none_open n c limit b shut =
      opened-is c limit b.known ∙
      left_out (is_open limit (p.entry c)) _
      (false-else (is_open limit (p.entry c)) (λ met. never (is_open limit (p.entry n)) (open-outer (p.entry n) (p.entry c) limit b.nests met) shut))

  -- what is opened below a node is opened from it down
  nested : (n : WalkNode) (limit : Option Ratio) → IsNode n → sum_by ((scene_of p).opened limit) (p.below n) ≤ (scene_of p).opened limit n
  nested n limit known = by (is_open limit (p.entry n)) refl (opened n limit known)
    where
      by : (b : Bool) → is_open limit (p.entry n) ≡ b
          → (is_open limit (p.entry n) ≡ true → p.tests n + sum_by ((scene_of p).opened limit) (p.below n) ≤ (scene_of p).opened limit n)
          → sum_by ((scene_of p).opened limit) (p.below n) ≤ (scene_of p).opened limit n
      by true met all = let most : p.tests n + sum_by ((scene_of p).opened limit) (p.below n) ≤ (scene_of p).opened limit n = all met in omega (arith, most)
      by false shut all =
          let none : sum_by ((scene_of p).opened limit) (p.below n) ≡ 0 =
          sum_by-none ((scene_of p).opened limit) (p.below n) (λ c m. none_open n c limit (child n known c m) shut) in
          omega (arith, none)

  -- what holds right at each node, and goes up from a node to the one above, holds of all that is found from a node down
  module _ (P : WalkNode → Found → Type 0) (here : (n : WalkNode) → IsNode n → (f : Found) → Member f (p.finds n) → P n f)
      (up : (n c : WalkNode) (f : Found) → IsBelow IsNode p n c → P c f → P n f) where
    pub throughout : (k : ℕ) (n : WalkNode) → IsNode n → p.rank n < k → (f : Found) → Member f ((scene_of p).every n) → P n f
    throughout zero n known low f m = absurd (omega (arith, low))
    throughout (suc k) n known low f m =
        by (Member-append (p.finds n) (flat_map (scene_of p).every (p.below n)) f (subst (Member f) (every n known) m))
        (λ c among. let b : IsBelow IsNode p n c = child n known c among in let less : p.rank c < p.rank n = b.lower in
        throughout k c b.known (omega (arith, low, less)) f)
      where
        below : (c : WalkNode) × Member c (p.below n) × Member f ((scene_of p).every c)
            → ((c : WalkNode) → Member c (p.below n) → Member f ((scene_of p).every c) → P c f) → P n f
        below (c, among, there) rest = up n c f (child n known c among) (rest c among there)

        by : Member f (p.finds n) ⊎ Member f (flat_map (scene_of p).every (p.below n))
            → ((c : WalkNode) → Member c (p.below n) → Member f ((scene_of p).every c) → P c f) → P n f
        by (inl m) rest = here n known f m
        by (inr m) rest = below (Member-flat_map (scene_of p).every (p.below n) f m) rest

  -- ---- node by node

  -- what is found from a node down is what is found right at each node from there down
  pub every-each : (k : ℕ) (n : WalkNode) → IsNode n → p.rank n < k → (scene_of p).every n ≡ flat_map p.finds (all_from p n)
  every-each zero n known low = absurd (omega (arith, low))
  every-each (suc k) n known low =
      every n known ∙
      (ap (λ fs. p.finds n ++ fs)
      (flat_map-same (scene_of p).every (λ c. flat_map p.finds (all_from p c)) (p.below n)
      (λ c m. let b : IsBelow IsNode p n c = child n known c m in let less : p.rank c < p.rank n = b.lower in
      every-each k c b.known (omega (arith, low, less))) ∙
      sym (flat_map-flat_map p.finds (all_from p) (p.below n))) ∙
      sym (ap (flat_map p.finds) (all n known)))

  -- what is opened from a node down is what is tested right at each node from there down whose own box is met: since boxes nest, those above are too
  pub opened-each : (limit : Option Ratio) (k : ℕ) (n : WalkNode) → IsNode n → p.rank n < k
      → (scene_of p).opened limit n ≡ sum_by (tested_at p limit) (all_from p n)
  opened-each limit zero n known low = absurd (omega (arith, low))
  opened-each limit (suc k) n known low =
      let below : sum_by ((scene_of p).opened limit) (p.below n) ≡ sum_by (λ c. sum_by (tested_at p limit) (all_from p c)) (p.below n) =
      sum_by-same ((scene_of p).opened limit) (λ c. sum_by (tested_at p limit) (all_from p c)) (p.below n)
      (λ c m. let b : IsBelow IsNode p n c = child n known c m in let less : p.rank c < p.rank n = b.lower in
      opened-each limit k c b.known (omega (arith, low, less))) in
      let joined : sum_by (tested_at p limit) (flat_map (all_from p) (p.below n)) ≡ sum_by (λ c. sum_by (tested_at p limit) (all_from p c)) (p.below n) =
      sum_by-flat_map (tested_at p limit) (all_from p) (p.below n) in
      let each : sum_by (tested_at p limit) (all_from p n) ≡ tested_at p limit n + sum_by (tested_at p limit) (flat_map (all_from p) (p.below n)) =
      ap (sum_by (tested_at p limit)) (all n known) ∙ sum_by-cons (tested_at p limit) n (flat_map (all_from p) (p.below n)) in
      opened-is n limit known ∙
      by (is_open limit (p.entry n)) refl (omega (arith, below, joined)) ∙ sym each
    where
      by : (b : Bool) → is_open limit (p.entry n) ≡ b
          → sum_by ((scene_of p).opened limit) (p.below n) ≡ sum_by (tested_at p limit) (flat_map (all_from p) (p.below n))
          → (if b then p.tests n + sum_by ((scene_of p).opened limit) (p.below n) else 0)
          ≡ (if b then p.tests n else 0) + sum_by (tested_at p limit) (flat_map (all_from p) (p.below n))
      by true met same = ap (λ x. p.tests n + x) same
      by false shut same =
          let none : sum_by ((scene_of p).opened limit) (p.below n) ≡ 0 =
          sum_by-none ((scene_of p).opened limit) (p.below n) (λ c m. none_open n c limit (child n known c m) shut) in
          omega (arith, none, same)

  pub IsScene-scene_of : AreApart (found_in (scene_of p)) → IsScene IsNode (scene_of p)
  IsScene-scene_of apart = record {
    roots = parts.roots;
    below = λ n known. all_members IsNode (p.below n) (λ c m. (child n known c m).known);
    every = every;
    size = size;
    quiet = parts.quiet;
    apart = apart;
    holds = λ n known. all_members (Holds (p.entry n)) ((scene_of p).every n)
        (throughout (λ n f. Holds (p.entry n) f) (λ n known. each_member (Holds (p.entry n)) (p.finds n) (parts.holds n known))
        (λ n c f b h. b.nests (ratio_of f.t) h) (suc (p.rank n)) n known (omega arith));
    in_order = λ n known. all_members IsInOrder ((scene_of p).every n)
        (throughout (λ n f. IsInOrder f) (λ n known. each_member IsInOrder (p.finds n) (parts.in_order n known))
        (λ n c f b h. h) (suc (p.rank n)) n known (omega arith));
    nested = nested;
    opened = opened;
  }
