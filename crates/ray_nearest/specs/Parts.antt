-- A scene from its parts: what is right at each node, and which nodes are right below it. What is found or opened from a node down is
-- grown from that.
use Rattle.std.specs.Prelude.{ℕ, zero, suc, ◌≡◌, ◌+◌, ◌<◌, ◌++◌, true, if◌then◌else◌, Option, Some, List, [], ◌∷◌, length, map, All}
use Rattle.std.specs.List.{sum, flat_map}
use Rattle.ray_geom.specs.declared.ratio.Ratio.{Ratio}
use Rattle.ray_query.specs.declared.found.Found.{Found}
use Rattle.ray_nearest.specs.declared.node.WalkNode.{WalkNode}
use Rattle.ray_query.specs.Limits.{Holds, is_open}
use Rattle.ray_nearest.specs.Scene.{IsQuiet, SceneValue}
use Rattle.ray_query.specs.Limits.{IsInOrder}

-- what is right at each node: as in `SceneValue`, with a rank that falls from a node to those below
pub record SceneParts : Type 0 where
  pub roots : List WalkNode
  pub entry : WalkNode → Option Ratio
  pub below : WalkNode → List WalkNode
  pub finds : WalkNode → List Found
  pub tests : WalkNode → ℕ
  pub rank : WalkNode → ℕ

-- what is made, at each node, of what is made at the nodes right below it; so many levels down
unfoldable pub grown : {A : Type 0} → (WalkNode → List WalkNode) → (WalkNode → List A → A) → A → ℕ → WalkNode → A
grown below make none zero n = none
grown below make none (suc k) n = make n (map (grown below make none k) (below n))

-- what is found right at a node, and below it
abbrev pub every_with : SceneParts → WalkNode → List (List Found) → List Found
every_with p n lists = p.finds n ++ flat_map (λ fs. fs) lists

-- where a node is met within a limit, what is tested there and what is opened below; else nothing
abbrev pub opened_with : SceneParts → Option Ratio → WalkNode → List ℕ → ℕ
opened_with p limit n counts = if is_open limit (p.entry n) then p.tests n + sum counts else 0

-- the node, what is found there, and the sizes of those below
abbrev pub size_with : SceneParts → WalkNode → List ℕ → ℕ
size_with p n sizes = 1 + (length (p.finds n) + sum sizes)

-- the node, and those below it
abbrev pub nodes_with : WalkNode → List (List WalkNode) → List WalkNode
nodes_with n lists = n ∷ flat_map (λ ns. ns) lists

-- all nodes from a node down
abbrev pub all_from : SceneParts → WalkNode → List WalkNode
all_from p n = grown p.below nodes_with [] (suc (p.rank n)) n

-- what is tested right at a node, where its own box is met within a limit
abbrev pub tested_at : SceneParts → Option Ratio → WalkNode → ℕ
tested_at p limit n = if is_open limit (p.entry n) then p.tests n else 0

-- the scene of such parts
abbrev pub scene_of : SceneParts → SceneValue
scene_of p = record {
  roots = p.roots;
  entry = p.entry;
  below = p.below;
  finds = p.finds;
  tests = p.tests;
  every = λ n. grown p.below (every_with p) [] (suc (p.rank n)) n;
  opened = λ limit n. grown p.below (opened_with p limit) 0 (suc (p.rank n)) n;
  size = λ n. grown p.below (size_with p) 0 (suc (p.rank n)) n;
}

-- a box is in another, as a ray sees it: where the inner one is met within a distance, the outer one is
abbrev pub Nests : Option Ratio → Option Ratio → Type 0
Nests outer inner = (t : Ratio) → is_open (Some t) inner ≡ true → is_open (Some t) outer ≡ true

-- a node right below another is known, has a lower rank, and its box is in the other's
pub record IsBelow (IsNode : WalkNode → Type 0) (p : SceneParts) (n c : WalkNode) : Type 0 where
  pub known : IsNode c
  pub lower : p.rank c < p.rank n
  pub nests : Nests (p.entry n) (p.entry c)

-- the laws of parts, each about one node
pub record AreParts (IsNode : WalkNode → Type 0) (p : SceneParts) : Type 0 where
  pub roots : All IsNode p.roots
  pub below : (n : WalkNode) → IsNode n → All (IsBelow IsNode p n) (p.below n)
  pub holds : (n : WalkNode) → IsNode n → All (Holds (p.entry n)) (p.finds n)
  pub in_order : (n : WalkNode) → IsNode n → All IsInOrder (p.finds n)
  pub quiet : (n : WalkNode) → IsQuiet p.tests n
