-- Updates of bottom structures: when the primitives of an update are those of the old structure, by number. (Vulkan: the
-- valid usage of vkCmdBuildAccelerationStructuresKHR for updates.)
use Rattle.std.specs.Prelude.{◌≡◌, Bool, is_some, List, [], ◌∷◌, map, IfSome}
use Rattle.ray_tree.specs.Trees.{TreeOver}
use Rattle.ray_geometries.specs.declared.geometry.Geometry.{Geometry}
use Rattle.ray_geometries.specs.Contents.{kind_of, count_of}
use Rattle.ray_bottom.specs.Trees.{BottomWithTree, items_of, items_of_shapes}
use Rattle.ray_bottom.specs.Builders.{BuilderWithTree}

-- as many geometries as the old ones, and each of the old kind and with as many primitives
pub record IsUpdateOf (olds news : List Geometry) : Type 0 where
  pub kinds : map kind_of news ≡ map kind_of olds
  pub counts : map count_of news ≡ map count_of olds

-- ---- words of a private type alone

-- which primitives of a geometry are active
abbrev pub activity_of : Geometry → List Bool
activity_of g = map is_some (items_of_shapes g.shapes)

-- a geometry of the old one's kind with as many primitives has its activity
pub record KeepsActivity (old new : Geometry) : Type 0 where
  pub same : kind_of new ≡ kind_of old → count_of new ≡ count_of old → activity_of new ≡ activity_of old

-- the same of each geometry so far that has an old one of its number
abbrev pub KeepActivity : List Geometry → List Geometry → Type 0
KeepActivity olds [] = Unit {0}
KeepActivity [] (g ∷ gs) = Unit {0}
KeepActivity (old ∷ olds) (g ∷ gs) = KeepsActivity old g × KeepActivity olds gs

-- a builder of an update: the old tree stands over the old primitives, and what was added so far keeps their activity
pub record CanRefit (geometries : List Geometry) (old : BottomWithTree) : Type 0 where
  pub over : TreeOver old.tree (items_of old.geometries)
  pub kept : KeepActivity old.geometries geometries

pub record IsUnderWay (b : BuilderWithTree) : Type 0 where
  pub update : IfSome b.replaced (CanRefit b.contents.geometries)
