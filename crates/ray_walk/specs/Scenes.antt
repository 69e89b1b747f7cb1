-- Words of private calls alone, which a reader of the public contracts needs not: a scene of the program, and an instance as it is
-- looked at.
use Rattle.std.specs.Prelude.{ℕ, ◌≡◌, ◌==◌, Bool, false, Option, Some, None, IfSome, List}
use Rattle.std.specs.List.{flat_map}
use Rattle.ray_geom.specs.ObjectRay.{object_of}
use Rattle.ray_geom.specs.Transform.{identity_value}
use Rattle.ray_flags.specs.Admission.{AsksBoth}
use Rattle.ray_leaves.specs.declared.prim_place.PrimPlace.{PrimPlace}
use Rattle.ray_geom.specs.declared.ratio.Ratio.{Ratio}
use Rattle.ray_nearest.specs.declared.node.WalkNode.{WalkNode}
use Rattle.ray_nearest.specs.declared.turn.Turn.{Turn}
use Rattle.ray_nearest.specs.Adding.{Adds, AddsFound, AddsNode}
use Rattle.ray_wide.specs.Subtrees.{IsWideLeaf}
use Rattle.ray_walk.specs.declared.aim.Aim.{Aim}
use Rattle.ray_walk.specs.declared.held.Held.{Held}
use Rattle.ray_walk.specs.declared.held.Looked.{Looked}
use Rattle.ray_walk.specs.Aims.{IsAimed}
use Rattle.ray_walk.specs.WideScene.{wide_entry}
use Rattle.ray_top.specs.Instances.{instance_value}
use Rattle.ray_walk.specs.Sound.{IsWalkable}
use Rattle.ray_candidates.specs.Placements.{Placement}
use Rattle.ray_walk.specs.Traced.{Traced, found_at_place, placement_at}

-- what is known of what a ray is traced through: all of it is sound, and the flags agree
pub record IsAtHand (s : Traced) : Type 0 where
  pub walkable : IsWalkable s
  pub agree : AsksBoth s.flags → ⊥

-- an instance that is looked at, with its structure
abbrev pub placement_value : Looked → Placement
placement_value looked = record { instance = instance_value looked.instance.now; bottom = looked.bottom.now }

-- ---- what a scene of the program keeps

-- a ray in the world
pub record IsInWorld (s : Traced) (world : Aim) : Type 0 where
  pub ray_is : world.ray ≡ object_of s.ray identity_value
  pub aimed : IsAimed world
  pub recent : IfSome world.recent (IsWideLeaf s.top.tree.nodes)

-- an instance of a number that is looked at: it is placed, and the ray is in its object's space
pub record IsLookedAt (s : Traced) (number : ℕ) (looked : Looked) (aim : Aim) : Type 0 where
  pub placed : placement_at s number ≡ Some (placement_value looked)
  pub ray_is : aim.ray ≡ object_of s.ray looked.instance.now.matrix
  pub aimed : IsAimed aim
  pub recent : IfSome aim.recent (IsWideLeaf looked.bottom.now.tree.nodes)

-- one that is held
abbrev pub IsHeld : Traced → Held → Type 0
IsHeld s h = IsLookedAt s h.number h.looked h.aim

-- whether it is that of a number
abbrev pub is_of : ℕ → Option Held → Bool
is_of i None = false
is_of i (Some h) = h.number == i

-- the instance of a number is held; none is where it isn't placed
abbrev pub IsHolding : Traced → ℕ → Option Held → Type 0
IsHolding s i None = placement_at s i ≡ None
IsHolding s i (Some h) = (h.number ≡ i) × IsHeld s h

pub record IsKeeping (s : Traced) (world : Aim) (held : Option Held) : Type 0 where
  pub in_world : IsInWorld s world
  pub held_is : IfSome held (IsHeld s)

-- ---- turns

-- the turns of nodes of a scene were added
abbrev pub AddsWide : Option Ratio → Traced → List WalkNode → List Turn → List Turn → Type 0
AddsWide limit s = Adds (AddsNode limit (wide_entry s))

-- and of what is found at places of a structure
abbrev pub AddsFoundAt : Option Ratio → Traced → ℕ → Placement → List PrimPlace → List Turn → List Turn → Type 0
AddsFoundAt limit s i p places = Adds (AddsFound limit) (flat_map (found_at_place s i p) places)
