-- What a trace asks of the structures that it is lent: that each active instance's stands there, as it was when the top
-- structure was built or last updated. (Vulkan: an instance's structure has to be built, and not to have changed since.)
use Rattle.std.specs.Prelude.{◌≡◌, Some, IfSome, List, All}
use Rattle.ray_geometries.specs.Contents.{ContentsValue as BottomContents, bounds_of}
use Rattle.ray_bottom.specs.Slots.{Slots, contents_at}
use Rattle.ray_top.specs.declared.used.Used.{Used}
use Rattle.ray_top.specs.Instances.{InstanceValue}
use Rattle.ray_top.specs.InstanceReading.{bounds_in}
use Rattle.ray_top.specs.Contents.{TopValue}
use Rattle.ray_candidates.specs.Candidates.{Structures}

-- the structures that the program keeps under ids
abbrev pub structures_in : Slots → Structures
structures_in slots id = contents_at id slots

-- the structure of an instance stands under its id, with the bounds that stand beside the id
pub record IsStanding (used : List Used) (bottoms : Structures) (i : InstanceValue) : Type 0 where
  pub bottom : BottomContents
  pub stands : bottoms i.id ≡ Some bottom
  pub bounds : bounds_in used i.id ≡ Some (bounds_of bottom.geometries)

-- so it is with each active instance of a top structure
pub record AreStanding (top : TopValue) (bottoms : Structures) : Type 0 where
  pub each : All (λ i. IfSome i (IsStanding top.used bottoms)) top.contents.instances

-- the structure of an entry stands under its id, with its bounds
pub record IsHere (bottoms : Structures) (entry : Used) : Type 0 where
  pub bottom : BottomContents
  pub stands : bottoms entry.id ≡ Some bottom
  pub bounds : entry.bounds ≡ bounds_of bottom.geometries
