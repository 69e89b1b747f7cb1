-- What a certificate of a ray speaks of, as a function of what structures hold: for each active instance whose mask is seen, in rising
-- number, the stated tree of its structure, and what the ray meets and finds there. (Own.)
use Rattle.std.specs.Prelude.{ℕ, if◌then◌else◌, Option, Some, None, List, [], ◌∷◌, length, slice_get}
use Rattle.std.specs.List.{flat_map, range_with_len}
use Rattle.ray_geom.specs.ObjectRay.{object_of}
use Rattle.ray_geom.specs.Scene.{RayValue}
use Rattle.ray_flags.specs.declared.ray_flags.RayFlags.{RayFlags}
use Rattle.ray_tree.specs.Trees.{TreeValue, box_at, no_box}
use Rattle.ray_stated.specs.Stated.{stated_tree}
use Rattle.ray_geometries.specs.declared.geometry.Geometry.{Geometry}
use Rattle.ray_geometries.specs.Contents.{ContentsValue as BottomContents}
use Rattle.ray_leaves.specs.declared.prim_place.PrimPlace.{PrimPlace}
use Rattle.ray_bottom.specs.Trees.{items_of, place_at}
use Rattle.ray_top.specs.Instances.{InstanceValue}
use Rattle.ray_top.specs.Contents.{ContentsValue as TopContents}
use Rattle.ray_query.specs.declared.found.Found.{Found}
use Rattle.ray_candidates.specs.Candidates.{Structures, active_instance, found_at, is_seen, placed}
use Rattle.ray_candidates.specs.Placements.{entry_in}
use Rattle.ray_cert.specs.Parts.{Part}

-- what is found of the primitive at a place of a structure, as an instance of a number places it
abbrev pub found_there : RayValue → RayFlags → ℕ → InstanceValue → List Geometry → PrimPlace → Option Geometry → List Found
found_there ray flags number i geometries place None = []
found_there ray flags number i geometries place (Some geometry) =
    found_at ray flags geometries (placed flags number i place.geometry geometry) place.primitive

abbrev pub found_of_item : RayValue → RayFlags → ℕ → InstanceValue → List Geometry → ℕ → List Found
found_of_item ray flags number i geometries item =
    let place = place_at geometries item in
    found_there ray flags number i geometries place (slice_get geometries place.geometry)

-- the part of an instance: its structure's stated tree, where the ray enters the box of each node, and what it finds of each item
abbrev pub part_of : RayValue → RayFlags → ℕ → InstanceValue → List Geometry → Part
part_of ray flags number i geometries =
    let tree = stated_tree (items_of geometries) in record {
      tree = tree;
      entry = λ n. entry_in (object_of ray i.matrix) (box_at tree no_box n);
      find = found_of_item ray flags number i geometries;
    }

abbrev pub parts_with : RayValue → RayFlags → ℕ → InstanceValue → Option BottomContents → List Part
parts_with ray flags number i None = []
parts_with ray flags number i (Some bottom) = part_of ray flags number i bottom.geometries ∷ []

abbrev pub parts_at : Structures → RayValue → RayFlags → ℕ → ℕ → Option InstanceValue → List Part
parts_at bottoms ray flags mask number None = []
parts_at bottoms ray flags mask number (Some i) =
    if is_seen mask i then parts_with ray flags number i (bottoms i.id) else []

-- those of all instances
abbrev pub parts_in : TopContents → Structures → RayValue → RayFlags → ℕ → List Part
parts_in top bottoms ray flags mask =
    flat_map (λ number. parts_at bottoms ray flags mask number (active_instance top number)) (range_with_len 0 (length top.instances))
