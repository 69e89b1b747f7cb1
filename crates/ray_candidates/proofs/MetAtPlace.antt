-- What is found at a place is what the ray meets there, admitted.
use Rattle.std.proofs.Common.{ℕ, ◌≡◌, ◌∙◌, refl, ap, Option, Some, None, []}
use Rattle.std.specs.Prelude.{slice_get}
use Rattle.ray_geom.specs.Scene.{RayValue}
use Rattle.ray_flags.specs.declared.ray_flags.RayFlags.{RayFlags}
use Rattle.ray_geometries.specs.declared.geometry.Geometry.{Geometry}
use Rattle.ray_leaves.specs.declared.prim_place.PrimPlace.{PrimPlace}
use Rattle.ray_bottom.specs.Meeting.{MeetValue, meet_of}
use Rattle.ray_candidates.specs.Candidates.{found_at}
use Rattle.ray_candidates.specs.Placements.{Placement, found_by, found_by_place, met_in, met_at_place}

pub met-found : (ray : RayValue) (flags : RayFlags) (i : ℕ) (p : Placement) (place : PrimPlace) (told : Option MeetValue)
    → told ≡ meet_of p.bottom.geometries place ray p.instance.matrix → met_at_place flags i p place told ≡ found_by_place ray flags i p place
unfolding found_at
met-found ray flags i p place told same = ap (met_at_place flags i p place) same ∙ by (slice_get p.bottom.geometries place.geometry)
  where
    by : (g : Option Geometry) → met_in flags i p place (meet_of p.bottom.geometries place ray p.instance.matrix) g ≡ found_by ray flags i p place g
    by None = refl
    by (Some g) = refl

pub none-met : (flags : RayFlags) (i : ℕ) (p : Placement) (place : PrimPlace) → met_at_place flags i p place None ≡ []
none-met flags i p place = by (slice_get p.bottom.geometries place.geometry)
  where
    by : (g : Option Geometry) → met_in flags i p place None g ≡ []
    by None = refl
    by (Some g) = refl
