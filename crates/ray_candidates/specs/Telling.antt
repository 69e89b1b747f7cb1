-- Words of private calls alone, which a reader of the public contracts needs not.
use Rattle.std.specs.Prelude.{◌≡◌, Option, Some, List, option_map}
use Rattle.std.specs.Option.{option_to_list}
use Rattle.ray_geom.specs.declared.frac.Frac.{Frac}
use Rattle.ray_geom.specs.Frac.{numerator, denominator}
use Rattle.ray_prune.specs.BoxReach.{SpanValue}
use Rattle.ray_contents.specs.Bounds.{KeepsBounds}
use Rattle.ray_flags.specs.Admission.{ForcesBoth}
use Rattle.ray_geometries.specs.Contents.{ContentsValue as BottomContents, bounds_of}
use Rattle.ray_query.specs.declared.found.Found.{Found}
use Rattle.ray_query.specs.declared.raw_found.RawFound.{RawFound}
use Rattle.ray_query.specs.Raw.{reduced_found}
use Rattle.ray_top.specs.Instances.{InstanceValue, instance_value}
use Rattle.ray_candidates.specs.declared.placed.Placed.{Placed as PlacedHere}
use Rattle.ray_candidates.specs.Candidates.{Placed, Structures}

-- a placed geometry of the program as a value
abbrev pub placed_value : PlacedHere → Placed
placed_value at = record { number = at.number; instance = instance_value at.instance.now; geometry = at.geometry; opaque = at.opaque }

-- an instance may be placed: its flags agree, and its transform keeps the bounds of the structure that stands under its id
pub record IsPlaceable (bottoms : Structures) (i : InstanceValue) : Type 0 where
  pub kept : (bottom : BottomContents) → bottoms i.id ≡ Some bottom → KeepsBounds i.matrix (bounds_of bottom.geometries)
  pub agrees : ForcesBoth i.flags → ⊥

-- what was found, if anything, its fractions in lowest terms
abbrev pub found_raw : Option RawFound → List Found
found_raw found = option_to_list (option_map reduced_found found)

-- the span between two fractions
abbrev pub span_at : Frac → Frac → SpanValue
span_at entry exit = record { entry = (numerator entry, denominator entry); exit = (numerator exit, denominator exit) }
