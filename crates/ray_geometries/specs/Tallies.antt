-- Words of private types alone, which a reader of the public contracts needs not: contents with what is counted of them.
use Rattle.std.specs.Prelude.{ℕ, ◌≡◌, Option, Some, None, List}
use Rattle.ray_geom.specs.Boxes.{BoxValue}
use Rattle.ray_flags.specs.declared.build_flags.BuildFlags.{BuildFlags}
use Rattle.ray_geometries.specs.declared.geometry.Geometry.{Geometry}
use Rattle.ray_geometries.specs.Contents.{ContentsValue, IsContents, bounds_of, total_of, active_of}

-- the contents of these flags and geometries
abbrev pub contents_value : BuildFlags → List Geometry → ContentsValue
contents_value flags geometries = record { flags = flags; geometries = geometries }

-- contents within the limits, with their bounds, how many primitives there are, and how many are active
pub record IsTallied (c : ContentsValue) (bounds : Option BoxValue) (total active : ℕ) : Type 0 where
  pub limits : IsContents c
  pub bounds_are : bounds ≡ bounds_of c.geometries
  pub total_is : total ≡ total_of c.geometries
  pub active_is : active ≡ active_of c.geometries

-- 1 for the box of an active primitive, 0 for an inactive one
abbrev pub one_if_some : Option BoxValue → ℕ
one_if_some None = 0
one_if_some (Some box) = 1
