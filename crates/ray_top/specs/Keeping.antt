-- Words of private types alone, which a reader of the public contracts needs not.
use Rattle.std.specs.Prelude.{ℕ, ◌≡◌, Option, List}
use Rattle.std.specs.Map.{lookup}
use Rattle.std.specs.BTreeMap.{is_at}
use Rattle.std.specs.Ordering.{nat_cmp}
use Rattle.ray_geom.specs.Boxes.{BoxValue}
use Rattle.ray_top.specs.declared.used.Used.{Used}
use Rattle.ray_top.specs.InstanceReading.{bounds_in}
use Rattle.ray_top.specs.Contents.{TopValue, IsTop, active_of}

-- what a map of ids has under one
abbrev pub bounds_at : ℕ → List (ℕ × Option BoxValue) → Option (Option BoxValue)
bounds_at id entries = lookup (is_at (nat_cmp id)) entries

-- a map of ids has what stands beside each in a list
pub record IsIndex (used : List Used) (entries : List (ℕ × Option BoxValue)) : Type 0 where
  pub each : (id : ℕ) → bounds_at id entries ≡ bounds_in used id

-- a top structure within the limits, with the number of its active instances
pub record IsCounted (t : TopValue) (active : ℕ) : Type 0 where
  pub limits : IsTop t
  pub active_is : active ≡ active_of t.contents.instances
