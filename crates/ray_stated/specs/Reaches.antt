-- How far entries reach along the axes, which no clause of a public call speaks of. (Own.)
use Rattle.std.specs.Prelude.{◌≤◌, ◌^◌, ℕ, zero, suc, min, max, List}
use Rattle.std.specs.List.{All}
use Rattle.ray_stated.specs.declared.entry.Entry.{Entry}
use Rattle.ray_stated.specs.declared.reach.Side.{Side}
use Rattle.ray_stated.specs.declared.reach.Sides.{Sides}
use Rattle.ray_stated.specs.declared.reach.Reach.{Reach}
use Rattle.ray_stated.specs.Entries.{entry_sum, entry_key}

-- the side of no number at all
abbrev pub no_side : Side
no_side = record { lo = 2 ^ 21; hi = 0 }

-- the side of one number more
abbrev pub wider_side : Side → ℕ → Side
wider_side side number = record { lo = min side.lo number; hi = max side.hi number }

-- the sides of no entry
abbrev pub no_sides : Sides
no_sides = record { x = no_side; y = no_side; z = no_side; items = no_side }

-- the sides with one entry more
abbrev pub widened : Sides → Entry → Sides
widened sides e = record {
  x = wider_side sides.x (entry_sum 0 e);
  y = wider_side sides.y (entry_sum 1 e);
  z = wider_side sides.z (entry_sum 2 e);
  items = wider_side sides.items e.item;
}

-- the side along an axis
abbrev pub side_along : ℕ → Sides → Side
side_along zero sides = sides.x
side_along (suc zero) sides = sides.y
side_along (suc (suc more)) sides = sides.z

-- an entry's key is within a reach
pub record IsWithinReach (reach : Reach) (e : Entry) : Type 0 where
  pub above : reach.lo ≤ entry_key reach.axis e
  pub below : entry_key reach.axis e ≤ reach.hi

-- and so is that of each
abbrev pub AreWithin : Reach → List Entry → Type 0
AreWithin reach entries = All (IsWithinReach reach) entries
