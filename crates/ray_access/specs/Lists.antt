-- Lists of touches, with their numbers. (Own.)
use Rattle.std.specs.Prelude.{ℕ, ◌≡◌, ◌+◌, ◌*◌, ◌++◌, List, [], ◌∷◌, Option, map, All}
use Rattle.std.specs.Option.{option_map_or}
use Rattle.ray_cmd.specs.declared.command.Command.{Command}
use Rattle.ray_cmd.specs.declared.spot.Spot.{Spot}
use Rattle.ray_rules.specs.declared.access_type.AccessType.TheVariants.{HostRead, ShaderRead, ShaderWrite}
use Rattle.ray_rules.specs.declared.byte_range.ByteRange.{ByteRange}
use Rattle.ray_rules.specs.declared.reach.Reach.TheVariants.{Bytes}
use Rattle.ray_rules.specs.declared.touch.Touch.{Touch}
use Rattle.ray_rules.specs.Access.{Accesses, at_bytes, structure_reads, uses_at}
use Rattle.ray_rules.specs.Status.{Status}
use Rattle.ray_access.specs.declared.touched.Touched.{Touched}
use Rattle.ray_access.specs.declared.touches.Touches.{Touches}
use Rattle.ray_access.specs.Axis.{TouchFits, touched}

-- the read of an input, where there is one
abbrev pub input_touches : Option ByteRange → List Touch
input_touches range = option_map_or (λ r. record { access = ShaderRead; reach = Bytes r } ∷ []) range []

-- a list is that of these touches where a status stands, each of which has its numbers within its
-- stretch
pub record AreTouched (z : Status) (ts : List Touch) (list : List Touched) : Type 0 where
  pub are : list ≡ map (touched z) ts
  pub fit : All TouchFits ts

-- a list has these touches more
pub record Adds (z : Status) (ts : List Touch) (old new : List Touched) : Type 0 where
  pub are : new ≡ old ++ map (touched z) ts
  pub fit : All TouchFits ts

-- the reads and the writes of what is accessed
pub record AreOf (z : Status) (accesses : Accesses) (touches : Touches) : Type 0 where
  pub reads : AreTouched z accesses.reads touches.reads.items
  pub writes : AreTouched z accesses.writes touches.writes.items

-- a list is that of the one read by the host
abbrev pub IsHostRead : Status → ℕ → ℕ → ℕ → List Touched → Type 0
IsHostRead z buffer from size list = AreTouched z (at_bytes HostRead buffer from size ∷ []) list

-- what a trace of the top of an id reads of structures: the top, and all that it may refer to
abbrev pub structures_traced : List Command → Status → ℕ → List Touch
structures_traced rec z top = structure_reads (top ∷ uses_at rec z top)

-- what else it reads and writes: its rays, and their hits
abbrev pub rays_traced : Spot → Spot → ℕ → Accesses
rays_traced rays hits count = record {
  reads = at_bytes ShaderRead rays.buffer (rays.offset + 40 * 0) (40 * count) ∷ [];
  writes = at_bytes ShaderWrite hits.buffer (hits.offset + 80 * 0) (80 * count) ∷ [];
}
