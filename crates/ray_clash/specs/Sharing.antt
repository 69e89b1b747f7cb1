-- What two accesses reach both. (Own.)
use Rattle.std.specs.Prelude.{ℕ, ◌≡◌, ◌+◌, ◌<◌, Some, max, min}
use Rattle.ray_ranges.specs.declared.range.Range.{Range}
use Rattle.ray_rules.specs.declared.byte_range.ByteRange.{ByteRange}
use Rattle.ray_rules.specs.declared.reach.Reach.{Reach}
use Rattle.ray_rules.specs.declared.reach.Reach.TheVariants.{Bytes, Structure, Scratch}
use Rattle.ray_rules.specs.Makers.{maker_of_buffer, maker_of_structure}
use Rattle.ray_rules.specs.Status.{Status}
use Rattle.ray_clash.specs.declared.clash.Part.{Part}
use Rattle.ray_clash.specs.declared.clash.Shared.{Shared}
use Rattle.ray_clash.specs.declared.clash.Shared.TheVariants as shareds

-- bytes that are in both of two ranges of one buffer: all that are
pub record IsPart (z w : Status) (r s : ByteRange) (part : Part) : Type 0 where
  pub one : maker_of_buffer z r.buffer ≡ Some part.made
  pub other : maker_of_buffer w s.buffer ≡ Some part.made
  pub from : part.from ≡ max r.from s.from
  pub end : part.end ≡ min (r.from + r.size) (s.from + s.size)
  pub some : part.from < part.end

-- what is reached where one status stands and where another does
abbrev pub IsShared : Status → Status → Reach → Reach → Shared → Type 0
IsShared z w (Bytes r) (Bytes s) (shareds.Bytes part) = IsPart z w r s part
IsShared z w (Structure a) (Structure b) (shareds.Structure made) =
    (maker_of_structure z a ≡ Some made) × (maker_of_structure w b ≡ Some made)
IsShared z w (Scratch r) (Scratch s) (shareds.Scratch part) = IsPart z w r s part
IsShared z w _ _ _ = ⊥

-- what two ranges have both goes from one number to another
pub record IsMeet (from end : ℕ) (one other : Range) : Type 0 where
  pub from_is : from ≡ max one.from other.from
  pub end_is : end ≡ min one.end other.end
  pub some : from < end
