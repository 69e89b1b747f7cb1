-- When rays can be traced in the memory as it is, where structures are looked up under their ids. (Own; after
-- the valid usage of OpRayQueryInitializeKHR.)
use Rattle.std.specs.Prelude.{ℕ, ◌≡◌, Some, IsSome}
use Rattle.std.specs.Option.{option_and_then}
use Rattle.ray_flags.specs.declared.ray_flags.RayFlags.{RayFlags}
use Rattle.ray_flags.specs.Admission.{AsksBoth}
use Rattle.ray_top.specs.Contents.{TopValue}
use Rattle.ray_candidates.specs.Candidates.{Structures}
use Rattle.ray_candidates.specs.Standing.{AreStanding}
use Rattle.ray_rules.specs.declared.byte_range.ByteRange.{ByteRange}
use Rattle.ray_action.specs.Memory.{Memory, ContentsAt, as_bottom, as_top, bytes_at}

-- the bottom structures that stand under ids
abbrev pub bottoms_of : Memory → Structures
bottoms_of memory id = option_and_then as_bottom (memory (ContentsAt id))

-- rays can be traced: they and the top structure are there, with the structures of its active instances as
-- they were; and the flags don't ask that everything counts as opaque and that nothing does
pub record IsTraceable (memory : Memory) (id : ℕ) (from : ByteRange) (flags : RayFlags) : Type 0 where
  pub rays : IsSome (bytes_at memory from)
  pub top : TopValue
  pub is_it : option_and_then as_top (memory (ContentsAt id)) ≡ Some top
  pub standing : AreStanding top (bottoms_of memory)
  pub flags_agree : AsksBoth flags → ⊥
