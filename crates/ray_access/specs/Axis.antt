-- One axis on which all buffers and structures stand side by side: each buffer, each structure and the
-- scratch memory of each buffer has a stretch of numbers of its own, by the command that made it. (Own.)
use Rattle.std.specs.Prelude.{◌≡◌, ℕ, ◌+◌, ◌*◌, ◌^◌, Option, Some, None, if◌then◌else◌, nat_lt}
use Rattle.ray_ranges.specs.declared.range.Range.{Range}
use Rattle.ray_ranges.specs.Meeting.{meets}
use Rattle.ray_rules.specs.declared.reach.Reach.{Reach}
use Rattle.ray_rules.specs.declared.reach.Reach.TheVariants.{Bytes, Structure, Scratch}
use Rattle.ray_rules.specs.declared.touch.Touch.{Touch}
use Rattle.ray_rules.specs.Hazards.{shares}
use Rattle.ray_rules.specs.Makers.{buffer_of, maker_of_buffer, maker_of_structure}
use Rattle.ray_rules.specs.Status.{Status}
use Rattle.ray_status.specs.Limits.{Fits}
use Rattle.ray_access.specs.declared.axis.Memory.{Memory}
use Rattle.ray_access.specs.declared.axis.Memory.TheVariants as memories
use Rattle.ray_access.specs.declared.touched.Touched.{Touched}

-- the number of a kind of memory
abbrev pub memory_number : Memory → ℕ
memory_number memories.Bytes = 0
memory_number memories.Structures = 1
memory_number memories.Scratch = 2

-- the number of a stretch: the stretches of one kind of memory stand side by side, as far as numbers of
-- commands go, which are below 2^32
abbrev pub stretch_number : Memory → ℕ → ℕ
stretch_number memory made =
    if nat_lt made (2 ^ 32) then memory_number memory * 2 ^ 32 + made else 3 * made + memory_number memory

-- where the stretch of what a command made begins
abbrev pub stretch_from : Memory → ℕ → ℕ
stretch_from memory made = stretch_number memory made * 2 ^ 70

-- the numbers of a part of what a command made: none where there is no such command
abbrev pub stretch : Memory → Option ℕ → ℕ → ℕ → Range
stretch memory None from size = record { from = 0; end = 0 }
stretch memory (Some made) from size = record {
  from = stretch_from memory made + from;
  end = stretch_from memory made + (from + size);
}

-- the numbers of what is reached where a status stands
abbrev pub extent_of : Status → Reach → Range
extent_of z (Bytes r) = stretch memories.Bytes (maker_of_buffer z r.buffer) r.from r.size
extent_of z (Structure id) = stretch memories.Structures (maker_of_structure z id) 0 1
extent_of z (Scratch r) = stretch memories.Scratch (maker_of_buffer z r.buffer) r.from r.size

-- what is reached has its numbers within its stretch
abbrev pub ReachFits : Reach → Type 0
ReachFits (Bytes r) = Fits r
ReachFits (Structure id) = Unit {0}
ReachFits (Scratch r) = Fits r

-- a touch has
abbrev pub TouchFits : Touch → Type 0
TouchFits t = ReachFits t.reach

-- a touch, with its numbers and its buffer
abbrev pub touched : Status → Touch → Touched
touched z t = record { access = t.access; range = extent_of z t.reach; buffer = buffer_of z t.reach }

-- the law: what is reached where one status stands shares something with what is reached where another
-- does exactly where their numbers meet
abbrev pub SharingIsMeeting : Type 0
SharingIsMeeting =
    (z w : Status) (r s : Reach) → ReachFits r → ReachFits s → shares z w r s ≡ meets (extent_of z r) (extent_of w s)
