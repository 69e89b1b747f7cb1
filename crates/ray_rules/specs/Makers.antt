-- Which command made what is reached. What was made anew under an old id is another thing. (Own; after
-- the lifetimes of VkBuffer and VkAccelerationStructureKHR.)
use Rattle.std.specs.Prelude.{ℕ, Option, Some, None, Bool, false, ◌==◌, option_map}
use Rattle.ray_rules.specs.declared.live_buffer.LiveBuffer.{LiveBuffer}
use Rattle.ray_rules.specs.declared.live_structure.LiveStructure.{LiveStructure}
use Rattle.ray_rules.specs.declared.reach.Reach.{Reach}
use Rattle.ray_rules.specs.declared.reach.Reach.TheVariants.{Bytes, Structure, Scratch}
use Rattle.ray_rules.specs.Ids.{look}
use Rattle.ray_rules.specs.Status.{Status}

-- the number of the command that made the buffer, or the structure, of an id, where it is live
abbrev pub maker_of_buffer : Status → ℕ → Option ℕ
maker_of_buffer z id = option_map (λ (b : LiveBuffer). b.made) (look z.buffers id)

abbrev pub maker_of_structure : Status → ℕ → Option ℕ
maker_of_structure z id = option_map (λ (s : LiveStructure). s.made) (look z.structures id)

-- whether what two commands made is there, and is one thing
abbrev pub is_one : Option ℕ → Option ℕ → Bool
is_one (Some a) (Some b) = a == b
is_one _ _ = false

-- the buffer in which something is reached, by the command that made it: none where a structure is
-- reached. Scratch memory belongs to its buffer
abbrev pub buffer_of : Status → Reach → Option ℕ
buffer_of z (Bytes r) = maker_of_buffer z r.buffer
buffer_of z (Structure id) = None
buffer_of z (Scratch r) = maker_of_buffer z r.buffer
