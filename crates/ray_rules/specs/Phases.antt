-- Rules on the command buffer. (Vulkan, "Command Buffer Lifecycle"; own: that the other host
-- commands need an idle one, and that a `read` and a `destroy` need a `wait`.)
use Rattle.std.specs.Prelude.{Option, None, Bool, true, false, not}
use Rattle.ray_cmd.specs.declared.command.Command.{Command}
use Rattle.ray_cmd.specs.declared.command.Command.TheVariants as commands
use Rattle.ray_cmd.specs.declared.place.Place.{Place}
use Rattle.ray_rules.specs.declared.phase.Phase.{Phase}
use Rattle.ray_rules.specs.declared.phase.Phase.TheVariants.{Idle, Recording, Ended}
use Rattle.ray_rules.specs.Places.{whole}
use Rattle.ray_rules.specs.Status.{Status}

-- the state of the command buffer that a command needs
unfoldable pub phase_needed : Command → Phase
phase_needed (commands.Buffer id size usage content) = Idle
phase_needed (commands.Structure id kind buffer offset size) = Idle
phase_needed (commands.Destroy what id) = Idle
phase_needed (commands.Sizes kind counts) = Idle
phase_needed commands.Begin = Idle
phase_needed commands.End = Recording
phase_needed commands.Submit = Ended
phase_needed commands.Wait = Idle
phase_needed (commands.Read buffer offset size form) = Idle
phase_needed (commands.Update buffer offset content) = Recording
phase_needed (commands.Fill buffer offset size value) = Recording
phase_needed (commands.Copy src dst regions) = Recording
phase_needed (commands.Build infos) = Recording
phase_needed (commands.CopyStructure mode src dst) = Recording
phase_needed (commands.Serialize src dst form) = Recording
phase_needed (commands.Deserialize src dst uses) = Recording
phase_needed (commands.Property what structures dst) = Recording
phase_needed (commands.Barrier src_stages src_access dst_stages dst_access buffers) = Recording
phase_needed (commands.Trace top rays count hits flags mask script) = Recording

-- whether two states are the same
abbrev pub is_same_phase : Phase → Phase → Bool
is_same_phase Idle Idle = true
is_same_phase Recording Recording = true
is_same_phase Ended Ended = true
is_same_phase _ _ = false

-- V28: the state of the command buffer is wrong
abbrev pub v28 : Status → Command → Option Place
v28 z command = whole (not (is_same_phase (phase_needed command) z.phase))

-- V28 at the end of a recording, which needs an idle command buffer
abbrev pub v28_at_end : Status → Option Place
v28_at_end z = whole (not (is_same_phase Idle z.phase))

-- V29: `read` with a `submit` after the last `wait`
unfoldable pub v29 : Status → Command → Option Place
v29 z (commands.Read buffer offset size form) = whole z.pending
v29 z _ = None
