use Rattle.std.proofs.Common.{◌≡◌, ◌≤◌, ℕ, length, take}
use Rattle.ray_marks.specs.Rising.{mark_of}
use Rattle.ray_hazards.specs.Lasts.{has_it, marked_if}
use Rattle.ray_hazards.proofs.lane.mark_reads.Given as goal

-- the cells of the touches before are marked
abbrev pub invariant-loop-touch : goal.invariant-loop-touch
invariant-loop-touch l =
    (length l.marks ≡ length l.initial.marks)
    × ((c : ℕ) → mark_of l.marks c ≤ l.value)
    × ((c : ℕ) → mark_of l.marks c ≡ marked_if (has_it l.cells) (take l.touch-index l.touches) l.value (mark_of l.initial.marks c) c)
