-- What follows of a command from rules that it keeps.
use Rattle.std.proofs.Common.{◌≡◌, ◌+◌, ◌==◌, ◌<◌, ◌≤◌, ℕ, List, Option, Some, None, Bool, true, false, ◌||◌, refl, arith}
use Rattle.std.proofs.lemmas.Bool.{ltb-false}
use Rattle.std.proofs.lemmas.Bool.Decides.{nat_tests}
use Rattle.std.specs.Option.{is_some}
use Rattle.ray_cmd.specs.declared.structure_kind.StructureKind.{StructureKind}
use Rattle.ray_flags.specs.declared.usage.Usage.{Usage}
use Rattle.ray_cmd.specs.declared.command.Command.TheVariants as commands
use Rattle.ray_rules.specs.Buffers.{v2, is_longer}
use Rattle.ray_rules.specs.Ids.{look}
use Rattle.ray_rules.specs.Names.{v1, lacks_buffer}
use Rattle.ray_rules.specs.Places.{whole}
use Rattle.ray_rules.specs.Ranges.{range, is_outside}
use Rattle.ray_rules.specs.Spans.{misses}
use Rattle.ray_rules.specs.Status.{Status, live_bytes}
use Rattle.ray_rules.specs.Structures.{v6, overlaps_structure}

-- a rule that isn't broken in the command as a whole
whole-kept : (b : Bool) → whole b ≡ None → b ≡ false
whole-kept false kept = refl
whole-kept true kept = absurd (cc)

-- neither of two
left-false : (a b : Bool) → (a || b) ≡ false → a ≡ false
left-false false b e = refl
left-false true b e = e

right-false : (a b : Bool) → (a || b) ≡ false → b ≡ false
right-false false b e = e
right-false true b e = absurd (cc)

-- nothing stands there
nothing-there : {X : Type 0} (o : Option X) → is_some o ≡ false → o ≡ None
nothing-there None e = refl
nothing-there (Some x) e = absurd (cc)

-- a buffer that is made has an id of its own
pub buffer_is_new : (z : Status) (id size : ℕ) (usage : Usage) (content : Option (List ℕ))
    → v1 z (commands.Buffer id size usage content) ≡ None → look z.buffers id ≡ None
unfolding v1
buffer_is_new z id size usage content kept = nothing-there (look z.buffers id) (whole-kept _ kept)

-- a structure that is made has an id of its own
pub structure_is_new : (z : Status) (id : ℕ) (kind : StructureKind) (buffer offset size : ℕ)
    → v1 z (commands.Structure id kind buffer offset size) ≡ None → look z.structures id ≡ None
unfolding v1
structure_is_new z id kind buffer offset size kept =
    nothing-there (look z.structures id) (left-false _ (lacks_buffer z buffer) (whole-kept _ kept))

-- the sizes of all buffers stay within the limit
pub buffer_fits : (z : Status) (id size : ℕ) (usage : Usage) (content : Option (List ℕ))
    → v2 z (commands.Buffer id size usage content) ≡ None → live_bytes z + size ≤ 268435456
unfolding v2
buffer_fits z id size usage content kept =
    ltb-false 268435456 (live_bytes z + size)
    (right-false (is_longer content size) _ (right-false (size == 0) _ (whole-kept _ kept)))

-- a structure that is made overlaps none
pub structure_is_apart : (z : Status) (id : ℕ) (kind : StructureKind) (buffer offset size : ℕ)
    → v6 z (commands.Structure id kind buffer offset size) ≡ None
    → overlaps_structure z (range buffer offset size) ≡ false
unfolding v6
structure_is_apart z id kind buffer offset size kept =
    right-false (is_outside z.buffers (range buffer offset size)) _ (right-false (misses 256 offset) _ (whole-kept _ kept))

-- a structure that is made has a byte
pub structure_is_some : (z : Status) (id : ℕ) (kind : StructureKind) (buffer offset size : ℕ)
    → v2 z (commands.Structure id kind buffer offset size) ≡ None → 0 < size
unfolding v2
structure_is_some z id kind buffer offset size kept = grind (arith, nat_tests, whole-kept (size == 0) kept)
