-- What a piece of a device command reads and writes is among what its command does.
use Rattle.std.proofs.Common.{◌≡◌, ◌<◌, ◌≤◌, ◌+◌, ◌*◌, ℕ, zero, suc, Bool, true, List, [], ◌∷◌, Some, refl, ◌∙◌, ap, subst, arith}
use Rattle.std.specs.Prelude.{◌==◌, ◌&&◌, nat_le, nat_lt, slice_get, slice_index_or, Contains}
use Rattle.std.specs.List.{list_any}
use Rattle.std.proofs.lemmas.Bool.Decides.{nat_tests}
use Rattle.ray_cmd.specs.declared.command.Command.{Command}
use Rattle.ray_cmd.specs.declared.command.Command.TheVariants as commands
use Rattle.ray_rules.specs.declared.byte_range.ByteRange.{ByteRange}
use Rattle.ray_rules.specs.declared.reach.Reach.{Reach}
use Rattle.ray_rules.specs.declared.reach.Reach.TheVariants as reaches
use Rattle.ray_rules.specs.declared.stage.Stage.{Stage}
use Rattle.ray_rules.specs.declared.touch.Touch.{Touch}
use Rattle.ray_rules.specs.Access.{accesses_of, piece_accesses, stage_of}
use Rattle.ray_rules.specs.AccessLaws.{AreWithin, HasRays, IsPartOf, ReachesWithin}
use Rattle.ray_rules.specs.Status.{Status}
use Rattle.ray_rules.proofs.Touching.{pieces}
use Rattle.ray_action.specs.Action.{Action, areas_read}
use Rattle.ray_action.specs.Areas.{cover, is_in_range}
use Rattle.ray_action.specs.Memory.{Location, ByteAt, BufferAt, StructureAt, ContentsAt}
use Rattle.ray_action.specs.Pieces.{actions_of, rays_action, trace_pieces}
use Rattle.ray_action.specs.Storing.{writes}
use Rattle.ray_action.specs.Touching.{holds_data, is_reached, touched}
use Rattle.ray_action.proofs.Touching.{touch_within}
use Rattle.ray_permitted.proofs.Truth.{both, equal_is, made_of_number, never_none, or_left, or_right, same_some, some_passes, within}
use Rattle.ray_permitted.proofs.Sharing.{low_of}

-- ---- more is reached

in_part : (r s : ByteRange) (l : Location) → IsPartOf r s → is_in_range r l ≡ true → is_in_range s l ≡ true
in_part r s (ByteAt b at) part e =
    let low = low_of r b at e in
    let same : b ≡ s.buffer = low.0 ∙ part.same in
    in_it s b at same (from_low r.from s.from at part.begins low.1) (to_high (r.from + r.size) (s.from + s.size) at low.2 part.ends)
  where
    from_low : (x y k : ℕ) → y ≤ x → x ≤ k → y ≤ k
    from_low x y k h g = omega (arith, h, g)

    to_high : (x y k : ℕ) → k < x → x ≤ y → k < y
    to_high x y k h g = omega (arith, h, g)

    least_is : (x y : ℕ) → x ≤ y → nat_le x y ≡ true
    least_is x y h = grind (arith, nat_tests, h)

    below_is : (x y : ℕ) → x < y → nat_lt x y ≡ true
    below_is x y h = grind (arith, nat_tests, h)

    in_it : (t : ByteRange) (c k : ℕ) → c ≡ t.buffer → t.from ≤ k → k < t.from + t.size → is_in_range t (ByteAt c k) ≡ true
    in_it t c k same low high =
        both (c == t.buffer) (nat_le t.from k && nat_lt k (t.from + t.size)) (equal_is c t.buffer same)
        (both (nat_le t.from k) (nat_lt k (t.from + t.size)) (least_is t.from k low) (below_is k (t.from + t.size) high))
in_part r s (BufferAt id) part e = absurd cc
in_part r s (StructureAt id) part e = absurd cc
in_part r s (ContentsAt id) part e = absurd cc

reached_more : (x y : Reach) (l : Location) → ReachesWithin x y → is_reached x l ≡ true → is_reached y l ≡ true
reached_more (reaches.Bytes r) (reaches.Bytes s) l part e = in_part r s l part e
reached_more (reaches.Structure a) (reaches.Structure b) l same e = subst (λ id. is_reached (reaches.Structure id) l ≡ true) same e
reached_more (reaches.Scratch r) y l part e = absurd cc
reached_more x y l part e = absurd part

-- ---- more touches

contained : {X : Type 0} (test : X → Bool) (xs : List X) (x : X) → Contains xs x → test x ≡ true → list_any test xs ≡ true
contained test [] x (k, below, is) e = absurd (omega (arith, below))
contained test (y ∷ xs) x (zero, below, is) e = or_left (test y) (list_any test xs) (ap test is ∙ e)
contained test (y ∷ xs) x (suc k, below, is) e = or_right (test y) (list_any test xs) (contained test xs x (k, omega (arith, below), is) e)

item_is : {X : Type 0} (xs : List X) (k : ℕ) (x d : X) → slice_get xs k ≡ Some x → slice_index_or xs k d ≡ x
item_is [] k x d there = never_none x there
item_is (y ∷ xs) zero x d there = same_some y x there
item_is (y ∷ xs) (suc k) x d there = item_is xs k x d there

touched_more : (some others : List Touch) (l : Location) → AreWithin some others → touched some l ≡ true → touched others l ≡ true
touched_more some others l are e =
    let p = some_passes (λ (t : Touch). is_reached t.reach l) some e in
    let other = are p.item (p.place, within some p.place p.item p.there, item_is some p.place p.item p.item p.there) in
    contained (λ (t : Touch). is_reached t.reach l) others other.0 other.1 (reached_more p.item.reach other.0.reach l other.2.within p.passes)

-- ---- pieces

-- a piece of a trace has rays
some_left : (count k : ℕ) → k < trace_pieces count → 64 * k < count
some_left count k less = omega (arith, less)

has_rays : (rec : List Command) (z : Status) (c : Command) (k : ℕ) (a : Action) → slice_get (actions_of rec z c) k ≡ Some a → HasRays c k
unfolding actions_of
has_rays rec z (commands.Trace top rays count hits flags mask script) k a there =
    some_left count k (made_of_number (rays_action rec z top rays hits count flags mask) 0 (trace_pieces count) k a there).0
has_rays rec z _ k a there = tt

-- what reaches a location holds data
reached_data : (x : Reach) (l : Location) → is_reached x l ≡ true → holds_data l ≡ true
reached_data x (ByteAt b at) e = refl
reached_data (reaches.Bytes r) (BufferAt id) e = absurd cc
reached_data (reaches.Structure a) (BufferAt id) e = absurd cc
reached_data (reaches.Scratch r) (BufferAt id) e = absurd cc
reached_data (reaches.Bytes r) (StructureAt id) e = absurd cc
reached_data (reaches.Structure a) (StructureAt id) e = absurd cc
reached_data (reaches.Scratch r) (StructureAt id) e = absurd cc
reached_data x (ContentsAt id) e = refl

-- what a piece writes its command does, and it is data
pub piece_writes : (rec : List Command) (z : Status) (c : Command) (s : Stage) (k : ℕ) (a : Action) (l : Location) → stage_of c ≡ Some s
    → slice_get (actions_of rec z c) k ≡ Some a → writes a l ≡ true → (touched (accesses_of rec z c).writes l ≡ true) × (holds_data l ≡ true)
piece_writes rec z c s k a l stage there e =
    let found : touched (piece_accesses rec z c k).writes l ≡ true = (touch_within rec z c s k a stage there).writes l e in
    let p = some_passes (λ (t : Touch). is_reached t.reach l) (piece_accesses rec z c k).writes found in (
      touched_more (piece_accesses rec z c k).writes (accesses_of rec z c).writes l (pieces rec z c k (has_rays rec z c k a there)).writes found,
      reached_data p.item.reach l p.passes,
    )

-- and what a piece reads of data its command does
pub piece_reads : (rec : List Command) (z : Status) (c : Command) (s : Stage) (k : ℕ) (a : Action) (l : Location) → stage_of c ≡ Some s
    → slice_get (actions_of rec z c) k ≡ Some a → holds_data l ≡ true → cover (areas_read a) l ≡ true → touched (accesses_of rec z c).reads l ≡ true
piece_reads rec z c s k a l stage there is_data e =
    touched_more (piece_accesses rec z c k).reads (accesses_of rec z c).reads l (pieces rec z c k (has_rays rec z c k a there)).reads
    ((touch_within rec z c s k a stage there).reads l is_data e)
