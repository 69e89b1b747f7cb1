-- Parts of the rays of one trace don't conflict.
use Rattle.std.proofs.Common.{◌≡◌, ◌<◌, ◌≤◌, ◌+◌, ◌*◌, ◌-◌, ℕ, true, false, List, [], ◌∷◌, sym, ◌∙◌, arith, min}
use Rattle.std.specs.Prelude.{◌==◌, ◌&&◌}
use Rattle.ray_cmd.specs.declared.command.Command.{Command}
use Rattle.ray_cmd.specs.declared.spot.Spot.{Spot}
use Rattle.ray_ranges.specs.declared.range.Range.{Range}
use Rattle.ray_ranges.specs.Meeting.{meets}
use Rattle.ray_rules.specs.declared.byte_range.ByteRange.{ByteRange}
use Rattle.ray_rules.specs.Ranges.{range}
use Rattle.ray_rules.specs.Ranges as ranges
use Rattle.ray_rules.specs.Status.{Status}
use Rattle.ray_action.specs.Areas.{cover, is_contents_of, is_in_range}
use Rattle.ray_action.specs.Memory.{Location, ByteAt, BufferAt, StructureAt, ContentsAt}
use Rattle.ray_action.specs.Pieces.{rays_action, trace_pieces, rays_range, hits_range}
use Rattle.ray_permitted.proofs.Truth.{both, contradict, either, equal_is}
use Rattle.ray_permitted.proofs.Sharing.{bytes_meet, low_of}
use Rattle.ray_permitted.proofs.InfosApart.{Clash, BothWrite, ReadsLater, WritesLater}
use Rattle.ray_flags.specs.declared.ray_flags.RayFlags.{RayFlags}
use Rattle.ray_rules.specs.Access.{uses_at}
use Rattle.ray_action.specs.Areas.{Bytes, ContentsOf, ContentsOfEach, is_contents_of_any}

-- ---- rays

-- the hits of two pieces
hits_apart : (offset count k m at : ℕ) → k < m → at < offset + 80 * (64 * k) + 80 * min 64 (count - 64 * k) → offset + 80 * (64 * m) ≤ at → ⊥
hits_apart offset count k m at less high low = omega (arith, less, high, low)

hits_differ : {X : Type 0} (hits : Spot) (count k m : ℕ) (l : Location) → k < m → is_in_range (hits_range hits count k) l ≡ true → is_in_range (hits_range hits count m) l ≡ true → X
hits_differ hits count k m (ByteAt b at) less p q =
    let x = low_of (hits_range hits count k) b at p in
    let y = low_of (hits_range hits count m) b at q in
    absurd (hits_apart hits.offset count k m at less x.2 y.1)
hits_differ hits count k m (BufferAt id) less p q = absurd cc
hits_differ hits count k m (StructureAt id) less p q = absurd cc
hits_differ hits count k m (ContentsAt id) less p q = absurd cc

-- rays and hits of a trace, of whatever pieces
in_all_rays : (offset count k at : ℕ) → k < trace_pieces count → offset + 40 * (64 * k) ≤ at → at < offset + 40 * (64 * k) + 40 * min 64 (count - 64 * k) → (offset ≤ at) × (at < offset + 40 * count)
in_all_rays offset count k at piece low high = (omega (arith, low), omega (arith, piece, high))

in_all_hits : (offset count k at : ℕ) → k < trace_pieces count → offset + 80 * (64 * k) ≤ at → at < offset + 80 * (64 * k) + 80 * min 64 (count - 64 * k) → (offset ≤ at) × (at < offset + 80 * count)
in_all_hits offset count k at piece low high = (omega (arith, low), omega (arith, piece, high))

-- no byte of rays is one of hits
rays_differ : {X : Type 0} (rays hits : Spot) (count k m : ℕ) (l : Location) → ranges.meets (range rays.buffer rays.offset (40 * count)) (range hits.buffer hits.offset (80 * count)) ≡ false
    → k < trace_pieces count → m < trace_pieces count → is_in_range (rays_range rays count k) l ≡ true → is_in_range (hits_range hits count m) l ≡ true → X
rays_differ rays hits count k m (ByteAt b at) e here there p q =
    let x = low_of (rays_range rays count k) b at p in
    let y = low_of (hits_range hits count m) b at q in
    let r = in_all_rays rays.offset count k at here x.1 x.2 in
    let h = in_all_hits hits.offset count m at there y.1 y.2 in
    let a : Range = record { from = rays.offset; end = rays.offset + 40 * count } in
    let c : Range = record { from = hits.offset; end = hits.offset + 80 * count } in
    contradict (rays.buffer == hits.buffer && meets a c)
    (both (rays.buffer == hits.buffer) (meets a c) (equal_is rays.buffer hits.buffer (sym x.0 ∙ y.0)) (bytes_meet a c at r.0 r.1 h.0 h.1)) e
rays_differ rays hits count k m (BufferAt id) e here there p q = absurd cc
rays_differ rays hits count k m (StructureAt id) e here there p q = absurd cc
rays_differ rays hits count k m (ContentsAt id) e here there p q = absurd cc

-- a byte is no contents
no_contents : {X : Type 0} (r : ByteRange) (id : ℕ) (l : Location) → is_in_range r l ≡ true → is_contents_of id l ≡ true → X
no_contents r id (ByteAt b at) p q = absurd cc
no_contents r id (BufferAt b) p q = absurd cc
no_contents r id (StructureAt b) p q = absurd cc
no_contents r id (ContentsAt b) p q = absurd cc

no_contents_of_any : {X : Type 0} (r : ByteRange) (ids : List ℕ) (l : Location) → is_in_range r l ≡ true → is_contents_of_any ids l ≡ true → X
no_contents_of_any r ids (ByteAt b at) p q = absurd cc
no_contents_of_any r ids (BufferAt b) p q = absurd cc
no_contents_of_any r ids (StructureAt b) p q = absurd cc
no_contents_of_any r ids (ContentsAt b) p q = absurd cc

-- what a piece reads in bytes that some piece writes are rays
reads_rays : {X : Type 0} (r h : ByteRange) (top : ℕ) (uses : List ℕ) (l : Location) → is_in_range h l ≡ true
    → cover (Bytes r ∷ (ContentsOf top ∷ (ContentsOfEach uses ∷ []))) l ≡ true → (is_in_range r l ≡ true → X) → X
reads_rays r h top uses l p e found =
    either (is_in_range r l) (cover (ContentsOf top ∷ (ContentsOfEach uses ∷ [])) l) e found
    (λ rest. either (is_contents_of top l) (cover (ContentsOfEach uses ∷ []) l) rest
    (λ it. no_contents h top l p it)
    (λ later. either (is_contents_of_any uses l) false later (λ used. no_contents_of_any h uses l p used) (λ none. absurd cc)))

pub rays_apart : (rec : List Command) (z : Status) (top : ℕ) (rays hits : Spot) (count : ℕ) (flags : RayFlags) (mask : ℕ) (k m : ℕ) (l : Location)
    → ranges.meets (range rays.buffer rays.offset (40 * count)) (range hits.buffer hits.offset (80 * count)) ≡ false
    → k < m → k < trace_pieces count → m < trace_pieces count
    → Clash (rays_action rec z top rays hits count flags mask k) (rays_action rec z top rays hits count flags mask m) l → ⊥
rays_apart rec z top rays hits count flags mask k m l e less here there (BothWrite p q) = hits_differ hits count k m l less p q
rays_apart rec z top rays hits count flags mask k m l e less here there (ReadsLater p q) =
    reads_rays (rays_range rays count m) (hits_range hits count k) top (uses_at rec z top) l p q
    (λ r. rays_differ rays hits count m k l e there here r p)
rays_apart rec z top rays hits count flags mask k m l e less here there (WritesLater p q) =
    reads_rays (rays_range rays count k) (hits_range hits count m) top (uses_at rec z top) l q p
    (λ r. rays_differ rays hits count k m l e here there r q)
