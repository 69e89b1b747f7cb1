-- Where the pieces of a trace come to a text one after the other, the rays of each were there before the first.
use Rattle.std.proofs.Common.{ℕ, zero, suc, ◌≡◌, ◌<◌, ◌≤◌, ◌+◌, ◌-◌, ◌*◌, List, Bool, true, false, Some, min, inl, inr, map, refl, sym, subst, ◌∙◌, arith}
use Rattle.std.specs.Prelude.{◌==◌, ◌&&◌, if◌then◌else◌, option_and_then}
use Rattle.std.specs.List.{range_with_len}
use Rattle.std.proofs.lemmas.Bool.{cases_lt}
use Rattle.ray_flags.specs.declared.ray_flags.RayFlags.{RayFlags}
use Rattle.ray_top.specs.Contents.{TopValue}
use Rattle.ray_cmd.specs.declared.command.Command.{Command}
use Rattle.ray_cmd.specs.declared.spot.Spot.{Spot}
use Rattle.ray_ranges.specs.declared.range.Range.{Range}
use Rattle.ray_ranges.specs.Meeting as ranges
use Rattle.ray_rules.specs.Access.{rays_of_piece, uses_at}
use Rattle.ray_rules.specs.Ranges.{meets, range}
use Rattle.ray_rules.specs.Status.{Status}
use Rattle.ray_action.specs.Action.{Action, Tracing}
use Rattle.ray_action.specs.Areas.{is_in_range}
use Rattle.ray_action.specs.Clients.{Clients}
use Rattle.ray_action.specs.Memory.{ByteAt, ContentsAt, Memory, as_top, bytes_at}
use Rattle.ray_action.specs.Pieces.{Numbered, cull_mask, hits_range, numbered, rays_action, rays_range, trace_pieces}
use Rattle.ray_action.specs.Running.{Run, Text, run_from, then_run, unit_after, unit_outcome}
use Rattle.ray_action.specs.Seeing.{see_structures}
use Rattle.ray_action.specs.Storing.{left}
use Rattle.ray_permitted.proofs.Sharing.{bytes_meet, low_of}
use Rattle.ray_permitted.proofs.Truth.{both, contradict, equal_is}
use Rattle.ray_certify.proofs.Cut.{gives_before}
use Rattle.ray_certify.proofs.Giving.{AreSeen, giving_sees}
use Rattle.ray_certify.proofs.RangeBytes.{range_same}
use Rattle.ray_certify.proofs.RaysThere.{IsPieceThere}

-- no byte of the rays is one of the hits of a piece
in_all_hits : (offset count k at : ℕ) → k < trace_pieces count → at < offset + 80 * (64 * k) + 80 * min 64 (count - 64 * k) → at < offset + 80 * count
in_all_hits offset count k at piece high = omega (arith, piece, high)

from_first : (offset k at : ℕ) → offset + 80 * (64 * k) ≤ at → offset ≤ at
from_first offset k at low = omega (arith, low)

no_hit : (rays hits : Spot) (count k at : ℕ) → meets (range rays.buffer rays.offset (40 * count)) (range hits.buffer hits.offset (80 * count)) ≡ false
    → k < trace_pieces count → rays.offset ≤ at → at < rays.offset + 40 * count
    → (b : Bool) → is_in_range (hits_range hits count k) (ByteAt rays.buffer at) ≡ b → b ≡ false
no_hit rays hits count k at apart piece low high false is = refl
no_hit rays hits count k at apart piece low high true is =
    let hit = low_of (hits_range hits count k) rays.buffer at is in
    let ones : Range = record { from = rays.offset; end = rays.offset + 40 * count } in
    let others : Range = record { from = hits.offset; end = hits.offset + 80 * count } in
    contradict (rays.buffer == hits.buffer && ranges.meets ones others)
    (both (rays.buffer == hits.buffer) (ranges.meets ones others) (equal_is rays.buffer hits.buffer hit.0)
    (bytes_meet ones others at low high (from_first hits.offset k at hit.1) (in_all_hits hits.offset count k at piece hit.2))) apart

if_false : {X : Type 0} (b : Bool) (x d : X) → b ≡ false → (if b then x else d) ≡ d
if_false true x d e = absurd cc
if_false false x d e = refl

-- two memories have the same rays
abbrev pub HaveSameRays : Spot → ℕ → Memory → Memory → Type 0
HaveSameRays rays count m other =
    (at : ℕ) → rays.offset ≤ at → at < rays.offset + 40 * count → m (ByteAt rays.buffer at) ≡ other (ByteAt rays.buffer at)

in_all_rays : (offset count k at : ℕ) → at < offset + 40 * (64 * k) + 40 * min 64 (count - 64 * k) → k < trace_pieces count → at < offset + 40 * count
in_all_rays offset count k at high piece = omega (arith, piece, high)

from_first_ray : (offset k at : ℕ) → offset + 40 * (64 * k) ≤ at → offset ≤ at
from_first_ray offset k at low = omega (arith, low)

module _ (clients : Clients) (rec : List Command) (i : ℕ) (z : Status) (top : ℕ) (rays hits : Spot) (count : ℕ) (flags : RayFlags) (mask : ℕ)
    (apart : meets (range rays.buffer rays.offset (40 * count)) (range hits.buffer hits.offset (80 * count)) ≡ false) where
  abbrev act : ℕ → Action
  act = rays_action rec z top rays hits count flags mask

  abbrev unit : ℕ → Numbered
  unit k = numbered i (act k)

  abbrev units : ℕ → ℕ → List Numbered
  units k n = map (numbered i) (map act (range_with_len k n))

  -- a piece that gives has seen its rays
  sees : (k : ℕ) (m : Memory) (later : Run) (text : List ℕ) → then_run (unit k) (unit_outcome clients (unit k) m) later ≡ Text text
      → AreSeen (rays_of_piece count k) (bytes_at m (rays_range rays count k)) (option_and_then as_top (m (ContentsAt top)))
  sees k m later text e =
      let here = gives_before (unit k) (unit_outcome clients (unit k) m) later text e in
      let trace : Tracing = record {
        top = top;
        uses = uses_at rec z top;
        rays = rays_range rays count k;
        hits = hits_range hits count k;
        first = 64 * k;
        count = rays_of_piece count k;
        flags = flags;
        mask = cull_mask mask;
      } in
      giving_sees (clients i) trace (see_structures m (uses_at rec z top)) (bytes_at m (rays_range rays count k)) (option_and_then as_top (m (ContentsAt top))) here.output here.gives

  -- and leaves all rays as they are
  keeps : (k : ℕ) (m other : Memory) → k < trace_pieces count → HaveSameRays rays count m other → HaveSameRays rays count (unit_after clients (unit k) m) other
  keeps k m other piece same at low high =
      if_false (is_in_range (hits_range hits count k) (ByteAt rays.buffer at))
      (left (act k) (unit_outcome clients (unit k) m) (ByteAt rays.buffer at) (m (ByteAt rays.buffer at))) (m (ByteAt rays.buffer at))
      (no_hit rays hits count k at apart piece low high (is_in_range (hits_range hits count k) (ByteAt rays.buffer at)) refl)
      ∙ same at low high

  here_there : (k : ℕ) (m other : Memory) → k < trace_pieces count → HaveSameRays rays count m other
      → AreSeen (rays_of_piece count k) (bytes_at m (rays_range rays count k)) (option_and_then as_top (m (ContentsAt top))) → IsPieceThere other rays count k
  here_there k m other piece same seen = record {
    bytes = seen.bytes;
    is_it =
        sym (range_same m other rays.buffer (rays.offset + 40 * (64 * k)) (40 * rays_of_piece count k)
        (λ at low high. same at (from_first_ray rays.offset k at low) (in_all_rays rays.offset count k at high piece)))
        ∙ seen.are_bytes;
    each = seen.each;
  }

  -- of the pieces that are left each is there
  left_there : (n k : ℕ) (m other : Memory) (text : List ℕ) → k + n ≡ trace_pieces count → HaveSameRays rays count m other → run_from clients m (units k n) ≡ Text text
      → (j : ℕ) → k ≤ j → j < trace_pieces count → IsPieceThere other rays count j
  left_there zero k m other text many same e j low high = absurd (omega (arith, many, low, high))
  left_there (suc n) k m other text many same e j low high =
      let later : Memory = unit_after clients (unit k) m in
      let here = gives_before (unit k) (unit_outcome clients (unit k) m) (run_from clients later (units (k + 1) n)) text e in
      let piece : k < trace_pieces count = omega (arith, many) in
      elim (cases_lt k j) [
        | inl less ↦ left_there n (k + 1) later other here.text (omega (arith, many)) (keeps k m other piece same) here.comes j (omega (arith, less)) high
        | inr more ↦
            (let first : k ≡ j = omega (arith, low, more) in
            subst (IsPieceThere other rays count) first
            (here_there k m other piece same (sees k m (run_from clients later (units (k + 1) n)) text e)))
      ]

  -- each piece was there before the first
  pub pieces_there : (m : Memory) (text : List ℕ) → run_from clients m (units 0 (trace_pieces count)) ≡ Text text
      → (k : ℕ) → k < trace_pieces count → IsPieceThere m rays count k
  pieces_there m text e k below = left_there (trace_pieces count) 0 m m text (omega arith) (λ at low high. refl) e k (omega arith) below

  -- and the top structure, where there are any
  pub top_there : (n : ℕ) (m : Memory) (text : List ℕ) → run_from clients m (units 0 n) ≡ Text text → 0 < n → (t : TopValue) × (option_and_then as_top (m (ContentsAt top)) ≡ Some t)
  top_there zero m text e some = absurd (omega (arith, some))
  top_there (suc n) m text e some =
      let seen = sees 0 m (run_from clients (unit_after clients (unit 0) m) (units 1 n)) text e in (seen.top, seen.is_top)
