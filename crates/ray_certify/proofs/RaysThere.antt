-- The rays of a trace, piece by piece and all of them.
use Rattle.std.proofs.Common.{ℕ, ◌≡◌, ◌<◌, ◌≤◌, ◌+◌, ◌-◌, ◌*◌, ◌/◌, ◌%◌, List, Option, Some, None, IsSome, min, refl, ap, sym, subst, ◌∙◌, arith}
use Rattle.std.specs.Prelude.{option_and_then, option_map}
use Rattle.ray_bytes.specs.Records.{ray_of}
use Rattle.ray_bytes.specs.Slices.{record_at}
use Rattle.ray_cmd.specs.declared.spot.Spot.{Spot}
use Rattle.ray_rules.specs.Access.{rays_of_piece}
use Rattle.ray_action.specs.Memory.{Memory, bytes_at, bytes_from}
use Rattle.ray_action.specs.Outcomes.{ray_in, ray_within}
use Rattle.ray_action.specs.Pieces.{rays_range, trace_pieces}
use Rattle.ray_memory.specs.Tracing.{all_rays, ray_at, row_of}
use Rattle.ray_certify.proofs.RangeBytes.{byte_there, range_there, record_there}

-- the rays of piece k of a trace are there, each within the limits
pub record IsPieceThere (m : Memory) (rays : Spot) (count k : ℕ) : Type 0 where
  pub bytes : List ℕ
  pub is_it : bytes_at m (rays_range rays count k) ≡ Some bytes
  pub each : (j : ℕ) → j < rays_of_piece count k → IsSome (ray_in bytes j)

-- and so are all rays
pub record AreAllThere (m : Memory) (rays : Spot) (count : ℕ) : Type 0 where
  pub bytes : List ℕ
  pub is_it : bytes_at m (all_rays rays count) ≡ Some bytes
  pub each : (k : ℕ) → k < count → IsSome (ray_at (row_of bytes) k)

-- ---- the piece of a byte, and that of a ray

piece_begins : (offset at : ℕ) → offset ≤ at → offset + 40 * (64 * ((at - offset) / 2560)) ≤ at
piece_begins offset at low = omega (arith, low)

piece_ends : (offset count at : ℕ) → offset ≤ at → at < offset + 40 * count
    → at < offset + 40 * (64 * ((at - offset) / 2560)) + 40 * min 64 (count - 64 * ((at - offset) / 2560))
piece_ends offset count at low high = omega (arith, low, high)

is_piece : (offset count at : ℕ) → offset ≤ at → at < offset + 40 * count → (at - offset) / 2560 < trace_pieces count
is_piece offset count at low high = omega (arith, low, high)

is_piece_of_ray : (count k : ℕ) → k < count → k / 64 < trace_pieces count
is_piece_of_ray count k below = omega (arith, below)

in_piece : (count k : ℕ) → k < count → k % 64 < min 64 (count - 64 * (k / 64))
in_piece count k below = omega (arith, below)

record_in_all : (count k : ℕ) → k < count → 0 + k * 40 + 40 ≤ 40 * count
record_in_all count k below = omega (arith, below)

record_in_piece : (count k : ℕ) → k < count → 0 + k % 64 * 40 + 40 ≤ 40 * min 64 (count - 64 * (k / 64))
record_in_piece count k below = omega (arith, below)

one_place : (offset k : ℕ) → offset + 40 * (64 * (k / 64)) + (0 + k % 64 * 40) ≡ offset + (0 + k * 40)
one_place offset k = omega arith

-- ---- all rays

value_of : {X : Type 0} (found : Option X) → IsSome found → (x : X) × (found ≡ Some x)
value_of None h = absurd cc
value_of (Some x) h = (x, refl)

ray_there : (m : Memory) (rays : Spot) (count k : ℕ) (bytes : List ℕ) → k < count → bytes_at m (all_rays rays count) ≡ Some bytes → IsPieceThere m rays count (k / 64)
    → IsSome (ray_at (row_of bytes) k)
ray_there m rays count k bytes below whole piece =
    let of_all = record_there m rays.buffer rays.offset (40 * count) 40 k bytes whole (record_in_all count k below) in
    let of_piece = record_there m rays.buffer (rays.offset + 40 * (64 * (k / 64))) (40 * rays_of_piece count (k / 64)) 40 (k % 64) piece.bytes piece.is_it (record_in_piece count k below) in
    let same : record_at piece.bytes 0 40 40 (k % 64) ≡ record_at bytes 0 40 40 k =
    of_piece ∙ (ap (λ f. bytes_from m rays.buffer f 40) (one_place rays.offset k) ∙ sym of_all) in
    subst (λ (r : Option (List ℕ)). IsSome (option_and_then ray_within (option_map ray_of r))) same (piece.each (k % 64) (in_piece count k below))

-- where each piece is there, all rays are
pub all_there : (m : Memory) (rays : Spot) (count : ℕ) → ((k : ℕ) → k < trace_pieces count → IsPieceThere m rays count k) → AreAllThere m rays count
all_there m rays count pieces =
    let whole = value_of (bytes_at m (all_rays rays count)) (range_there m rays.buffer rays.offset (40 * count)
    (λ at low high.
    let k : ℕ = (at - rays.offset) / 2560 in
    let piece = pieces k (is_piece rays.offset count at low high) in
    byte_there m rays.buffer (rays.offset + 40 * (64 * k)) (40 * rays_of_piece count k) at piece.bytes piece.is_it
    (piece_begins rays.offset at low) (piece_ends rays.offset count at low high))) in
    record { bytes = whole.0; is_it = whole.1; each = λ k below. ray_there m rays count k whole.0 below whole.1 (pieces (k / 64) (is_piece_of_ray count k below)) }
