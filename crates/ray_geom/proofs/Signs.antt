-- What the sign of a determinant says of the numbers that are divided by it.
use Rattle.std.proofs.Common.{zero, suc, ◌≡◌, ◌≢◌, arith}
use Rattle.std.specs.Prelude.{ℤ, pos, negsuc, ◌≤ℤ◌}
use Rattle.std.specs.Ordering.{ordering_then}
use Rattle.std.specs.declared.cmp.Ordering.{Ordering}
use Rattle.std.proofs.lemmas.Int.{ints}
use Rattle.ray_geom.specs.Vector.{sign_of}
use Rattle.ray_geom.specs.TriangleHit.{over_size}

-- a volume whose side has the sign of den isn't of the opposite sign
pub over_size-side : (volume den : ℤ) (ties : Ordering) →
    ordering_then (sign_of volume) ties ≡ sign_of den → pos 0 ≤ℤ over_size volume den
over_size-side volume (pos zero) ties h = grind (arith, ints)
over_size-side volume (pos (suc n)) ties h = grind (arith, ints)
over_size-side volume (negsuc n) ties h = grind (arith, ints)

-- a sign that isn't zero is the first of several
pub sign_of-then : (z : ℤ) (ties : Ordering) → z ≢ pos 0 → sign_of z ≡ ordering_then (sign_of z) ties
sign_of-then z ties h = grind (arith, ints)
