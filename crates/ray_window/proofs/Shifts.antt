-- A shift by 16 rounds down, so that of a number and 65535 more rounds up.
use Rattle.std.proofs.Common.{◌≡◌, ◌^◌, arith}
use Rattle.std.specs.Prelude.{ℤ, pos, negsuc, neg_ℤ, ◌+ℤ◌}
use Rattle.std.specs.Int.{int_min, int_max, int_shr}
use Rattle.std.proofs.lemmas.Int.{ints, clamps}
use Rattle.ray_window.specs.Windows.{ceiling_of, moved}

pub shifted_up : (p near z : ℤ) → near ≡ int_max (neg_ℤ (pos (2 ^ 46))) (int_min (pos (2 ^ 46)) p) → z ≡ near +ℤ pos 65535 →
    int_shr z 16 ≡ moved (ceiling_of p 65536)
shifted_up (pos p) near (pos z) is more = omega (arith, ints, clamps)
shifted_up (pos p) near (negsuc z) is more = omega (arith, ints, clamps)
shifted_up (negsuc p) near (pos z) is more = omega (arith, ints, clamps)
shifted_up (negsuc p) near (negsuc z) is more = omega (arith, ints, clamps)
