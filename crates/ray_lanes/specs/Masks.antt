-- Masks of eight lanes, which no clause of a public call speaks of.
use Rattle.std.specs.Prelude.{ℤ, pos, negsuc, Bool, int_le, if◌then◌else◌, ◌&&◌, List, map, FitsSigned}
use Rattle.std.specs.Simd.Lanes.{Each1, zip2}
use mir.Syntax.{w32}

-- numbers of 32 bits with a sign
abbrev pub AreInt32 : List ℤ → Type 0
AreInt32 numbers = Each1 (FitsSigned w32) numbers

-- box by box, whether it overlaps a window on one axis, where the window goes from `from` to `to`
abbrev pub axis_tests : ℤ → ℤ → List ℤ → List ℤ → List Bool
axis_tests from to lo hi = zip2 (λ l h. int_le l to && int_le from h) lo hi

-- a lane of a mask: all bits of it are set, or none
abbrev pub lane_of : Bool → ℤ
lane_of test = if test then negsuc 0 else pos 0

-- the mask of such tests
abbrev pub mask_of : List Bool → List ℤ
mask_of tests = map lane_of tests
