-- Bounds on the bytes that commands name: their numbers have 64 bits, and a sum or a product of a few
-- of them stays below 2^70. (Own.)
use Rattle.std.specs.Prelude.{◌+◌, ◌≤◌, ◌^◌, Option, IfSome}
use Rattle.ray_rules.specs.declared.byte_range.ByteRange.{ByteRange}

-- a range ends at byte 2^70 or below
abbrev pub Fits : ByteRange → Type 0
Fits r = r.from + r.size ≤ 2 ^ 70

-- the same of a range that is there
abbrev pub FitsIf : Option ByteRange → Type 0
FitsIf r = IfSome r Fits
