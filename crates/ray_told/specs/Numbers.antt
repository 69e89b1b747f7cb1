-- Ranges of bytes and multiples, in words. (Own.)
use Rattle.std.specs.Prelude.{ℕ, List, ◌++◌, codes, decimal}
use Rattle.ray_rules.specs.declared.byte_range.ByteRange.{ByteRange}
use Rattle.ray_causes.specs.declared.cause.Multiple.{Multiple}

-- a range
abbrev pub range_text : ByteRange → List ℕ
range_text range =
    decimal range.size
    ++ (codes " bytes from byte " ++ (decimal range.from ++ (codes " on of buffer " ++ decimal range.buffer)))

-- a range, and the size of its buffer
abbrev pub outside_text : ByteRange → ℕ → List ℕ
outside_text range size =
    decimal range.size
    ++ (codes " bytes from byte "
    ++ (decimal range.from
    ++ (codes " on of buffer " ++ (decimal range.buffer ++ (codes ", whose size is " ++ decimal size)))))

-- a number, and of what it is no multiple
abbrev pub multiple_text : Multiple → List ℕ
multiple_text multiple = decimal multiple.number ++ (codes ", which is no multiple of " ++ decimal multiple.of)
