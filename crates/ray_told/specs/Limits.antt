-- By which number a command breaks a static rule, in words. (Own.)
use Rattle.std.specs.Prelude.{ℕ, List, [], Option, ◌++◌, codes, decimal}
use Rattle.std.specs.Option.{option_map_or}
use Rattle.ray_causes.specs.declared.member.Member.{Member}
use Rattle.ray_causes.specs.declared.member.Member.TheVariants as members
use Rattle.ray_causes.specs.declared.member.Name.TheVariants as names
use Rattle.ray_causes.specs.Pointers.{member_text}
use Rattle.ray_limits.specs.declared.limit.Bound.{Bound}
use Rattle.ray_limits.specs.declared.limit.Limit.{Limit}
use Rattle.ray_limits.specs.declared.limit.Limit.TheVariants as limits
use Rattle.ray_limits.specs.declared.limit.Sizes.{Sizes}
use Rattle.ray_told.specs.Numbers.{multiple_text, outside_text, range_text}

-- ---- the member that breaks it

abbrev pub limit_member : Limit → Member
limit_member (limits.Empty member) = member
limit_member (limits.Above member _) = member
limit_member (limits.NoMultiple member _) = member
limit_member (limits.Small member _) = member
limit_member (limits.Full _ _) = members.Own names.Size
limit_member (limits.Outside _ _) = members.Own names.Offset
limit_member (limits.Overlaps _ _ _) = members.Own names.Offset

-- ---- what was compared

-- a number of bytes, and how many there may be
abbrev pub bound_text : Bound → List ℕ
bound_text bound = decimal bound.number ++ (codes " bytes, and at most " ++ (decimal bound.most ++ codes " may be"))

-- the size of a structure, and that which it has to have
abbrev pub sizes_text : Sizes → List ℕ
sizes_text sizes =
    codes "structure "
    ++ (decimal sizes.id
    ++ (codes " has " ++ (decimal sizes.size ++ (codes " bytes, and " ++ (decimal sizes.wanted ++ codes " are needed")))))

-- the bytes of all live buffers, and those of one more
abbrev pub full_text : ℕ → ℕ → List ℕ
full_text live size =
    codes "live buffers have "
    ++ (decimal live ++ (codes " bytes, and with " ++ (decimal size ++ codes " more they pass 268435456")))

-- a range that meets that of a structure
abbrev pub overlaps_text : List ℕ → ℕ → ℕ → List ℕ
overlaps_text range id made =
    range ++ (codes ", which meet those of structure " ++ (decimal id ++ (codes ", made by command " ++ decimal made)))

abbrev pub limit_words : Limit → List ℕ
limit_words (limits.Empty member) = codes "0 bytes"
limit_words (limits.Above member bound) = bound_text bound
limit_words (limits.NoMultiple member multiple) = multiple_text multiple
limit_words (limits.Small member sizes) = sizes_text sizes
limit_words (limits.Full live size) = full_text live size
limit_words (limits.Outside range size) = outside_text range size
limit_words (limits.Overlaps range id made) = overlaps_text (range_text range) id made

-- ---- both

-- the member of command number i that breaks it, and what was compared
abbrev pub limit_text : ℕ → Limit → List ℕ
limit_text i limit =
    codes "at: " ++ (member_text i (limit_member limit) ++ (codes "\ncompared: " ++ (limit_words limit ++ codes "\n")))

-- the same where it is told
abbrev pub limit_told : ℕ → Option Limit → List ℕ
limit_told i limit = option_map_or (limit_text i) limit []
