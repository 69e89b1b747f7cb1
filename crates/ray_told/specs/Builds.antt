-- By which geometry or count a command breaks the rule on what structures are built of, in words. (Own.)
use Rattle.std.specs.Prelude.{ℕ, List, [], Option, ◌++◌, codes, decimal, if◌then◌else◌, nat_lt}
use Rattle.std.specs.Option.{option_map_or}
use Rattle.ray_builds.specs.declared.misbuilt.BottomFlaw.{BottomFlaw}
use Rattle.ray_builds.specs.declared.misbuilt.BottomFlaw.TheVariants as bottoms
use Rattle.ray_builds.specs.declared.misbuilt.GeometryKind.{GeometryKind}
use Rattle.ray_builds.specs.declared.misbuilt.GeometryKind.TheVariants as kinds
use Rattle.ray_builds.specs.declared.misbuilt.Misbuilt.{Misbuilt}
use Rattle.ray_builds.specs.declared.misbuilt.Misbuilt.TheVariants as misbuilts
use Rattle.ray_builds.specs.declared.misbuilt.TopFlaw.{TopFlaw}
use Rattle.ray_builds.specs.declared.misbuilt.TopFlaw.TheVariants as tops
use Rattle.ray_builds.specs.declared.misbuilt.Two.{Two}
use Rattle.ray_crowds.specs.declared.spot.Spot.{Spot}
use Rattle.ray_crowds.specs.declared.spot.Spot.TheVariants as spots
use Rattle.ray_crowds.specs.Pointers.{spot_text}

-- ---- the spot that breaks it

-- the later of two geometries
abbrev pub later_of : Two → ℕ
later_of two = if nat_lt two.triangles two.boxes then two.boxes else two.triangles

-- of the geometries of a top
abbrev pub top_spot : ℕ → TopFlaw → Spot
top_spot info (tops.Count number) = spots.Geometries info
top_spot info (tops.Of kind) = spots.Geometry info 0

-- of those of a bottom
abbrev pub bottom_spot : ℕ → BottomFlaw → Spot
bottom_spot info (bottoms.Instances number) = spots.Geometry info number
bottom_spot info (bottoms.Both two) = spots.Geometry info (later_of two)

abbrev pub misbuilt_spot : Misbuilt → Spot
misbuilt_spot (misbuilts.Top info flaw) = top_spot info flaw
misbuilt_spot (misbuilts.Bottom info flaw) = bottom_spot info flaw
misbuilt_spot (misbuilts.Counts number) = spots.Counts

-- ---- what was compared

-- a kind of geometries
abbrev pub kind_word : GeometryKind → List ℕ
kind_word kinds.Triangles = codes "triangles"
kind_word kinds.Boxes = codes "boxes"
kind_word kinds.Instances = codes "instances"

-- geometry 0, of a kind that isn't wanted
abbrev pub other_kind_text : List ℕ → List ℕ
other_kind_text word = codes "geometry 0 is of " ++ (word ++ codes ", and a top is built of instances")

-- of the geometries of a top
abbrev pub top_text : TopFlaw → List ℕ
top_text (tops.Count number) = decimal number ++ codes " geometries, and a top is built of one"
top_text (tops.Of kind) = other_kind_text (kind_word kind)

-- two geometries of two kinds
abbrev pub both_text : Two → List ℕ
both_text two =
    codes "geometry "
    ++ (decimal two.triangles
    ++ (codes " is of triangles and geometry "
    ++ (decimal two.boxes ++ codes " of boxes, and a bottom is built of one kind")))

-- of those of a bottom
abbrev pub bottom_text : BottomFlaw → List ℕ
bottom_text (bottoms.Instances number) =
    codes "geometry "
    ++ (decimal number ++ codes " is of instances, and a bottom is built of triangles or of boxes")
bottom_text (bottoms.Both two) = both_text two

abbrev pub misbuilt_words : Misbuilt → List ℕ
misbuilt_words (misbuilts.Top info flaw) = top_text flaw
misbuilt_words (misbuilts.Bottom info flaw) = bottom_text flaw
misbuilt_words (misbuilts.Counts number) = decimal number ++ codes " counts, and a top has one"

-- ---- both

-- the spot of command number i, and what was compared
abbrev pub misbuilt_text : ℕ → Misbuilt → List ℕ
misbuilt_text i misbuilt =
    codes "at: "
    ++ (spot_text i (misbuilt_spot misbuilt)
    ++ (codes "\ncompared: " ++ (misbuilt_words misbuilt ++ codes "\n")))

-- the same where it is told
abbrev pub misbuilt_told : ℕ → Option Misbuilt → List ℕ
misbuilt_told i misbuilt = option_map_or (misbuilt_text i) misbuilt []
