-- How a geometry of boxes is read. (VkAabbPositionsKHR, with whole numbers; own: the rules X2 and X4 and their order.)
use Rattle.std.specs.Prelude.{ℕ, ℤ, pos, ◌&&◌, not, Bool, if◌then◌else◌, Result, Ok, Err, Option, Some, None, option_map, unwrap_or, int_lt, List, [], ◌∷◌, drop}
use Rattle.ray_geom.specs.declared.vec3.Vec3.{Vec3}
use Rattle.ray_geom.specs.Vector.{point_of}
use Rattle.ray_geom.specs.Boxes.{BoxValue, box_value}
use Rattle.ray_bytes.specs.declared.data_rule.DataRule.{DataRule}
use Rattle.ray_bytes.specs.declared.data_rule.DataRule.TheVariants.{X2, X4}
use Rattle.ray_bytes.specs.declared.data_fault.DataFault.{DataFault}
use Rattle.ray_bytes.specs.InactiveMark.{is_inactive_mark}
use Rattle.ray_bytes.specs.Slices.{record_at}
use Rattle.ray_bytes.specs.Records.{box_of}
use Rattle.ray_bytes.specs.Views.{Boxes}
use Rattle.ray_contents.specs.Gathering.{gathered}
use Rattle.ray_contents.specs.Limits.{point_within}
use Rattle.ray_primitives.specs.declared.box_info.BoxInfo.{BoxInfo}
use Rattle.ray_primitives.specs.Outcomes.{at_element}
use Rattle.ray_primitives.specs.Updates.{old_at, box_after}

-- the six numbers of box i of the buffer; one that isn't whole, which no rule speaks of, reads as zeros
unfoldable pub box_words : Boxes → ℕ → List ℤ
box_words v i = unwrap_or (option_map box_of (record_at v.bytes v.start v.stride 24 i)) (pos 0 ∷ pos 0 ∷ pos 0 ∷ pos 0 ∷ pos 0 ∷ pos 0 ∷ [])

-- whether no coordinate of the second point is below that of the first
unfoldable pub is_ordered : Vec3 → Vec3 → Bool
is_ordered lo hi = (not (int_lt hi.x lo.x) && not (int_lt hi.y lo.y)) && not (int_lt hi.z lo.z)

-- the active box of two points; X4 where a minimum is above its maximum
abbrev pub ordered_box : Vec3 → Vec3 → Result (Option BoxValue) DataRule
ordered_box lo hi = if is_ordered lo hi then Ok (Some (box_value lo hi)) else Err X4

-- the same where both points are within the limits; X2 where one is beyond them
abbrev pub boxed : Option Vec3 → Option Vec3 → Result (Option BoxValue) DataRule
boxed (Some lo) (Some hi) = ordered_box lo hi
boxed (Some lo) None = Err X2
boxed None hi = Err X2

-- the box of two points: the mark as x of the least makes it inactive
unfoldable pub box_from : Vec3 → Vec3 → Result (Option BoxValue) DataRule
box_from lo hi = if is_inactive_mark lo.x then Ok None else boxed (point_within lo) (point_within hi)

-- box i of the buffer: its least corner, then its greatest
abbrev pub box_read : List ℤ → Result (Option BoxValue) DataRule
box_read words = box_from (point_of words) (point_of (drop 3 words))

-- a box that is read, as an update of the one of its number, if it is one
abbrev pub updated_box : Option (Option BoxValue) → Result (Option BoxValue) DataRule → Result (Option BoxValue) DataRule
updated_box old (Ok box) = box_after old box
updated_box old (Err rule) = Err rule

-- box i of a geometry, or the least rule that it breaks, with its place
unfoldable pub box_element : Boxes → Option (List (Option BoxValue)) → ℕ → ℕ → Result (Option BoxValue) DataFault
box_element boxes olds geometry i = at_element geometry i (updated_box (old_at olds i) (box_read (box_words boxes i)))

-- all boxes of a geometry, or the first rule that is broken
unfoldable pub boxes_read : BoxInfo → Boxes → Option (List (Option BoxValue)) → ℕ → Result (List (Option BoxValue)) DataFault
boxes_read info boxes olds geometry = gathered (box_element boxes olds geometry) info.count
