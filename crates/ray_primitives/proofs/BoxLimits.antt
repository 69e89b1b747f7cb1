-- The boxes that are read are within the limits.
use Rattle.std.proofs.Common.{ℕ, ◌≡◌, ◌^◌, not, Bool, true, false, Result, Ok, Err, Option, Some, None, List, length, drop, refl, ap, subst, arith}
use Rattle.std.specs.Prelude.{ℤ, int_lt, ◌≤ℤ◌, All, is_some, if◌then◌else◌}
use Rattle.std.specs.Bool.{beq}
use Rattle.std.proofs.lemmas.Int.{ints}
use Rattle.ray_geom.specs.declared.vec3.Vec3.{Vec3}
use Rattle.ray_geom.specs.Vector.{IsShort, point_of}
use Rattle.ray_geom.specs.Boxes.{BoxValue, IsBelow, box_value}
use Rattle.ray_bytes.specs.declared.data_rule.DataRule.{DataRule}
use Rattle.ray_bytes.specs.declared.data_rule.DataRule.TheVariants.{X4, X9}
use Rattle.ray_bytes.specs.InactiveMark.{is_inactive_mark}
use Rattle.ray_bytes.specs.Views.{Boxes}
use Rattle.ray_contents.specs.Limits.{point_within}
use Rattle.ray_contents.proofs.Gathered.{All-gathered, gathered_all}
use Rattle.ray_primitives.specs.declared.box_info.BoxInfo.{BoxInfo}
use Rattle.ray_primitives.specs.Primitives.{IsAabb}
use Rattle.ray_primitives.specs.Updates.{old_at, box_after}
use Rattle.ray_primitives.specs.BoxReading.{box_words, is_ordered, boxed, box_from, box_read, updated_box, box_element, boxes_read}
use Rattle.ray_primitives.proofs.Results.{element_ok, if_ok, ok_same, short_within}
use Rattle.ray_primitives.proofs.Chosen.{three}

at_most_by : (a b : ℤ) → not (int_lt b a) ≡ true → a ≤ℤ b
at_most_by a b e = grind (arith, ints)

-- the test of order tells the order
pub IsBelow-is_ordered : (lo hi : Vec3) → is_ordered lo hi ≡ true → IsBelow lo hi
unfolding is_ordered
IsBelow-is_ordered lo hi e =
    let h = three (not (int_lt hi.x lo.x)) (not (int_lt hi.y lo.y)) (not (int_lt hi.z lo.z)) e in
    record { x = at_most_by lo.x hi.x h.first; y = at_most_by lo.y hi.y h.second; z = at_most_by lo.z hi.z h.third }

boxed_limits : (lo hi : Option Vec3) (box : Option BoxValue) → ((p : Vec3) → lo ≡ Some p → IsShort (2 ^ 19) p) →
    ((p : Vec3) → hi ≡ Some p → IsShort (2 ^ 19) p) → boxed lo hi ≡ Ok box → IsAabb box
boxed_limits (Some lo) (Some hi) box p q e =
    let ordered = if_ok (is_ordered lo hi) (Ok (Some (box_value lo hi))) X4 box e in
    let below = IsBelow-is_ordered lo hi ordered.0 in
    subst (λ b. IsAabb b) (ok_same (Some (box_value lo hi)) box (Ok (Some (box_value lo hi))) refl ordered.1)
    (record { limits = record { lo_short = p lo refl; hi_short = q hi refl; x_ordered = below.x; y_ordered = below.y; z_ordered = below.z } })
boxed_limits (Some lo) None box p q e = absurd cc
boxed_limits None hi box p q e = absurd cc

by_mark : (marked : Bool) (lo hi : Option Vec3) (box : Option BoxValue) → ((p : Vec3) → lo ≡ Some p → IsShort (2 ^ 19) p) →
    ((p : Vec3) → hi ≡ Some p → IsShort (2 ^ 19) p) → (if marked then Ok None else boxed lo hi) ≡ Ok box → IsAabb box
by_mark true lo hi box p q e = subst (λ b. IsAabb b) (ok_same None box (Ok None) refl e) (record { limits = tt })
by_mark false lo hi box p q e = boxed_limits lo hi box p q e

pub IsAabb-box_from : (lo hi : Vec3) (box : Option BoxValue) → box_from lo hi ≡ Ok box → IsAabb box
unfolding box_from
IsAabb-box_from lo hi box e = by_mark (is_inactive_mark lo.x) (point_within lo) (point_within hi) box (short_within lo) (short_within hi) e

after_same : (old : Option (Option BoxValue)) (a b : Option BoxValue) → box_after old a ≡ Ok b → a ≡ b
after_same None a b e = ok_same a b (Ok a) refl e
after_same (Some old) a b e = ok_same a b (Ok a) refl (if_ok (beq (is_some old) (is_some a)) (Ok a) X9 b e).1

updated_ok : (old : Option (Option BoxValue)) (r : Result (Option BoxValue) DataRule) (box : Option BoxValue) → updated_box old r ≡ Ok box → r ≡ Ok box
updated_ok old (Ok a) box e = ap Ok (after_same old a box e)
updated_ok old (Err rule) box e = absurd cc

element_limits : (boxes : Boxes) (olds : Option (List (Option BoxValue))) (geometry i : ℕ) (box : Option BoxValue) →
    box_element boxes olds geometry i ≡ Ok box → IsAabb box
unfolding box_element
element_limits boxes olds geometry i box e =
    let words = box_words boxes i in
    IsAabb-box_from (point_of words) (point_of (drop 3 words)) box
    (updated_ok (old_at olds i) (box_read words) box (element_ok geometry i (updated_box (old_at olds i) (box_read words)) box e))

-- what the boxes of a geometry keep
pub record AreRead (info : BoxInfo) (boxes : List (Option BoxValue)) : Type 0 where
  pub as_many : length boxes ≡ info.count
  pub each : All IsAabb boxes

pub AreRead-boxes_read : (info : BoxInfo) (boxes : Boxes) (olds : Option (List (Option BoxValue))) (geometry : ℕ) (kept : List (Option BoxValue)) →
    boxes_read info boxes olds geometry ≡ Ok kept → AreRead info kept
unfolding boxes_read
AreRead-boxes_read info boxes olds geometry kept e =
    let element = box_element boxes olds geometry in
    record {
      as_many = (gathered_all element info.count kept e).as_many;
      each = All-gathered IsAabb element (element_limits boxes olds geometry) info.count kept e;
    }
