-- Where a ray is inside a box, the box is met; and what is found inside a box is held by each box of which that is a part.
use Rattle.std.proofs.Common.{ℕ, ◌≡◌, ◌*◌, ◌<◌, ◌≤◌, true, Option, Some, None, option_map, arith}
use Rattle.std.specs.Prelude.{IfSome, IfNone}
use Rattle.std.specs.Ordering.{is_le, nat_cmp}
use Rattle.std.proofs.lemmas.Bool.Decides.{nat_tests}
use Rattle.ray_geom.specs.declared.ratio.Ratio.{Ratio}
use Rattle.ray_geom.specs.Boxes.{BoxValue, IsPart}
use Rattle.ray_geom.specs.Fraction.{IsAtMost}
use Rattle.ray_geom.specs.Frac.{numerator, denominator}
use Rattle.ray_geom.specs.Ratio.{ratio_of}
use Rattle.ray_geom.specs.ObjectRay.{ObjectRayValue}
use Rattle.ray_prune.specs.declared.reach.Reach.{Reach}
use Rattle.ray_prune.specs.BoxSpan.{IsInside, IsReach}
use Rattle.ray_prune.specs.BoxReach.{reach_of}
use Rattle.ray_prune.specs.Slabs.{Never}
use Rattle.ray_prune.proofs.Entries.{reach_of-some, reach_of-none}
use Rattle.ray_prune.proofs.Inside.{IsInside-part}
use Rattle.ray_prune.proofs.Spans.{at_most_chain}
use Rattle.ray_query.specs.declared.found.Found.{Found}
use Rattle.ray_query.specs.Limits.{Holds, is_open}
use Rattle.ray_candidates.specs.Placements.{entry_in}

pub le_tells : (x y : ℕ) → x ≤ y → is_le (nat_cmp x y) ≡ true
le_tells x y h = grind (arith, nat_tests)

pub le_told : (x y : ℕ) → is_le (nat_cmp x y) ≡ true → x ≤ y
le_told x y h = grind (arith, nat_tests)

opens_by : (object : ObjectRayValue) (box : BoxValue) (o : Option Reach) → IfSome o (IsReach object box) → IfNone o (Never (IsInside object box))
    → (n d : ℕ) → 0 < d → IsInside object box n d → (t : Ratio) → IsAtMost n d t.num t.den → is_open (Some t) (option_map (λ (r : Reach). r.entry) o) ≡ true
opens_by object box None some none n d positive i t le = absurd (none n d positive i)
opens_by object box (Some r) some none n d positive i t le =
    le_tells (r.entry.num * t.den) (t.num * r.entry.den)
    (at_most_chain r.entry.num r.entry.den n d t.num t.den positive (some.least n d positive i) le)

-- where a distance is inside a box, the box is open within each distance that is no less
pub open_inside : (object : ObjectRayValue) (box : BoxValue) (n d : ℕ) → 0 < d → IsInside object box n d → (t : Ratio) → IsAtMost n d t.num t.den
    → is_open (Some t) (entry_in object box) ≡ true
open_inside object box n d positive i t le =
    opens_by object box (reach_of object box) (reach_of-some object box) (reach_of-none object box) n d positive i t le

-- where a box is open within a distance, one that is no greater is inside
pub record IsEntered (object : ObjectRayValue) (box : BoxValue) (t : Ratio) : Type 0 where
  pub at : Ratio
  pub inside : IsInside object box at.num at.den
  pub before : IsAtMost at.num at.den t.num t.den

entered_by : (object : ObjectRayValue) (box : BoxValue) (o : Option Reach) → IfSome o (IsReach object box) → (t : Ratio)
    → is_open (Some t) (option_map (λ (r : Reach). r.entry) o) ≡ true → IsEntered object box t
entered_by object box None some t met = absurd (cc)
entered_by object box (Some r) some t met = record {
  at = r.entry;
  inside = some.entry;
  before = le_told (r.entry.num * t.den) (t.num * r.entry.den) met;
}

pub inside_open : (object : ObjectRayValue) (box : BoxValue) (t : Ratio) → is_open (Some t) (entry_in object box) ≡ true → IsEntered object box t
inside_open object box t met = entered_by object box (reach_of object box) (reach_of-some object box) t met

-- what is found inside a box is held by each box of which that is a part
pub inside_held : (object : ObjectRayValue) (inner outer : BoxValue) (f : Found) → IsPart inner outer
    → IsInside object inner (numerator f.t) (denominator f.t) → Holds (entry_in object outer) f
inside_held object inner outer f part i =
    open_inside object outer f.t.num f.t.den f.t.limits.den_positive (IsInside-part object inner outer part f.t.num f.t.den i) (ratio_of f.t) (omega arith)
