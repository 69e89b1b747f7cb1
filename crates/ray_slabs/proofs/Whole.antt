-- Slabs bound the distances of a ray in the root's box.
use Rattle.std.proofs.Common.{ℕ, ◌≡◌, ◌+◌, ◌-◌, ◌*◌, ◌^◌, ◌≤◌, ◌<◌, refl, sym, subst, ap, ◌∙◌, true, false, Option, Some, None, lit<, arith}
use Rattle.std.specs.Prelude.{ℤ, pos, negsuc, ◌+ℤ◌, ◌-ℤ◌, ◌*ℤ◌, ◌≤ℤ◌, ◌<ℤ◌, int_lt as lt_z}
use Rattle.std.specs.Int.{int_min, int_max}
use Rattle.std.proofs.lemmas.Int.{ints, clamps}
use Rattle.std.proofs.Math.Nat.{mul-le-mul_left, mul-le-mul_right, div-mul-le_self, lt-div-mul-add}
use Rattle.ray_geom.specs.Vector.{IsWithin}
use Rattle.ray_geom.specs.declared.ratio.Ratio.{Ratio}
use Rattle.ray_geom.specs.Boxes.{BoxValue, IsBox, IsPart}
use Rattle.ray_geom.specs.ObjectRay.{ObjectRayValue, IsObjectRay}
use Rattle.ray_prune.specs.BoxSpan.{IsOnAxis, IsInside}
use Rattle.ray_prune.specs.BoxReach.{natural_part}
use Rattle.ray_prune.proofs.Inside.{IsInside-part}
use Rattle.ray_window.specs.Windows.{window_of}
use Rattle.ray_window.specs.Meets.{IsUpTo, Meets}
use Rattle.ray_window.proofs.Windows.{window-holds}
use Rattle.ray_slabs.specs.declared.slabs.Slabs.{Slabs}
use Rattle.ray_slabs.specs.declared.range.Range.{Range}
use Rattle.ray_slabs.specs.declared.slope.Slope.{Slope}
use Rattle.ray_slabs.specs.declared.slope.Slopes.{Slopes}
use Rattle.ray_slabs.specs.Keys.{key_at, plane_of, local_key}
use Rattle.ray_slabs.specs.Axes.{near_of, far_of}
use Rattle.ray_slabs.specs.Bounds.{planes_of, entry_key, exit_key, IsKept, AreBounds}
use Rattle.ray_slabs.specs.Ranges.{MayBeSlope, AreSlopes, IsBetweenKeys, IsInRange, IsRange, HoldsKeys, HoldsByPlanes, IsUntil, IsMadeOf}
use Rattle.ray_slabs.proofs.Axes.{slope_bounds, one_below}
use Rattle.ray_slabs.proofs.Crossings.{product_positive}

-- a slope's bounds hold in the root's box
between_keys : (det o m : ℤ) (shift : ℕ) (found : Option Slope) (lo hi : ℤ) (n d : ℕ) → MayBeSlope det o m shift found →
    IsWithin (2 ^ 19) lo → IsWithin (2 ^ 19) hi → 0 < d → IsOnAxis det lo hi o m n d →
    IsBetweenKeys found (plane_of lo) (plane_of hi) (key_at shift n d)
between_keys det o m shift None lo hi n d is a b positive h = tt
between_keys det o m shift (Some slope) lo hi n d is a b positive h = slope_bounds det o m shift slope is lo hi n d a b positive h

pub holds_keys : (object : ObjectRayValue) (root : BoxValue) (limit : Option Ratio) (shift : ℕ) (slopes : Slopes) (range : Range) →
    IsBox root → AreSlopes object.det object.origin object.dir shift slopes → HoldsByPlanes object limit shift slopes range (planes_of root) →
    HoldsKeys object root limit shift range
holds_keys object root limit shift slopes range is slopes_are holds n d positive inside up =
    let lo = is.lo_short in
    let hi = is.hi_short in
    holds n d positive inside.from inside.to up
    (between_keys object.det object.origin.x object.dir.x shift slopes.x root.lo.x root.hi.x n d slopes_are.x lo.x_within hi.x_within positive inside.x)
    (between_keys object.det object.origin.y object.dir.y shift slopes.y root.lo.y root.hi.y n d slopes_are.y lo.y_within hi.y_within positive inside.y)
    (between_keys object.det object.origin.z object.dir.z shift slopes.z root.lo.z root.hi.z n d slopes_are.z lo.z_within hi.z_within positive inside.z)

-- a key of at most the last is that of a distance before the key behind the last
pub before_until : (shift n d last : ℕ) → 0 < d → key_at shift n d ≤ last → n * 2 ^ 38 ≤ ((last + 1) * 2 ^ shift) * d
before_until shift n d last positive h = less (key_at shift n d) h (lt-div-mul-add {a = n * 2 ^ 38} {b = d * 2 ^ shift} (product_positive d (2 ^ shift) positive (one_below shift)))
  where
    less : (k : ℕ) → k ≤ last → n * 2 ^ 38 < k * (d * 2 ^ shift) + d * 2 ^ shift → n * 2 ^ 38 ≤ ((last + 1) * 2 ^ shift) * d
    less k e f =
        let g = mul-le-mul_right (d * 2 ^ shift) e in
        omega arith

natural_is : (z : ℤ) → pos 0 ≤ℤ z → pos (natural_part z) ≡ z
natural_is (pos n) h = omega (arith, ints)
natural_is (negsuc n) h = absurd (omega (arith, ints))

-- a distance of some keys behind tmin, and up to the key of tmax, is in the ray's interval
from_tmin : (shift tmin k : ℕ) → key_at shift tmin 65536 < k → tmin * 2 ^ 38 ≤ 65536 * (k * 2 ^ shift)
from_tmin shift tmin k h = less (key_at shift tmin 65536) h (lt-div-mul-add {a = tmin * 2 ^ 38} {b = 65536 * 2 ^ shift} (product_positive 65536 (2 ^ shift) (lit< tt) (one_below shift)))
  where
    less : (t : ℕ) → t < k → tmin * 2 ^ 38 < t * (65536 * 2 ^ shift) + 65536 * 2 ^ shift → tmin * 2 ^ 38 ≤ 65536 * (k * 2 ^ shift)
    less t e f =
        let g = mul-le-mul_right (65536 * 2 ^ shift) e in
        omega arith

to_tmax : (shift tmax k : ℕ) → k ≤ key_at shift tmax 65536 → 65536 * (k * 2 ^ shift) ≤ tmax * 2 ^ 38
to_tmax shift tmax k h = less (key_at shift tmax 65536) h (div-mul-le_self (tmax * 2 ^ 38) (65536 * 2 ^ shift))
  where
    less : (t : ℕ) → k ≤ t → t * (65536 * 2 ^ shift) ≤ tmax * 2 ^ 38 → 65536 * (k * 2 ^ shift) ≤ tmax * 2 ^ 38
    less t e f =
        let g = mul-le-mul_right (65536 * 2 ^ shift) e in
        omega arith

-- the box is met by the window up to the last key
windowed : (object : ObjectRayValue) (box : BoxValue) (shift : ℕ) (range : Range) (until : Ratio) (n d : ℕ) → IsObjectRay object → IsBox box →
    IsUntil until shift range.last → 0 < d → IsInside object box n d → IsInRange range (key_at shift n d) → Meets (window_of object (Some until)) box
windowed object box shift range until n d ray is until_is positive inside in_range =
    let to = in_range.to in
    let last_is = natural_is range.last (omega (arith, ints)) in
    let before = before_until shift n d (natural_part range.last) positive (omega (arith, ints)) in
    let num : until.num ≡ (natural_part range.last + 1) * 2 ^ shift =
    let e : pos until.num ≡ (pos (natural_part range.last) +ℤ pos 1) *ℤ pos (2 ^ shift) = until_is.0 ∙ ap (λ z. (z +ℤ pos 1) *ℤ pos (2 ^ shift)) (sym last_is) in
    omega (arith, ints) in
    window-holds object box ray is (Some until) n d positive inside
    (subst (λ p. p) (λ i. (n * sym until_is.1 i) ≤ (sym num i * d)) before)

-- the keys of three axes as one
greatest_below : (x y z k : ℤ) → pos 0 ≤ℤ k → x ≤ℤ k → y ≤ℤ k → z ≤ℤ k → int_max (int_max (int_max (pos 0) x) y) z ≤ℤ k
greatest_below x y z k a b c d = omega (arith, ints, clamps)

least_above : (last l x y z k : ℤ) → k ≤ℤ last → k ≤ℤ l → k ≤ℤ x → k ≤ℤ y → k ≤ℤ z →
    k ≤ℤ int_min (int_min (int_min (int_min last l) x) y) z
least_above last l x y z k a b c d e = omega (arith, ints, clamps)

through : (a b c : ℤ) → a ≤ℤ b → b ≤ℤ c → a ≤ℤ c
through a b c h k = omega (arith, ints)

record IsEachBelow (x y z k : ℤ) : Type 0 where
  pub zero_below : pos 0 ≤ℤ k
  pub x_below : x ≤ℤ k
  pub y_below : y ≤ℤ k
  pub z_below : z ≤ℤ k

each_below : (x y z k : ℤ) → k ≡ int_max (int_max (int_max (pos 0) x) y) z → IsEachBelow x y z k
each_below x y z k is = record {
  zero_below = omega (arith, ints, clamps);
  x_below = omega (arith, ints, clamps);
  y_below = omega (arith, ints, clamps);
  z_below = omega (arith, ints, clamps);
}

record IsEachAbove (last x y z k : ℤ) : Type 0 where
  pub last_above : k ≤ℤ last
  pub x_above : k ≤ℤ x
  pub y_above : k ≤ℤ y
  pub z_above : k ≤ℤ z

each_above : (last l x y z k : ℤ) → k ≡ int_min (int_min (int_min (int_min last l) x) y) z → IsEachAbove last x y z k
each_above last l x y z k is = record {
  last_above = omega (arith, ints, clamps);
  x_above = omega (arith, ints, clamps);
  y_above = omega (arith, ints, clamps);
  z_above = omega (arith, ints, clamps);
}

behind : (near entry : ℤ) (n : ℕ) → pos n ≡ entry → near ≤ℤ entry → (near +ℤ pos 3) ≤ℤ pos (n + 3)
behind near entry n is h = omega (arith, ints)

before : (entry exit far : ℤ) (n : ℕ) → pos n ≡ entry → (entry +ℤ pos 6) ≤ℤ exit → exit ≤ℤ far → (pos (n + 3) +ℤ pos 3) ≤ℤ far
before entry exit far n is h k = omega (arith, ints)

last_reached : (base n most : ℕ) (last first final entry exit : ℤ) → pos base ≡ first → last ≡ int_min (final -ℤ first) (pos (2 ^ 31 - 64)) →
    pos n ≡ entry → (entry +ℤ pos 6) ≤ℤ exit → exit ≤ℤ last → final ≤ℤ pos most → base + (n + 3) ≤ most
last_reached base n most last first final entry exit a b c d e f = omega (arith, ints, clamps)

abbrev pub MadeOf : ObjectRayValue → Range → ℕ → Ratio → Slabs → Type 0
MadeOf object range shift until slabs = IsMadeOf object.det object.origin object.dir (window_of object (Some until)) range shift slabs

kept_box : (object : ObjectRayValue) (root : BoxValue) (limit : Option Ratio) (range : Range) (until : Ratio) (slabs : Slabs) →
    IsObjectRay object → HoldsKeys object root limit slabs.shift range → IsUntil until slabs.shift range.last →
    MadeOf object range slabs.shift until slabs → (box : BoxValue) (n d : ℕ) → IsBox box → IsPart box root → 0 < d → IsInside object box n d →
    IsUpTo limit n d → IsKept slabs box n d
kept_box object root limit range until slabs ray holds until_is made box n d is part positive inside up =
    let lo = is.lo_short in
    let hi = is.hi_short in
    let key = key_at slabs.shift n d in
    let in_range = holds n d positive (IsInside-part object box root part n d inside) up in
    let from = in_range.from in
    let to = in_range.to in
    let base = made.base_is in
    let last = made.last_is in
    let met = windowed object box slabs.shift range until n d ray is until_is positive inside in_range in
    let later : slabs.base ≤ key = omega (arith, ints) in
    let x = made.x.bounds box.lo.x box.hi.x n d lo.x_within hi.x_within positive inside.x later met.x.begins met.x.ends in
    let y = made.y.bounds box.lo.y box.hi.y n d lo.y_within hi.y_within positive inside.y later met.y.begins met.y.ends in
    let z = made.z.bounds box.lo.z box.hi.z n d lo.z_within hi.z_within positive inside.z later met.z.begins met.z.ends in
    let ahead : pos 0 ≤ℤ local_key slabs.base key = omega (arith, ints, clamps) in
    let soon : local_key slabs.base key ≤ℤ slabs.last = omega (arith, ints, clamps) in
    let entry = greatest_below (near_of slabs.x (plane_of box.lo.x) (plane_of box.hi.x)) (near_of slabs.y (plane_of box.lo.y) (plane_of box.hi.y))
    (near_of slabs.z (plane_of box.lo.z) (plane_of box.hi.z)) (local_key slabs.base key) ahead x.at_least y.at_least z.at_least in
    record {
      lower = omega (arith, ints, clamps);
      kept = λ l h.
          let exit = least_above slabs.last l (far_of slabs.x (plane_of box.lo.x) (plane_of box.hi.x)) (far_of slabs.y (plane_of box.lo.y) (plane_of box.hi.y))
          (far_of slabs.z (plane_of box.lo.z) (plane_of box.hi.z)) (local_key slabs.base key) soon h x.at_most y.at_most z.at_most in
          through (entry_key slabs (planes_of box)) (local_key slabs.base key) (exit_key slabs l (planes_of box)) entry exit;
    }

sure_box : (object : ObjectRayValue) (range : Range) (until : Ratio) (slabs : Slabs) → IsRange object slabs.shift range →
    MadeOf object range slabs.shift until slabs → (box : BoxValue) (to : ℤ) → IsBox box → slabs.exact ≡ true →
    (entry_key slabs (planes_of box) +ℤ pos 6) ≤ℤ exit_key slabs to (planes_of box) →
    IsInside object box ((slabs.base + (natural_part (entry_key slabs (planes_of box)) + 3)) * 2 ^ slabs.shift) (2 ^ 38)
sure_box object range until slabs known made box to is exact h =
    let lo = is.lo_short in
    let hi = is.hi_short in
    let base = made.base_is in
    let last = made.last_is in
    let first_known = known.first_known in
    let last_known = known.last_known in
    let entry = entry_key slabs (planes_of box) in
    let e = each_below (near_of slabs.x (plane_of box.lo.x) (plane_of box.hi.x)) (near_of slabs.y (plane_of box.lo.y) (plane_of box.hi.y))
    (near_of slabs.z (plane_of box.lo.z) (plane_of box.hi.z)) entry refl in
    let f = each_above slabs.last to (far_of slabs.x (plane_of box.lo.x) (plane_of box.hi.x)) (far_of slabs.y (plane_of box.lo.y) (plane_of box.hi.y))
    (far_of slabs.z (plane_of box.lo.z) (plane_of box.hi.z)) (exit_key slabs to (planes_of box)) refl in
    let key_is : pos (natural_part entry) ≡ entry = natural_is entry e.zero_below in
    let k = natural_part entry + 3 in
    let ex = e.x_below in
    let ey = e.y_below in
    let ez = e.z_below in
    let fx = f.x_above in
    let fy = f.y_above in
    let fz = f.z_above in
    let fl = f.last_above in
    record {
      x = made.x.sure box.lo.x box.hi.x k exact lo.x_within hi.x_within (behind (near_of slabs.x (plane_of box.lo.x) (plane_of box.hi.x)) entry (natural_part entry) key_is ex)
          (before entry (exit_key slabs to (planes_of box)) (far_of slabs.x (plane_of box.lo.x) (plane_of box.hi.x)) (natural_part entry) key_is h fx);
      y = made.y.sure box.lo.y box.hi.y k exact lo.y_within hi.y_within (behind (near_of slabs.y (plane_of box.lo.y) (plane_of box.hi.y)) entry (natural_part entry) key_is ey)
          (before entry (exit_key slabs to (planes_of box)) (far_of slabs.y (plane_of box.lo.y) (plane_of box.hi.y)) (natural_part entry) key_is h fy);
      z = made.z.sure box.lo.z box.hi.z k exact lo.z_within hi.z_within (behind (near_of slabs.z (plane_of box.lo.z) (plane_of box.hi.z)) entry (natural_part entry) key_is ez)
          (before entry (exit_key slabs to (planes_of box)) (far_of slabs.z (plane_of box.lo.z) (plane_of box.hi.z)) (natural_part entry) key_is h fz);
      from = from_tmin slabs.shift object.tmin (slabs.base + k) (omega (arith, ints));
      to = to_tmax slabs.shift object.tmax (slabs.base + k)
          (last_reached slabs.base (natural_part entry) (key_at slabs.shift object.tmax 65536) slabs.last range.first range.last entry (exit_key slabs to (planes_of box)) base last key_is h fl last_known);
    }

pub bounds_made : (object : ObjectRayValue) (root : BoxValue) (limit : Option Ratio) (shift : ℕ) (range : Range) (until : Ratio) (slabs : Slabs) →
    IsObjectRay object → HoldsKeys object root limit shift range → IsRange object shift range → IsUntil until shift range.last →
    MadeOf object range shift until slabs → AreBounds object root limit slabs
bounds_made object root limit shift range until slabs ray holds known until_is made =
    let e = sym made.shift_is in
    let h = subst (λ s. HoldsKeys object root limit s range) e holds in
    let k = subst (λ s. IsRange object s range) e known in
    let u = subst (λ s. IsUntil until s range.last) e until_is in
    let m = subst (λ s. MadeOf object range s until slabs) e made in
    record { kept = kept_box object root limit range until slabs ray h u m; sure = sure_box object range until slabs k m }

pub last_fits : (shift tmax k : ℕ) → tmax ≤ 2 ^ 40 → k ≤ key_at shift tmax 65536 → k * 2 ^ shift ≤ 2 ^ 62
last_fits shift tmax k short h =
    let e = to_tmax shift tmax k h in
    let f = mul-le-mul_right (2 ^ 38) short in
    omega arith

pub last_below : (shift tmax k : ℕ) → tmax ≤ 2 ^ 40 → k ≤ key_at shift tmax 65536 → k ≤ 2 ^ 62
last_below shift tmax k short h =
    let e = last_fits shift tmax k short h in
    let f = mul-le-mul_left k (one_below shift) in
    omega arith

pub until_is : (num k unit : ℕ) (last : ℤ) → pos k ≡ last → num ≡ (k + 1) * unit → pos num ≡ (last +ℤ pos 1) *ℤ pos unit
until_is num k unit last is e = subst (λ z. pos num ≡ (z +ℤ pos 1) *ℤ pos unit) is (omega (arith, ints))

-- an empty range holds no key
pub none_held : (range : Range) (key : ℕ) → range.last <ℤ range.first → IsInRange range key → ⊥
none_held range key empty is =
    let from = is.from in
    let to = is.to in
    absurd (omega (arith, ints))

pub not_before_first : (last first held_last held_first : ℤ) → held_last ≡ last → held_first ≡ first → lt_z held_last held_first ≡ false → first ≤ℤ last
not_before_first last first held_last held_first a b test =
    let plain : lt_z last first ≡ false = subst (λ p. p) (λ i. lt_z (a i) (b i) ≡ false) test in
    grind (arith, ints)
