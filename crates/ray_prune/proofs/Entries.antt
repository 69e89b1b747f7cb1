-- The entry and the exit as functions are the reach, where any distance is inside.
use Rattle.std.proofs.Common.{ℕ, zero, suc, ◌≡◌, ◌*◌, ◌<◌, ◌≤◌, Option, Some, None, option_map, Bool, true, false, cond, nat_le, refl, sym, arith}
use Rattle.std.specs.Prelude.{ℤ, pos, negsuc, ◌-ℤ◌, ◌↔◌, unsigned_abs, IsSome, IfSome, IfNone}
use Rattle.std.specs.Cmp.{nat_cmp_is}
use Rattle.std.specs.declared.cmp.Ordering.TheVariants.{Equal}
use Rattle.std.proofs.lemmas.Int.{ints}
use Rattle.std.proofs.lemmas.Bool.Decides.{nat_tests}
use Rattle.ray_geom.specs.declared.frac.Frac.{Frac}
use Rattle.ray_prune.specs.declared.span.Span.{Span}
use Rattle.ray_geom.specs.declared.ratio.Ratio.{Ratio}
use Rattle.ray_prune.specs.declared.reach.Reach.{Reach}
use Rattle.ray_geom.specs.Fraction.{IsAtMost}
use Rattle.ray_geom.specs.Frac.{numerator, denominator}
use Rattle.ray_geom.specs.FracLaws.{same_value}
use Rattle.ray_geom.specs.HitValue.{lowest_terms}
use Rattle.ray_geom.specs.Ratio.{ratio_cmp, parts_of, later_of, earlier_of}
use Rattle.ray_geom.specs.Boxes.{BoxValue}
use Rattle.ray_geom.specs.ObjectRay.{ObjectRayValue}
use Rattle.ray_prune.specs.BoxSpan.{near_end, far_end, IsBetween, IsOnAxis, IsInside, IsReach, IsSpan}
use Rattle.ray_prune.specs.Slabs.{IsPast, IsBefore, Never}
use Rattle.ray_geom.specs.Decided.{where_so}
use Rattle.ray_prune.specs.Decided.{inside_decided}
use Rattle.ray_prune.specs.BoxReach.{way_in, way_out, enters_at, leaves_at, entry_on, exit_on, entry_of, exit_of, reach_value, reach_of, IsSameReach, span_of, span_value, span_in_lowest_terms}
use Rattle.ray_geom.proofs.HitValues.{lowest_terms-same}
use Rattle.ray_prune.proofs.Spans.{at_most_chain}
use Rattle.ray_prune.proofs.Slabs.{IsBetween-rising, IsBetween-falling}

-- between the ends: the way in is done, and the way out isn't
pub record IsWithinWays (in_way out_way : ℤ) (size n d : ℕ) : Type 0 where
  pub past : IsPast in_way size n d
  pub before : IsBefore out_way size n d

IsBetween-ways : (near far o m : ℤ) (n d : ℕ) →
    IsBetween near far o m n d ↔ IsWithinWays (way_in near far o m) (way_out near far o m) (unsigned_abs m) n d
IsBetween-ways near far o (pos m) n d =
    let slab = IsBetween-rising near far o (pos m) (near -ℤ o) (far -ℤ o) m (omega (arith, ints)) refl refl refl n d in (
      λ h. record { past = (slab.0 h).past; before = (slab.0 h).before },
      λ h. slab.1 (record { past = h.past; before = h.before }),
    )
IsBetween-ways near far o (negsuc m) n d =
    let slab = IsBetween-falling near far o (negsuc m) (o -ℤ far) (o -ℤ near) (suc m) (omega (arith, ints)) refl refl refl n d in (
      λ h. record { past = (slab.0 h).past; before = (slab.0 h).before },
      λ h. slab.1 (record { past = h.past; before = h.before }),
    )

-- a distance at which the way in is done isn't before the entry
enters_at-least : (way : ℤ) (size n d : ℕ) → IsPast way size n d → IsAtMost (enters_at way size).num (enters_at way size).den n d
enters_at-least way zero n d h = omega arith
enters_at-least (pos w) (suc k) n d h = let past = h.at_least in omega (arith, ints)
enters_at-least (negsuc w) (suc k) n d h = omega arith

-- where it is done at any distance, it is done at each that isn't before the entry
enters_at-past : (way : ℤ) (size n d m e : ℕ) → 0 < d → IsPast way size n d →
    IsAtMost (enters_at way size).num (enters_at way size).den m e → IsPast way size m e
enters_at-past (pos zero) zero n d m e positive h le = record { at_least = omega (arith, ints) }
enters_at-past (pos (suc w)) zero n d m e positive h le = absurd (never_done w n d positive h)
  where
    never_done : (w n d : ℕ) → 0 < d → IsPast (pos (suc w)) zero n d → ⊥
    never_done w n zero positive h = omega arith
    never_done w n (suc d) positive h = let past = h.at_least in omega (arith, ints)
enters_at-past (negsuc w) zero n d m e positive h le = record { at_least = omega (arith, ints) }
enters_at-past (pos w) (suc k) n d m e positive h le = record { at_least = omega (arith, ints) }
enters_at-past (negsuc w) (suc k) n d m e positive h le = record { at_least = omega (arith, ints) }

-- the same of the way out
leaves_at-greatest : (most : Ratio) (way : ℤ) (size n d : ℕ) → 0 < d → IsAtMost n d most.num most.den → IsBefore way size n d →
    IsAtMost n d (leaves_at most way size).num (leaves_at most way size).den
leaves_at-greatest most way zero n d positive le h = le
leaves_at-greatest most (pos w) (suc k) n d positive le h = let before = h.at_most in omega (arith, ints)
leaves_at-greatest most (negsuc w) (suc k) n (suc d) positive le h = absurd (let before = h.at_most in omega (arith, ints))
leaves_at-greatest most (negsuc w) (suc k) n zero positive le h = absurd (omega arith)

leaves_at-before : (most : Ratio) (way : ℤ) (size n d m e : ℕ) → 0 < d → IsBefore way size n d →
    IsAtMost m e (leaves_at most way size).num (leaves_at most way size).den → IsBefore way size m e
leaves_at-before most (pos w) zero n d m e positive h le = record { at_most = omega (arith, ints) }
leaves_at-before most (negsuc w) zero n (suc d) m e positive h le = absurd (let before = h.at_most in omega (arith, ints))
leaves_at-before most (negsuc w) zero n zero m e positive h le = absurd (omega arith)
leaves_at-before most (pos w) (suc k) n d m e positive h le = record { at_most = omega (arith, ints) }
leaves_at-before most (negsuc w) (suc k) n (suc d) m e positive h le = absurd (let before = h.at_most in omega (arith, ints))
leaves_at-before most (negsuc w) (suc k) n zero m e positive h le = absurd (omega arith)

le_from_test : (x y : ℕ) → nat_le x y ≡ true → x ≤ y
le_from_test x y h = grind (arith, nat_tests)

ge_from_test : (x y : ℕ) → nat_le x y ≡ false → y ≤ x
ge_from_test x y h = grind (arith, nat_tests)

later_by : (a b : Ratio) (t : Bool) → (t ≡ true → IsAtMost a.num a.den b.num b.den) → (t ≡ false → IsAtMost b.num b.den a.num a.den) →
    (n d : ℕ) → IsAtMost (cond t b a).num (cond t b a).den n d ↔ (IsAtMost a.num a.den n d × IsAtMost b.num b.den n d)
later_by a b true p q n d = (λ h. (at_most_chain a.num a.den b.num b.den n d b.positive (p refl) h, h), λ h. h.1)
later_by a b false p q n d = (λ h. (h, at_most_chain b.num b.den a.num a.den n d a.positive (q refl) h), λ h. h.0)

earlier_by : (a b : Ratio) (t : Bool) → (t ≡ true → IsAtMost a.num a.den b.num b.den) → (t ≡ false → IsAtMost b.num b.den a.num a.den) →
    (n d : ℕ) → IsAtMost n d (cond t a b).num (cond t a b).den ↔ (IsAtMost n d a.num a.den × IsAtMost n d b.num b.den)
earlier_by a b true p q n d = (λ h. (h, at_most_chain n d a.num a.den b.num b.den a.positive h (p refl)), λ h. h.0)
earlier_by a b false p q n d = (λ h. (at_most_chain n d b.num b.den a.num a.den b.positive h (q refl), h), λ h. h.1)

-- the greater of two is at most what both are at most
IsAtMost-later : (a b : Ratio) (n d : ℕ) →
    IsAtMost (later_of a b).num (later_of a b).den n d ↔ (IsAtMost a.num a.den n d × IsAtMost b.num b.den n d)
IsAtMost-later a b n d =
    let x = a.num * b.den in
    let y = b.num * a.den in
    later_by a b (nat_le x y) (le_from_test x y) (ge_from_test x y) n d

IsAtMost-earlier : (a b : Ratio) (n d : ℕ) →
    IsAtMost n d (earlier_of a b).num (earlier_of a b).den ↔ (IsAtMost n d a.num a.den × IsAtMost n d b.num b.den)
IsAtMost-earlier a b n d =
    let x = a.num * b.den in
    let y = b.num * a.den in
    earlier_by a b (nat_le x y) (le_from_test x y) (ge_from_test x y) n d

-- the greatest of four
four_later : (t x y z : Ratio) (n d : ℕ) →
    IsAtMost (later_of (later_of (later_of t x) y) z).num (later_of (later_of (later_of t x) y) z).den n d ↔
    (IsAtMost t.num t.den n d × IsAtMost x.num x.den n d × IsAtMost y.num y.den n d × IsAtMost z.num z.den n d)
four_later t x y z n d =
    let first = IsAtMost-later t x n d in
    let second = IsAtMost-later (later_of t x) y n d in
    let third = IsAtMost-later (later_of (later_of t x) y) z n d in (
      λ h. let all = third.0 h in let three = second.0 all.0 in let two = first.0 three.0 in (two.0, two.1, three.1, all.1),
      λ h. third.1 (second.1 (first.1 (h.0, h.1), h.2), h.3),
    )

-- the least of four
four_earlier : (t x y z : Ratio) (n d : ℕ) →
    IsAtMost n d (earlier_of (earlier_of (earlier_of t x) y) z).num (earlier_of (earlier_of (earlier_of t x) y) z).den ↔
    (IsAtMost n d t.num t.den × IsAtMost n d x.num x.den × IsAtMost n d y.num y.den × IsAtMost n d z.num z.den)
four_earlier t x y z n d =
    let first = IsAtMost-earlier t x n d in
    let second = IsAtMost-earlier (earlier_of t x) y n d in
    let third = IsAtMost-earlier (earlier_of (earlier_of t x) y) z n d in (
      λ h. let all = third.0 h in let three = second.0 all.0 in let two = first.0 three.0 in (two.0, two.1, three.1, all.1),
      λ h. third.1 (second.1 (first.1 (h.0, h.1), h.2), h.3),
    )

-- on one axis: an inside distance is from the entry to the exit
axis_least : (det lo hi o m : ℤ) (n d : ℕ) → IsOnAxis det lo hi o m n d →
    IsAtMost (entry_on det lo hi o m).num (entry_on det lo hi o m).den n d
axis_least det lo hi o m n d h =
    let near = near_end det lo hi in
    let far = far_end det lo hi in
    enters_at-least (way_in near far o m) (unsigned_abs m) n d ((IsBetween-ways near far o m n d).0 h).past

axis_greatest : (most : Ratio) (det lo hi o m : ℤ) (n d : ℕ) → 0 < d → IsAtMost n d most.num most.den → IsOnAxis det lo hi o m n d →
    IsAtMost n d (exit_on most det lo hi o m).num (exit_on most det lo hi o m).den
axis_greatest most det lo hi o m n d positive le h =
    let near = near_end det lo hi in
    let far = far_end det lo hi in
    leaves_at-greatest most (way_out near far o m) (unsigned_abs m) n d positive le ((IsBetween-ways near far o m n d).0 h).before

-- and each from the entry to the exit is inside, where any is
axis_between : (most : Ratio) (det lo hi o m : ℤ) (n d k e : ℕ) → 0 < d → IsOnAxis det lo hi o m n d →
    IsAtMost (entry_on det lo hi o m).num (entry_on det lo hi o m).den k e →
    IsAtMost k e (exit_on most det lo hi o m).num (exit_on most det lo hi o m).den → IsOnAxis det lo hi o m k e
axis_between most det lo hi o m n d k e positive h from to =
    let near = near_end det lo hi in
    let far = far_end det lo hi in
    let ways = (IsBetween-ways near far o m n d).0 h in
    (IsBetween-ways near far o m k e).1 (record {
      past = enters_at-past (way_in near far o m) (unsigned_abs m) n d k e positive ways.past from;
      before = leaves_at-before most (way_out near far o m) (unsigned_abs m) n d k e positive ways.before to;
    })

-- where any distance is inside, the entry and the exit are the reach
pub IsReach-of : (object : ObjectRayValue) (box : BoxValue) (n d : ℕ) → 0 < d → IsInside object box n d →
    IsReach object box (reach_value (entry_of object box) (exit_of object box))
IsReach-of object box n d positive i =
    let t = parts_of object.tmin in
    let most = parts_of object.tmax in
    let ex = entry_on object.det box.lo.x box.hi.x object.origin.x object.dir.x in
    let ey = entry_on object.det box.lo.y box.hi.y object.origin.y object.dir.y in
    let ez = entry_on object.det box.lo.z box.hi.z object.origin.z object.dir.z in
    let xx = exit_on most object.det box.lo.x box.hi.x object.origin.x object.dir.x in
    let xy = exit_on most object.det box.lo.y box.hi.y object.origin.y object.dir.y in
    let xz = exit_on most object.det box.lo.z box.hi.z object.origin.z object.dir.z in
    let entry = entry_of object box in
    let exit = exit_of object box in
    let least = λ (k e : ℕ) (e_positive : 0 < e) (j : IsInside object box k e).
    (four_later t ex ey ez k e).1 (
      start object.tmin k e j.from,
      axis_least object.det box.lo.x box.hi.x object.origin.x object.dir.x k e j.x,
      axis_least object.det box.lo.y box.hi.y object.origin.y object.dir.y k e j.y,
      axis_least object.det box.lo.z box.hi.z object.origin.z object.dir.z k e j.z,
    ) in
    let greatest = λ (k e : ℕ) (e_positive : 0 < e) (j : IsInside object box k e).
    let to = stop object.tmax k e j.to in
    (four_earlier most xx xy xz k e).1 (
      to,
      axis_greatest most object.det box.lo.x box.hi.x object.origin.x object.dir.x k e e_positive to j.x,
      axis_greatest most object.det box.lo.y box.hi.y object.origin.y object.dir.y k e e_positive to j.y,
      axis_greatest most object.det box.lo.z box.hi.z object.origin.z object.dir.z k e e_positive to j.z,
    ) in
    let between = λ (k e : ℕ) (e_positive : 0 < e) (from : IsAtMost entry.num entry.den k e) (to : IsAtMost k e exit.num exit.den).
    let later = (four_later t ex ey ez k e).0 from in
    let earlier = (four_earlier most xx xy xz k e).0 to in
    inside_from object box k e
    (axis_between most object.det box.lo.x box.hi.x object.origin.x object.dir.x n d k e positive i.x later.1 earlier.1)
    (axis_between most object.det box.lo.y box.hi.y object.origin.y object.dir.y n d k e positive i.y later.2 earlier.2)
    (axis_between most object.det box.lo.z box.hi.z object.origin.z object.dir.z n d k e positive i.z later.3 earlier.3)
    (started object.tmin k e later.0) (stopped object.tmax k e earlier.0) in
    let ordered : IsAtMost entry.num entry.den exit.num exit.den =
    at_most_chain entry.num entry.den n d exit.num exit.den positive (least n d positive i) (greatest n d positive i) in
    record {
      entry = between entry.num entry.den entry.positive (omega arith) ordered;
      exit = between exit.num exit.den exit.positive ordered (omega arith);
      least = least;
      greatest = greatest;
      between = between;
    }
  where
    start : (tmin k e : ℕ) → tmin * e ≤ 65536 * k → IsAtMost tmin 65536 k e
    start tmin k e h = omega arith

    stop : (tmax k e : ℕ) → 65536 * k ≤ tmax * e → IsAtMost k e tmax 65536
    stop tmax k e h = omega arith

    started : (tmin k e : ℕ) → IsAtMost tmin 65536 k e → tmin * e ≤ 65536 * k
    started tmin k e h = omega arith

    stopped : (tmax k e : ℕ) → IsAtMost k e tmax 65536 → 65536 * k ≤ tmax * e
    stopped tmax k e h = omega arith

    inside_from : (object : ObjectRayValue) (box : BoxValue) (k e : ℕ) →
        IsOnAxis object.det box.lo.x box.hi.x object.origin.x object.dir.x k e →
        IsOnAxis object.det box.lo.y box.hi.y object.origin.y object.dir.y k e →
        IsOnAxis object.det box.lo.z box.hi.z object.origin.z object.dir.z k e →
        object.tmin * e ≤ 65536 * k → 65536 * k ≤ object.tmax * e → IsInside object box k e
    inside_from object box k e x y z from to = record { x = x; y = y; z = z; from = from; to = to }

-- so the reach as a function is the reach, and there is none where nothing is inside
some_by : (object : ObjectRayValue) (box : BoxValue) (dec : Dec (IsInside object box (entry_of object box).num (entry_of object box).den)) →
    IfSome (where_so dec (reach_value (entry_of object box) (exit_of object box))) (IsReach object box)
some_by object box (yes i) = IsReach-of object box (entry_of object box).num (entry_of object box).den (entry_of object box).positive i
some_by object box (no n) = tt

none_by : (object : ObjectRayValue) (box : BoxValue) (dec : Dec (IsInside object box (entry_of object box).num (entry_of object box).den)) →
    IfNone (where_so dec (reach_value (entry_of object box) (exit_of object box))) (Never (IsInside object box))
none_by object box (yes i) = tt
none_by object box (no never) = λ n d positive i. never (IsReach-of object box n d positive i).entry

pub reach_of-some : (object : ObjectRayValue) (box : BoxValue) → IfSome (reach_of object box) (IsReach object box)
reach_of-some object box = some_by object box (inside_decided object box (entry_of object box).num (entry_of object box).den)

pub reach_of-none : (object : ObjectRayValue) (box : BoxValue) → IfNone (reach_of object box) (Never (IsInside object box))
reach_of-none object box = none_by object box (inside_decided object box (entry_of object box).num (entry_of object box).den)

-- two reaches of one ray and box have ends of one value
same_by_le : (a b : Ratio) → IsAtMost a.num a.den b.num b.den → IsAtMost b.num b.den a.num a.den → ratio_cmp a b ≡ Equal
same_by_le a b p q = sym (nat_cmp_is (a.num * b.den) (b.num * a.den) Equal (omega arith))

pub IsSameReach-of : (object : ObjectRayValue) (box : BoxValue) (o p : Option Reach) →
    IfSome o (IsReach object box) → IfNone o (Never (IsInside object box)) →
    IfSome p (IsReach object box) → IfNone p (Never (IsInside object box)) → IsSameReach o p
IsSameReach-of object box None None some none some' none' = tt
IsSameReach-of object box None (Some b) some none some' none' = none b.entry.num b.entry.den b.entry.positive some'.entry
IsSameReach-of object box (Some a) None some none some' none' = none' a.entry.num a.entry.den a.entry.positive some.entry
IsSameReach-of object box (Some a) (Some b) some none some' none' = (
  same_by_le a.entry b.entry (some.least b.entry.num b.entry.den b.entry.positive some'.entry)
      (some'.least a.entry.num a.entry.den a.entry.positive some.entry),
  same_by_le a.exit b.exit (some'.greatest a.exit.num a.exit.den a.exit.positive some.exit)
      (some.greatest b.exit.num b.exit.den b.exit.positive some'.exit),
)

-- two spans of one ray and box are identical
same_value_by_le : (a b : Frac) → IsAtMost a.num a.den b.num b.den → IsAtMost b.num b.den a.num a.den → a ≡ b
same_value_by_le a b p q = same_value a b (omega arith)

pub IsSpan-only : (object : ObjectRayValue) (box : BoxValue) (s t : Span) → IsSpan object box s → IsSpan object box t → s ≡ t
IsSpan-only object box s t p q =
    let entry : s.entry ≡ t.entry = same_value_by_le s.entry t.entry
    (p.least t.entry.num t.entry.den t.entry.limits.den_positive q.entry)
    (q.least s.entry.num s.entry.den s.entry.limits.den_positive p.entry) in
    let exit : s.exit ≡ t.exit = same_value_by_le s.exit t.exit
    (q.greatest s.exit.num s.exit.den s.exit.limits.den_positive p.exit)
    (p.greatest t.exit.num t.exit.den t.exit.limits.den_positive q.exit) in
    λ i. record { entry = entry i; exit = exit i }

pub IfSome-only : (object : ObjectRayValue) (box : BoxValue) (o : Option Span) → IfSome o (IsSpan object box) →
    IfSome o (λ span. (other : Span) → IsSpan object box other → other ≡ span)
IfSome-only object box None h = h
IfSome-only object box (Some s) h = λ other is. IsSpan-only object box other s is h

-- the span is the reach in lowest terms
same_terms : (f : Frac) (r : Ratio) → IsAtMost f.num f.den r.num r.den → IsAtMost r.num r.den f.num f.den →
    (numerator f, denominator f) ≡ lowest_terms r.num r.den
same_terms f r p q = lowest_terms-same f r.num r.den r.positive (omega arith)

span_by : (object : ObjectRayValue) (box : BoxValue) (o : Option Span) (p : Option Reach) →
    IfSome o (IsSpan object box) → IfNone o (Never (IsInside object box)) →
    IfSome p (IsReach object box) → IfNone p (Never (IsInside object box)) →
    option_map span_value o ≡ option_map span_in_lowest_terms p
span_by object box None None some none some' none' = refl
span_by object box None (Some b) some none some' none' = absurd (none b.entry.num b.entry.den b.entry.positive some'.entry)
span_by object box (Some s) None some none some' none' =
    absurd (none' s.entry.num s.entry.den s.entry.limits.den_positive some.entry)
span_by object box (Some s) (Some r) some none some' none' =
    let entry = same_terms s.entry r.entry (some.least r.entry.num r.entry.den r.entry.positive some'.entry)
    (some'.least s.entry.num s.entry.den s.entry.limits.den_positive some.entry) in
    let exit = same_terms s.exit r.exit (some'.greatest s.exit.num s.exit.den s.exit.limits.den_positive some.exit)
    (some.greatest r.exit.num r.exit.den r.exit.positive some'.exit) in
    λ i. Some (record { entry = entry i; exit = exit i })

pub span_of-IsSpan : (object : ObjectRayValue) (box : BoxValue) (o : Option Span) →
    IfSome o (IsSpan object box) → IfNone o (Never (IsInside object box)) → option_map span_value o ≡ span_of object box
span_of-IsSpan object box o some none =
    span_by object box o (reach_of object box) some none (reach_of-some object box) (reach_of-none object box)

-- where any distance is inside the box is met
met_by : (object : ObjectRayValue) (box : BoxValue) (n d : ℕ) → 0 < d → IsInside object box n d →
    (dec : Dec (IsInside object box (entry_of object box).num (entry_of object box).den)) →
    IsSome (where_so dec (reach_value (entry_of object box) (exit_of object box)))
met_by object box n d positive i (yes is) = refl
met_by object box n d positive i (no never) = absurd (never (IsReach-of object box n d positive i).entry)

pub reach_of-met : (object : ObjectRayValue) (box : BoxValue) (n d : ℕ) → 0 < d → IsInside object box n d → IsSome (reach_of object box)
reach_of-met object box n d positive i =
    met_by object box n d positive i (inside_decided object box (entry_of object box).num (entry_of object box).den)
