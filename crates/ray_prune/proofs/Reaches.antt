-- What is left of the interval once it is narrowed on three axes is the reach.
use Rattle.std.proofs.Common.{ℕ, ◌≡◌, ◌+◌, ◌*◌, ◌^◌, ◌<◌, ◌≤◌, Option, Some, None, subst, ap, to_z, of_z, arith}
use Rattle.std.specs.Prelude.{ℤ, ◌↔◌, IfSome, IfNone}
use Rattle.std.specs.Int.{w64}
use Rattle.std.specs.Int.RustNames.{FitsSigned}
use Rattle.std.proofs.lemmas.Int.{ints, to_z-of_z}
use Rattle.ray_prune.specs.declared.reach.Reach.{Reach}
use Rattle.ray_geom.specs.Fraction.{IsAtMost}
use Rattle.ray_geom.specs.Vector.{IsWithin}
use Rattle.ray_geom.specs.declared.vec3.Vec3.{Vec3}
use Rattle.ray_geom.specs.Boxes.{BoxValue, box_value, IsBox}
use Rattle.ray_geom.specs.ObjectRay.{ObjectRayValue, object_value, IsObjectRay}
use Rattle.ray_prune.specs.BoxSpan.{IsOnAxis, IsInside, IsReach}
use Rattle.ray_prune.specs.Slabs.{Covers, Narrows, Never}
use Rattle.ray_prune.proofs.Spans.{at_most_chain}

-- the interval covers the distances from tmin to tmax
pub Covers-interval : (reach : Reach) (least most : ℕ) →
    reach.entry.num ≡ least → reach.entry.den ≡ 65536 → reach.exit.num ≡ most → reach.exit.den ≡ 65536 →
    (n d : ℕ) → Covers reach n d ↔ ((least * d ≤ 65536 * n) × (65536 * n ≤ most * d))
Covers-interval reach least most p q r s n d =
    let a = ap (λ x. x * d) p in
    let b = ap (λ x. n * x) q in
    let e = ap (λ x. x * d) r in
    let f = ap (λ x. n * x) s in (
      λ h. let from = h.from in let to = h.to in (omega arith, omega arith),
      λ h. let from = h.0 in let to = h.1 in record { from = omega arith; to = omega arith },
    )

-- what a narrower says by one fact it says by another that is the same
pub Narrows-same : (P Q : ℕ → ℕ → Type 0) (reach narrower : Reach) →
    ((n d : ℕ) → Q n d ↔ P n d) → Narrows P reach narrower → Narrows Q reach narrower
Narrows-same P Q reach narrower same h n d d_positive = (
  λ x. let y = (h n d d_positive).0 x in (y.0, (same n d).1 y.1),
  λ x. (h n d d_positive).1 (x.0, (same n d).0 x.1),
)

pub IfSome-Narrows : (P Q : ℕ → ℕ → Type 0) (reach : Reach) (r : Option Reach) →
    ((n d : ℕ) → Q n d ↔ P n d) → IfSome r (Narrows P reach) → IfSome r (Narrows Q reach)
IfSome-Narrows P Q reach None same h = h
IfSome-Narrows P Q reach (Some narrower) same h = Narrows-same P Q reach narrower same h

pub IfNone-Never : (P Q : ℕ → ℕ → Type 0) (r : Option Reach) →
    ((n d : ℕ) → Q n d ↔ P n d) → IfNone r (Never P) → IfNone r (Never Q)
IfNone-Never P Q None same h = λ n d d_positive q. h n d d_positive ((same n d).0 q)
IfNone-Never P Q (Some narrower) same h = h

-- the interval, narrowed on three axes
pub record IsNarrowed (object : ObjectRayValue) (box : BoxValue) (all x y z : Reach) : Type 0 where
  pub interval : (n d : ℕ) → 0 < d → Covers all n d ↔ ((object.tmin * d ≤ 65536 * n) × (65536 * n ≤ object.tmax * d))
  pub on_x : Narrows (IsOnAxis object.det box.lo.x box.hi.x object.origin.x object.dir.x) all x
  pub on_y : Narrows (IsOnAxis object.det box.lo.y box.hi.y object.origin.y object.dir.y) x y
  pub on_z : Narrows (IsOnAxis object.det box.lo.z box.hi.z object.origin.z object.dir.z) y z

-- covers what is inside
Covers-inside : (object : ObjectRayValue) (box : BoxValue) (all x y z : Reach) → IsNarrowed object box all x y z →
    (n d : ℕ) → 0 < d → Covers z n d ↔ IsInside object box n d
Covers-inside object box all x y z h n d d_positive = (
  λ c.
      let on_z = (h.on_z n d d_positive).0 c in
      let on_y = (h.on_y n d d_positive).0 on_z.0 in
      let on_x = (h.on_x n d d_positive).0 on_y.0 in
      let within = (h.interval n d d_positive).0 on_x.0 in
      record { x = on_x.1; y = on_y.1; z = on_z.1; from = within.0; to = within.1 },
  λ i.
      (h.on_z n d d_positive).1 (
        (h.on_y n d d_positive).1 (
          (h.on_x n d d_positive).1
              ((h.interval n d d_positive).1 (i.from, i.to), i.x),
          i.y,
        ),
        i.z,
      ),
)

-- it is the reach, where its entry is at most its exit
pub IsReach-narrowed : (object : ObjectRayValue) (box : BoxValue) (all x y z : Reach) → IsNarrowed object box all x y z →
    IsAtMost z.entry.num z.entry.den z.exit.num z.exit.den → IsReach object box z
IsReach-narrowed object box all x y z h ordered = record {
  entry = (Covers-inside object box all x y z h z.entry.num z.entry.den z.entry.positive).0
      (record { from = omega arith; to = ordered });
  exit = (Covers-inside object box all x y z h z.exit.num z.exit.den z.exit.positive).0
      (record { from = ordered; to = omega arith });
  least = λ n d d_positive i. ((Covers-inside object box all x y z h n d d_positive).1 i).from;
  greatest = λ n d d_positive i. ((Covers-inside object box all x y z h n d d_positive).1 i).to;
  between = λ n d d_positive from to. (Covers-inside object box all x y z h n d d_positive).0 (record { from = from; to = to });
}

-- and where it isn't, nothing is inside
pub Never-narrowed : (object : ObjectRayValue) (box : BoxValue) (all x y z : Reach) → IsNarrowed object box all x y z →
    (IsAtMost z.entry.num z.entry.den z.exit.num z.exit.den → ⊥) →
    Never (IsInside object box)
Never-narrowed object box all x y z h crossed n d d_positive i =
    let c = (Covers-inside object box all x y z h n d d_positive).1 i in
    crossed (at_most_chain z.entry.num z.entry.den n d z.exit.num z.exit.den d_positive c.from c.to)

-- a ray and a box by what their accessors give
pub ray_of : {origin dir : Vec3} {det : ℤ} {tmin tmax : ℕ} (ray : ObjectRayValue) → origin ≡ ray.origin → dir ≡ ray.dir →
    det ≡ ray.det → tmin ≡ ray.tmin → tmax ≡ ray.tmax → object_value origin dir det tmin tmax ≡ ray
ray_of ray o d e p q = λ i. object_value (o i) (d i) (e i) (p i) (q i)

pub box_of : {lo hi : Vec3} (box : BoxValue) → lo ≡ box.lo → hi ≡ box.hi → box_value lo hi ≡ box
box_of box p q = λ i. box_value (p i) (q i)

-- what holds of a ray and a box as the program holds them holds of them as values
pub at_values : (P : ObjectRayValue → BoxValue → Type 0) (held_ray ray : ObjectRayValue) (held_box box : BoxValue) →
    held_ray ≡ ray → held_box ≡ box → P held_ray held_box → P ray box
at_values P held_ray ray held_box box p q h = subst (λ b. P ray b) q (subst (λ r. P r held_box) p h)

-- a number as the program holds it, in 64 bits
abbrev pub held : ℤ → ℤ
held z = to_z w64 (of_z w64 z)

-- the numbers of one axis fit 64 bits
IsOnAxis-held : (det lo hi o m : ℤ) →
    IsWithin (6 * 2 ^ 36) det → IsWithin (2 ^ 19) lo → IsWithin (2 ^ 19) hi →
    IsWithin (3 * 2 ^ 25 * (2 ^ 19 + 2 ^ 20)) o → IsWithin (3 * 2 ^ 45) m →
    IsOnAxis (held det) (held lo) (held hi) (held o) (held m) ≡ IsOnAxis det lo hi o m
IsOnAxis-held det lo hi o m p q r s t =
    let det_fits : FitsSigned w64 det = omega (arith, ints) in
    let lo_fits : FitsSigned w64 lo = omega (arith, ints) in
    let hi_fits : FitsSigned w64 hi = omega (arith, ints) in
    let o_fits : FitsSigned w64 o = omega (arith, ints) in
    let m_fits : FitsSigned w64 m = omega (arith, ints) in
    λ i. IsOnAxis (to_z-of_z w64 det det_fits i) (to_z-of_z w64 lo lo_fits i) (to_z-of_z w64 hi hi_fits i)
    (to_z-of_z w64 o o_fits i) (to_z-of_z w64 m m_fits i)

-- on each axis, what the program's numbers say
abbrev pub HeldX : ObjectRayValue → BoxValue → ℕ → ℕ → Type 0
HeldX object box =
    IsOnAxis (held object.det) (held box.lo.x) (held box.hi.x) (held object.origin.x) (held object.dir.x)

abbrev pub HeldY : ObjectRayValue → BoxValue → ℕ → ℕ → Type 0
HeldY object box =
    IsOnAxis (held object.det) (held box.lo.y) (held box.hi.y) (held object.origin.y) (held object.dir.y)

abbrev pub HeldZ : ObjectRayValue → BoxValue → ℕ → ℕ → Type 0
HeldZ object box =
    IsOnAxis (held object.det) (held box.lo.z) (held box.hi.z) (held object.origin.z) (held object.dir.z)

-- and that it is what the definition says
pub record AreHeld (object : ObjectRayValue) (box : BoxValue) : Type 1 where
  pub x : HeldX object box ≡ IsOnAxis object.det box.lo.x box.hi.x object.origin.x object.dir.x
  pub y : HeldY object box ≡ IsOnAxis object.det box.lo.y box.hi.y object.origin.y object.dir.y
  pub z : HeldZ object box ≡ IsOnAxis object.det box.lo.z box.hi.z object.origin.z object.dir.z

are_held : (object : ObjectRayValue) (box : BoxValue) → IsObjectRay object → IsBox box → AreHeld object box
are_held object box r b = record {
  x = IsOnAxis-held object.det box.lo.x box.hi.x object.origin.x object.dir.x r.det_short b.lo_short.x_within b.hi_short.x_within
      r.origin_short.x_within r.dir_short.x_within;
  y = IsOnAxis-held object.det box.lo.y box.hi.y object.origin.y object.dir.y r.det_short b.lo_short.y_within b.hi_short.y_within
      r.origin_short.y_within r.dir_short.y_within;
  z = IsOnAxis-held object.det box.lo.z box.hi.z object.origin.z object.dir.z r.det_short b.lo_short.z_within b.hi_short.z_within
      r.origin_short.z_within r.dir_short.z_within;
}

-- nothing is inside where nothing is between the ends on one axis
pub Never-x : (object : ObjectRayValue) (box : BoxValue) → IsObjectRay object → IsBox box →
    Never (HeldX object box) → Never (IsInside object box)
Never-x object box r b h n d d_positive i =
    subst (λ P. Never P) (are_held object box r b).x h n d d_positive i.x

pub Never-y : (object : ObjectRayValue) (box : BoxValue) → IsObjectRay object → IsBox box →
    Never (HeldY object box) → Never (IsInside object box)
Never-y object box r b h n d d_positive i =
    subst (λ P. Never P) (are_held object box r b).y h n d d_positive i.y

pub Never-z : (object : ObjectRayValue) (box : BoxValue) → IsObjectRay object → IsBox box →
    Never (HeldZ object box) → Never (IsInside object box)
Never-z object box r b h n d d_positive i =
    subst (λ P. Never P) (are_held object box r b).z h n d d_positive i.z

pub IsNarrowed-held : (object : ObjectRayValue) (box : BoxValue) (all x y z : Reach) → IsObjectRay object → IsBox box →
    ((n d : ℕ) → 0 < d → Covers all n d ↔ ((object.tmin * d ≤ 65536 * n) × (65536 * n ≤ object.tmax * d))) →
    Narrows (HeldX object box) all x → Narrows (HeldY object box) x y → Narrows (HeldZ object box) y z →
    IsNarrowed object box all x y z
IsNarrowed-held object box all x y z r b interval on_x on_y on_z =
    let same = are_held object box r b in
    record {
      interval = interval;
      on_x = subst (λ P. Narrows P all x) same.x on_x;
      on_y = subst (λ P. Narrows P x y) same.y on_y;
      on_z = subst (λ P. Narrows P y z) same.z on_z;
    }
