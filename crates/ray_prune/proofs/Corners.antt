-- The image of what is in a box is between the images of the box's corners. A point may be a fraction: its
-- coordinates are p.x / k, p.y / k and p.z / k.
use Rattle.std.proofs.Common.{ℕ, ◌≡◌, ◌^◌, ◌<◌, Bool, true, false, cond, Option, Some, None, List, [], ◌∷◌, length, slice_index_or, lit<, refl, sym, ap, subst, ◌∙◌, arith}
use Rattle.std.specs.Prelude.{ℤ, pos, negsuc, ◌+ℤ◌, ◌*ℤ◌, ◌≤ℤ◌, ◌↔◌, neg_ℤ, IsTrue, IsSome, IfSome}
use Rattle.std.specs.List.{All}
use Rattle.std.proofs.lemmas.Int.{ints}
use Rattle.ray_geom.specs.declared.vec3.Vec3.{Vec3}
use Rattle.ray_geom.specs.Vector.{IsShort, vec3, dot_of}
use Rattle.ray_geom.specs.Boxes.{BoxValue, box_value, IsIn, IsPart, corners_of}
use Rattle.ray_geom.specs.LeastBoxes.{point_box, IsLeast}
use Rattle.ray_geom.specs.Transform.{MatrixValue, image_of}
use Rattle.ray_prune.specs.Pruning.{HoldsImages, KeepsCorners, box_of_images}
use Rattle.ray_geom.proofs.LeastBoxes.{IsPart-point, IsLeast-same, IsLeastOf-fold}
use Rattle.ray_geom.proofs.Ring.{*ℤ-+ℤ}
use Rattle.ray_geom.proofs.Triple.{swap_product}
use Rattle.ray_prune.proofs.Scaling.{times_rises, times_falls}

-- a corner by three choices, of hi where true
abbrev pub corner_of : BoxValue → Bool → Bool → Bool → Vec3
corner_of box i j l = vec3 (cond i box.hi.x box.lo.x) (cond j box.hi.y box.lo.y) (cond l box.hi.z box.lo.z)

each_corner : (m : MatrixValue) (box world : BoxValue) → HoldsImages m box world → (i j l : Bool) →
    IsIn (image_of m (corner_of box i j l)) world
each_corner m box world h false false false = h.each 0 box.lo (lit< tt)
each_corner m box world h false false true = h.each 1 box.lo (lit< tt)
each_corner m box world h false true false = h.each 2 box.lo (lit< tt)
each_corner m box world h false true true = h.each 3 box.lo (lit< tt)
each_corner m box world h true false false = h.each 4 box.lo (lit< tt)
each_corner m box world h true false true = h.each 5 box.lo (lit< tt)
each_corner m box world h true true false = h.each 6 box.lo (lit< tt)
each_corner m box world h true true true = h.each 7 box.lo (lit< tt)

-- the end of a side at which a multiple is least, and that at which it is greatest
least_end : (k : ℕ) (r lo hi p : ℤ) → (pos k *ℤ lo) ≤ℤ p → p ≤ℤ (pos k *ℤ hi) →
    (i : Bool) × ((pos k *ℤ (r *ℤ cond i hi lo)) ≤ℤ (r *ℤ p))
least_end k (pos n) lo hi p above below =
    (false, let up = times_rises n (pos k *ℤ lo) p above in omega (arith, ints, swap_product (pos n) (pos k) lo))
least_end k (negsuc n) lo hi p above below =
    (true, let down = times_falls n p (pos k *ℤ hi) below in omega (arith, ints, swap_product (negsuc n) (pos k) hi))

greatest_end : (k : ℕ) (r lo hi p : ℤ) → (pos k *ℤ lo) ≤ℤ p → p ≤ℤ (pos k *ℤ hi) →
    (i : Bool) × ((r *ℤ p) ≤ℤ (pos k *ℤ (r *ℤ cond i hi lo)))
greatest_end k (pos n) lo hi p above below =
    (true, let up = times_rises n p (pos k *ℤ hi) below in omega (arith, ints, swap_product (pos n) (pos k) hi))
greatest_end k (negsuc n) lo hi p above below =
    (false, let down = times_falls n (pos k *ℤ lo) p above in omega (arith, ints, swap_product (negsuc n) (pos k) lo))

least_sum : (k : ℕ) (a b c t end x y z : ℤ) → end ≤ℤ (((a +ℤ b) +ℤ c) +ℤ t) →
    (pos k *ℤ a) ≤ℤ x → (pos k *ℤ b) ≤ℤ y → (pos k *ℤ c) ≤ℤ z → (pos k *ℤ end) ≤ℤ (((x +ℤ y) +ℤ z) +ℤ (pos k *ℤ t))
least_sum k a b c t end x y z h p q r =
    let up = times_rises k end (((a +ℤ b) +ℤ c) +ℤ t) h in
    omega (arith, ints, *ℤ-+ℤ (pos k) ((a +ℤ b) +ℤ c) t, *ℤ-+ℤ (pos k) (a +ℤ b) c, *ℤ-+ℤ (pos k) a b)

greatest_sum : (k : ℕ) (a b c t end x y z : ℤ) → (((a +ℤ b) +ℤ c) +ℤ t) ≤ℤ end →
    x ≤ℤ (pos k *ℤ a) → y ≤ℤ (pos k *ℤ b) → z ≤ℤ (pos k *ℤ c) → (((x +ℤ y) +ℤ z) +ℤ (pos k *ℤ t)) ≤ℤ (pos k *ℤ end)
greatest_sum k a b c t end x y z h p q r =
    let up = times_rises k (((a +ℤ b) +ℤ c) +ℤ t) end h in
    omega (arith, ints, *ℤ-+ℤ (pos k) ((a +ℤ b) +ℤ c) t, *ℤ-+ℤ (pos k) (a +ℤ b) c, *ℤ-+ℤ (pos k) a b)

-- the point p / k is in the box
pub record IsInOver (k : ℕ) (p : Vec3) (box : BoxValue) : Type 0 where
  pub x_above : (pos k *ℤ box.lo.x) ≤ℤ p.x
  pub y_above : (pos k *ℤ box.lo.y) ≤ℤ p.y
  pub z_above : (pos k *ℤ box.lo.z) ≤ℤ p.z
  pub x_below : p.x ≤ℤ (pos k *ℤ box.hi.x)
  pub y_below : p.y ≤ℤ (pos k *ℤ box.hi.y)
  pub z_below : p.z ≤ℤ (pos k *ℤ box.hi.z)

-- one coordinate of its image, from those of the corners
pub record IsBetweenEnds (k : ℕ) (r p : Vec3) (t lo hi : ℤ) : Type 0 where
  pub above : (pos k *ℤ lo) ≤ℤ (dot_of r p +ℤ (pos k *ℤ t))
  pub below : (dot_of r p +ℤ (pos k *ℤ t)) ≤ℤ (pos k *ℤ hi)

row_between : (k : ℕ) (r p : Vec3) (t lo hi : ℤ) (box : BoxValue) → IsInOver k p box →
    ((i j l : Bool) → lo ≤ℤ (dot_of r (corner_of box i j l) +ℤ t)) →
    ((i j l : Bool) → (dot_of r (corner_of box i j l) +ℤ t) ≤ℤ hi) → IsBetweenEnds k r p t lo hi
row_between k r p t lo hi box is least greatest =
    let x = least_end k r.x box.lo.x box.hi.x p.x is.x_above is.x_below in
    let y = least_end k r.y box.lo.y box.hi.y p.y is.y_above is.y_below in
    let z = least_end k r.z box.lo.z box.hi.z p.z is.z_above is.z_below in
    let u = greatest_end k r.x box.lo.x box.hi.x p.x is.x_above is.x_below in
    let v = greatest_end k r.y box.lo.y box.hi.y p.y is.y_above is.y_below in
    let w = greatest_end k r.z box.lo.z box.hi.z p.z is.z_above is.z_below in
    let low = corner_of box x.0 y.0 z.0 in
    let high = corner_of box u.0 v.0 w.0 in
    record {
      above = least_sum k (r.x *ℤ low.x) (r.y *ℤ low.y) (r.z *ℤ low.z) t lo (r.x *ℤ p.x) (r.y *ℤ p.y) (r.z *ℤ p.z)
          (least x.0 y.0 z.0) x.1 y.1 z.1;
      below = greatest_sum k (r.x *ℤ high.x) (r.y *ℤ high.y) (r.z *ℤ high.z) t hi (r.x *ℤ p.x) (r.y *ℤ p.y) (r.z *ℤ p.z)
          (greatest u.0 v.0 w.0) u.1 v.1 w.1;
    }

-- the image of p / k is in each box that holds the images of the corners
pub record IsImageOver (k : ℕ) (m : MatrixValue) (p : Vec3) (world : BoxValue) : Type 0 where
  pub x : IsBetweenEnds k m.a p m.t.x world.lo.x world.hi.x
  pub y : IsBetweenEnds k m.b p m.t.y world.lo.y world.hi.y
  pub z : IsBetweenEnds k m.c p m.t.z world.lo.z world.hi.z

pub IsImageOver-corners : (k : ℕ) (m : MatrixValue) (box world : BoxValue) (p : Vec3) →
    HoldsImages m box world → IsInOver k p box → IsImageOver k m p world
IsImageOver-corners k m box world p h is =
    let each = each_corner m box world h in
    record {
      x = row_between k m.a p m.t.x world.lo.x world.hi.x box is (λ i j l. (each i j l).above.x) (λ i j l. (each i j l).below.x);
      y = row_between k m.b p m.t.y world.lo.y world.hi.y box is (λ i j l. (each i j l).above.y) (λ i j l. (each i j l).below.y);
      z = row_between k m.c p m.t.z world.lo.z world.hi.z box is (λ i j l. (each i j l).above.z) (λ i j l. (each i j l).below.z);
    }

-- of a whole point
over_one : (p : Vec3) (box : BoxValue) → IsIn p box → IsInOver 1 p box
over_one p box h =
    let ax = h.above.x in
    let ay = h.above.y in
    let az = h.above.z in
    let bx = h.below.x in
    let by' = h.below.y in
    let bz = h.below.z in
    record {
      x_above = omega (arith, ints);
      y_above = omega (arith, ints);
      z_above = omega (arith, ints);
      x_below = omega (arith, ints);
      y_below = omega (arith, ints);
      z_below = omega (arith, ints);
    }

one_above : (end d t : ℤ) → (pos 1 *ℤ end) ≤ℤ (d +ℤ (pos 1 *ℤ t)) → end ≤ℤ (d +ℤ t)
one_above end d t h = omega (arith, ints)

one_below : (end d t : ℤ) → (d +ℤ (pos 1 *ℤ t)) ≤ℤ (pos 1 *ℤ end) → (d +ℤ t) ≤ℤ end
one_below end d t h = omega (arith, ints)

-- the law of images
pub IsIn-image : (m : MatrixValue) (box world : BoxValue) (p : Vec3) → HoldsImages m box world → IsIn p box →
    IsIn (image_of m p) world
IsIn-image m box world p h is =
    let image = IsImageOver-corners 1 m box world p h (over_one p box is) in
    record {
      above = record {
        x = one_above world.lo.x (dot_of m.a p) m.t.x image.x.above;
        y = one_above world.lo.y (dot_of m.b p) m.t.y image.y.above;
        z = one_above world.lo.z (dot_of m.c p) m.t.z image.z.above;
      };
      below = record {
        x = one_below world.hi.x (dot_of m.a p) m.t.x image.x.below;
        y = one_below world.hi.y (dot_of m.b p) m.t.y image.y.below;
        z = one_below world.hi.z (dot_of m.c p) m.t.z image.z.below;
      };
    }

-- the greatest box
abbrev limits_box : BoxValue
limits_box =
    box_value (vec3 (neg_ℤ (pos (2 ^ 19))) (neg_ℤ (pos (2 ^ 19))) (neg_ℤ (pos (2 ^ 19)))) (vec3 (pos (2 ^ 19)) (pos (2 ^ 19)) (pos (2 ^ 19)))

in_limits : (v : Vec3) → IsShort (2 ^ 19) v → IsIn v limits_box
in_limits v h = record {
  above = record { x = h.x_within.above; y = h.y_within.above; z = h.z_within.above };
  below = record { x = h.x_within.below; y = h.y_within.below; z = h.z_within.below };
}

within_limits : (v : Vec3) → IsIn v limits_box → IsShort (2 ^ 19) v
within_limits v h = record {
  x_within = record { above = h.above.x; below = h.below.x };
  y_within = record { above = h.above.y; below = h.below.y };
  z_within = record { above = h.above.z; below = h.below.z };
}

-- where the images of the corners are within the limits, so is that of each point of the box
pub IsShort-image : (m : MatrixValue) (box : BoxValue) (p : Vec3) → KeepsCorners m box → IsIn p box → IsShort (2 ^ 19) (image_of m p)
IsShort-image m box p keeps is =
    within_limits (image_of m p)
    (IsIn-image m box limits_box p (record { each = λ k d below. in_limits (image_of m (slice_index_or (corners_of box) k d)) (keeps.each k d below) }) is)

-- the union of the images of the corners is the least box that holds them
some_of : (o : Option BoxValue) → (o ≡ None → ⊥) → IsSome o
some_of None h = absurd (h refl)
some_of (Some box) h = refl

by_points : (m : MatrixValue) (box : BoxValue) (o : Option BoxValue) →
    IfSome o (IsLeast (λ world. All (λ corner. IsPart (point_box (image_of m corner)) world) (corners_of box))) →
    IfSome o (IsLeast (HoldsImages m box))
by_points m box None h = h
by_points m box (Some r) h =
    IsLeast-same (λ world. All (λ corner. IsPart (point_box (image_of m corner)) world) (corners_of box)) (HoldsImages m box) r
    (λ world. (
      λ a. record { each = λ k d below. (IsPart-point (image_of m (slice_index_or (corners_of box) k d)) world).0 (a k d below) },
      λ a k d below. (IsPart-point (image_of m (slice_index_or (corners_of box) k d)) world).1 (a.each k d below),
    ))
    h

pub record IsImageBox (m : MatrixValue) (box : BoxValue) (o : Option BoxValue) : Type 0 where
  pub some : IsSome o
  pub least : IfSome o (IsLeast (HoldsImages m box))

pub IsImageBox-fold : (m : MatrixValue) (box : BoxValue) (points : List Vec3) (o : Option BoxValue) → points ≡ corners_of box →
    o ≡ box_of_images m points → IsImageBox m box o
IsImageBox-fold m box points o are is =
    let h = IsLeastOf-fold (λ p. point_box (image_of m p)) (corners_of box) in
    subst (λ x. IsImageBox m box x) (sym (is ∙ ap (λ ps. box_of_images m ps) are)) (record {
      some = some_of (box_of_images m (corners_of box)) (λ e. not_empty (corners_of box) (lit< tt) (h.none.0 e));
      least = by_points m box (box_of_images m (corners_of box)) h.some;
    })
  where
    not_empty : (points : List Vec3) → 0 < length points → points ≡ [] → ⊥
    not_empty [] h e = omega arith
    not_empty (p ∷ ps) h e = cc

pub IsLeast-unwrapped : (m : MatrixValue) (box : BoxValue) (o : Option BoxValue) (r : BoxValue) →
    IfSome o (IsLeast (HoldsImages m box)) → o ≡ Some r → IsLeast (HoldsImages m box) r
IsLeast-unwrapped m box o r h is = subst (λ x. IfSome x (IsLeast (HoldsImages m box))) is h

-- what a test of all corners says
pub KeepsCorners-test : (m : MatrixValue) (box : BoxValue) (points : List Vec3) (r : Bool) → points ≡ corners_of box →
    IsTrue r ↔ All (λ p. IsShort (2 ^ 19) (image_of m p)) points → IsTrue r ↔ KeepsCorners m box
KeepsCorners-test m box points r are h =
    let all : IsTrue r ↔ All (λ p. IsShort (2 ^ 19) (image_of m p)) (corners_of box) =
    subst (λ ps. IsTrue r ↔ All (λ p. IsShort (2 ^ 19) (image_of m p)) ps) are h in
    (λ told. record { each = all.0 told }, λ keeps. all.1 keeps.each)

pub KeepsCorners-each : (m : MatrixValue) (box : BoxValue) (points : List Vec3) → points ≡ corners_of box →
    KeepsCorners m box → All (λ p. IsShort (2 ^ 19) (image_of m p)) points
KeepsCorners-each m box points are keeps =
    subst (λ ps. All (λ p. IsShort (2 ^ 19) (image_of m p)) ps) (sym are) keeps.each
