-- Unions are least boxes, and least boxes of lists are unions.
use Rattle.std.proofs.Common.{ℕ, ◌≡◌, Option, Some, None, List, [], ◌∷◌, fold, slice_index_or, refl, sym, subst, arith}
use Rattle.std.specs.Prelude.{ℤ, ◌≤ℤ◌, ◌↔◌, IfSome}
use Rattle.std.specs.List.{All}
use Rattle.std.specs.Int.{int_min, int_max}
use Rattle.std.proofs.lemmas.Int.{ints, clamps}
use Rattle.std.proofs.lemmas.List.Elements.{All-cons, All-tail, All-nil}
use Rattle.ray_geom.specs.declared.vec3.Vec3.{Vec3}
use Rattle.ray_geom.specs.Vector.{IsWithin}
use Rattle.ray_geom.specs.Scene.{TriValue}
use Rattle.ray_geom.specs.Boxes.{BoxValue, IsBox, IsBelow, IsIn, IsPart}
use Rattle.ray_geom.specs.LeastBoxes.{point_box, union_of, joined_of, box_of_points, box_of_boxes, box_of_tri, HoldsPoints, HoldsBoxes, HoldsBoth, HoldsTri, IsLeast}

-- the lesser and the greater of two numbers
pub record IsLesser (a b c : ℤ) : Type 0 where
  pub left : c ≤ℤ a
  pub right : c ≤ℤ b
  pub greatest : (z : ℤ) → z ≤ℤ a → z ≤ℤ b → z ≤ℤ c

lesser : (a b : ℤ) → IsLesser a b (int_min a b)
lesser a b =
    record {
      left = omega (arith, ints, clamps);
      right = omega (arith, ints, clamps);
      greatest = λ z p q. omega (arith, ints, clamps);
    }

pub record IsGreater (a b c : ℤ) : Type 0 where
  pub left : a ≤ℤ c
  pub right : b ≤ℤ c
  pub least : (z : ℤ) → a ≤ℤ z → b ≤ℤ z → c ≤ℤ z

greater : (a b : ℤ) → IsGreater a b (int_max a b)
greater a b = record {
  left = omega (arith, ints, clamps);
  right = omega (arith, ints, clamps);
  least = λ z p q. omega (arith, ints, clamps);
}

min_within : (m : ℕ) (a b : ℤ) → IsWithin m a → IsWithin m b → IsWithin m (int_min a b)
min_within m a b p q = record { above = omega (arith, ints, clamps); below = omega (arith, ints, clamps) }

max_within : (m : ℕ) (a b : ℤ) → IsWithin m a → IsWithin m b → IsWithin m (int_max a b)
max_within m a b p q = record { above = omega (arith, ints, clamps); below = omega (arith, ints, clamps) }

min_max : (a b c d : ℤ) → a ≤ℤ c → b ≤ℤ d → int_min a b ≤ℤ int_max c d
min_max a b c d p q = omega (arith, ints, clamps)

-- "below" is an order, up to the points' being identical
pub IsBelow-chain : (a b c : Vec3) → IsBelow a b → IsBelow b c → IsBelow a c
IsBelow-chain a b c p q =
    let px = p.x in
    let py = p.y in
    let pz = p.z in
    let qx = q.x in
    let qy = q.y in
    let qz = q.z in
    record { x = omega (arith, ints); y = omega (arith, ints); z = omega (arith, ints) }

pub IsBelow-itself : (a : Vec3) → IsBelow a a
IsBelow-itself a = record { x = omega (arith, ints); y = omega (arith, ints); z = omega (arith, ints) }

-- what is in a box that is part of another is in that one too
pub IsIn-part : (p : Vec3) (inner outer : BoxValue) → IsPart inner outer → IsIn p inner → IsIn p outer
IsIn-part p inner outer h is = record {
  above = IsBelow-chain outer.lo inner.lo p h.above is.above;
  below = IsBelow-chain p inner.hi outer.hi is.below h.below;
}

pub IsPart-chain : (a b c : BoxValue) → IsPart a b → IsPart b c → IsPart a c
IsPart-chain a b c p q = record {
  above = IsBelow-chain c.lo b.lo a.lo q.above p.above;
  below = IsBelow-chain a.hi b.hi c.hi p.below q.below;
}

pub IsPart-itself : (a : BoxValue) → IsPart a a
IsPart-itself a = record { above = IsBelow-itself a.lo; below = IsBelow-itself a.hi }

-- the box of a point is in a box where the point is
pub IsPart-point : (v : Vec3) (box : BoxValue) → IsPart (point_box v) box ↔ IsIn v box
IsPart-point v box = (λ h. record { above = h.above; below = h.below }, λ h. record { above = h.above; below = h.below })

-- the union of two boxes is their least box
pub IsLeast-union : (a b : BoxValue) → IsLeast (HoldsBoth a b) (union_of a b)
IsLeast-union a b =
    let lx = lesser a.lo.x b.lo.x in
    let ly = lesser a.lo.y b.lo.y in
    let lz = lesser a.lo.z b.lo.z in
    let hx = greater a.hi.x b.hi.x in
    let hy = greater a.hi.y b.hi.y in
    let hz = greater a.hi.z b.hi.z in
    record {
      holds = record {
        first = record {
          above = record { x = lx.left; y = ly.left; z = lz.left };
          below = record { x = hx.left; y = hy.left; z = hz.left };
        };
        second = record {
          above = record { x = lx.right; y = ly.right; z = lz.right };
          below = record { x = hx.right; y = hy.right; z = hz.right };
        };
      };
      least = λ other h. record {
        above = record {
          x = lx.greatest other.lo.x h.first.above.x h.second.above.x;
          y = ly.greatest other.lo.y h.first.above.y h.second.above.y;
          z = lz.greatest other.lo.z h.first.above.z h.second.above.z;
        };
        below = record {
          x = hx.least other.hi.x h.first.below.x h.second.below.x;
          y = hy.least other.hi.y h.first.below.y h.second.below.y;
          z = hz.least other.hi.z h.first.below.z h.second.below.z;
        };
      };
    }

-- and it is within the limits
pub IsBox-union : (a b : BoxValue) → IsBox a → IsBox b → IsBox (union_of a b)
IsBox-union a b p q = record {
  lo_short = record {
    x_within = min_within _ a.lo.x b.lo.x p.lo_short.x_within q.lo_short.x_within;
    y_within = min_within _ a.lo.y b.lo.y p.lo_short.y_within q.lo_short.y_within;
    z_within = min_within _ a.lo.z b.lo.z p.lo_short.z_within q.lo_short.z_within;
  };
  hi_short = record {
    x_within = max_within _ a.hi.x b.hi.x p.hi_short.x_within q.hi_short.x_within;
    y_within = max_within _ a.hi.y b.hi.y p.hi_short.y_within q.hi_short.y_within;
    z_within = max_within _ a.hi.z b.hi.z p.hi_short.z_within q.hi_short.z_within;
  };
  x_ordered = min_max a.lo.x b.lo.x a.hi.x b.hi.x p.x_ordered q.x_ordered;
  y_ordered = min_max a.lo.y b.lo.y a.hi.y b.hi.y p.y_ordered q.y_ordered;
  z_ordered = min_max a.lo.z b.lo.z a.hi.z b.hi.z p.z_ordered q.z_ordered;
}

-- a least box of what says the same
pub IsLeast-same : (P Q : BoxValue → Type 0) (box : BoxValue) →
    ((other : BoxValue) → P other ↔ Q other) → IsLeast P box → IsLeast Q box
IsLeast-same P Q box same h = record {
  holds = (same box).0 h.holds;
  least = λ other q. h.least other ((same other).1 q);
}

-- the box of a triangle is the least that holds its vertices
pub IsLeast-tri : (tri : TriValue) → IsLeast (HoldsTri tri) (box_of_tri tri)
IsLeast-tri tri =
    let first = union_of (point_box tri.v0) (point_box tri.v1) in
    let two = IsLeast-union (point_box tri.v0) (point_box tri.v1) in
    let three = IsLeast-union first (point_box tri.v2) in
    record {
      holds = record {
        v0 = (IsPart-point tri.v0 (box_of_tri tri)).0 (IsPart-chain (point_box tri.v0) first (box_of_tri tri) two.holds.first three.holds.first);
        v1 = (IsPart-point tri.v1 (box_of_tri tri)).0 (IsPart-chain (point_box tri.v1) first (box_of_tri tri) two.holds.second three.holds.first);
        v2 = (IsPart-point tri.v2 (box_of_tri tri)).0 three.holds.second;
      };
      least = λ other h. three.least other (record {
        first = two.least other (record {
          first = (IsPart-point tri.v0 other).1 h.v0;
          second = (IsPart-point tri.v1 other).1 h.v1;
        });
        second = (IsPart-point tri.v2 other).1 h.v2;
      });
    }

-- the least box of what there is so far and of the boxes of more items
abbrev IsFolded : {X : Type 0} → (X → BoxValue) → List X → BoxValue → Option BoxValue → Type 0
IsFolded f xs so_far None = ⊥
IsFolded f xs so_far (Some r) = IsLeast (λ other. IsPart so_far other × All (λ x. IsPart (f x) other) xs) r

IsFolded-cons : {X : Type 0} (f : X → BoxValue) (x : X) (xs : List X) (so_far : BoxValue) (r : Option BoxValue) →
    IsFolded f xs (union_of so_far (f x)) r → IsFolded f (x ∷ xs) so_far r
IsFolded-cons f x xs so_far None h = h
IsFolded-cons f x xs so_far (Some r) h =
    let two = IsLeast-union so_far (f x) in
    let joined = union_of so_far (f x) in
    record {
      holds = (
        IsPart-chain so_far joined r two.holds.first h.holds.0,
        All-cons (λ y. IsPart (f y) r) x xs (IsPart-chain (f x) joined r two.holds.second h.holds.0) h.holds.1,
      );
      least = λ other q. h.least other (
        two.least other (record { first = q.0; second = q.1 0 x (omega arith) }),
        All-tail (λ y. IsPart (f y) other) x xs q.1,
      );
    }

folded : {X : Type 0} (f : X → BoxValue) (xs : List X) (so_far : BoxValue) →
    IsFolded f xs so_far (fold (λ o x. joined_of o (f x)) (Some so_far) xs)
folded f [] so_far = record {
  holds = (IsPart-itself so_far, All-nil (λ x. IsPart (f x) so_far));
  least = λ other h. h.0;
}
folded f (x ∷ xs) so_far =
    IsFolded-cons f x xs so_far (fold (λ o y. joined_of o (f y)) (Some (union_of so_far (f x))) xs)
    (folded f xs (union_of so_far (f x)))

-- what the least box of a list says
pub record IsLeastOf {X : Type 0} (f : X → BoxValue) (xs : List X) (o : Option BoxValue) : Type 0 where
  pub some : IfSome o (IsLeast (λ other. All (λ x. IsPart (f x) other) xs))
  pub none : (o ≡ None) ↔ (xs ≡ [])

IsLeastOf-cons : {X : Type 0} (f : X → BoxValue) (x : X) (xs : List X) (r : Option BoxValue) →
    IsFolded f xs (f x) r → IsLeastOf f (x ∷ xs) r
IsLeastOf-cons f x xs None h = absurd h
IsLeastOf-cons f x xs (Some r) h = record {
  some = record {
    holds = All-cons (λ y. IsPart (f y) r) x xs h.holds.0 h.holds.1;
    least = λ other q. h.least other (q 0 x (omega arith), All-tail (λ y. IsPart (f y) other) x xs q);
  };
  none = (λ e. cc, λ e. cc);
}

pub IsLeastOf-fold : {X : Type 0} (f : X → BoxValue) (xs : List X) →
    IsLeastOf f xs (fold (λ o x. joined_of o (f x)) None xs)
IsLeastOf-fold f [] = record { some = tt; none = (λ _. refl, λ _. refl) }
IsLeastOf-fold f (x ∷ xs) =
    IsLeastOf-cons f x xs (fold (λ o y. joined_of o (f y)) (Some (f x)) xs) (folded f xs (f x))

-- for points, by where they are
pub IfSome-points : (points : List Vec3) (o : Option BoxValue) →
    IfSome o (IsLeast (λ other. All (λ v. IsPart (point_box v) other) points)) → IfSome o (IsLeast (HoldsPoints points))
IfSome-points points None h = h
IfSome-points points (Some r) h =
    IsLeast-same (λ other. All (λ v. IsPart (point_box v) other) points) (HoldsPoints points) r
    (λ other. (
      λ a k d below. (IsPart-point (slice_index_or points k d) other).0 (a k d below),
      λ a k d below. (IsPart-point (slice_index_or points k d) other).1 (a k d below),
    ))
    h

-- the same of what is equal to these
pub IsLeast-is_union : (a b r : BoxValue) → r ≡ union_of a b → IsLeast (HoldsBoth a b) r
IsLeast-is_union a b r e = subst (λ x. IsLeast (HoldsBoth a b) x) (sym e) (IsLeast-union a b)

pub IsLeast-is_tri : (tri : TriValue) (r : BoxValue) → r ≡ box_of_tri tri → IsLeast (HoldsTri tri) r
IsLeast-is_tri tri r e = subst (λ x. IsLeast (HoldsTri tri) x) (sym e) (IsLeast-tri tri)

-- what the calls on lists give
pub IsLeastOf-boxes : (boxes : List BoxValue) (o : Option BoxValue) → o ≡ box_of_boxes boxes →
    IfSome o (IsLeast (HoldsBoxes boxes)) × ((o ≡ None) ↔ (boxes ≡ []))
IsLeastOf-boxes boxes o e =
    let h = IsLeastOf-fold (λ b. b) boxes in
    subst (λ x. IfSome x (IsLeast (HoldsBoxes boxes)) × ((x ≡ None) ↔ (boxes ≡ []))) (sym e) (h.some, h.none)

pub IsLeastOf-points : (points : List Vec3) (o : Option BoxValue) → o ≡ box_of_points points →
    IfSome o (IsLeast (HoldsPoints points)) × ((o ≡ None) ↔ (points ≡ []))
IsLeastOf-points points o e =
    let h = IsLeastOf-fold point_box points in
    subst (λ x. IfSome x (IsLeast (HoldsPoints points)) × ((x ≡ None) ↔ (points ≡ []))) (sym e)
    (IfSome-points points (box_of_points points) h.some, h.none)
