-- Union is commutative, associative and idempotent, and boxes in each other are identical.
use Rattle.std.proofs.Common.{◌≡◌, arith}
use Rattle.std.specs.Prelude.{ℤ, ◌≤ℤ◌}
use Rattle.std.proofs.lemmas.Int.{ints}
use Rattle.ray_geom.specs.declared.vec3.Vec3.{Vec3}
use Rattle.ray_geom.specs.Vector.{vec3}
use Rattle.ray_geom.specs.Boxes.{BoxValue, box_value, IsBelow, IsPart}
use Rattle.ray_geom.specs.LeastBoxes.{union_of, HoldsBoth, IsLeast}
use Rattle.ray_geom.proofs.LeastBoxes.{IsPart-chain, IsPart-itself, IsLeast-union, IsLeast-same}

-- two least boxes of one thing are identical
between : (a b : ℤ) → a ≤ℤ b → b ≤ℤ a → a ≡ b
between a b p q = omega (arith, ints)

IsBelow-same : (a b : Vec3) → IsBelow a b → IsBelow b a → a ≡ b
IsBelow-same a b p q = λ i. vec3 (between a.x b.x p.x q.x i) (between a.y b.y p.y q.y i) (between a.z b.z p.z q.z i)

pub IsPart-same : (a b : BoxValue) → IsPart a b → IsPart b a → a ≡ b
IsPart-same a b p q = λ i. box_value (IsBelow-same a.lo b.lo q.above p.above i) (IsBelow-same a.hi b.hi p.below q.below i)

pub IsLeast-only : (P : BoxValue → Type 0) (a b : BoxValue) → IsLeast P a → IsLeast P b → a ≡ b
IsLeast-only P a b p q = IsPart-same a b (p.least b q.holds) (q.least a p.holds)

-- union is commutative, associative and idempotent
pub union_of-comm : (a b : BoxValue) → union_of a b ≡ union_of b a
union_of-comm a b =
    IsLeast-only (HoldsBoth a b) (union_of a b) (union_of b a) (IsLeast-union a b)
    (IsLeast-same (HoldsBoth b a) (HoldsBoth a b) (union_of b a)
    (λ other. (λ h. record { first = h.second; second = h.first }, λ h. record { first = h.second; second = h.first }))
    (IsLeast-union b a))

-- the least box of three
abbrev HoldsThree : BoxValue → BoxValue → BoxValue → BoxValue → Type 0
HoldsThree a b c other = IsPart a other × IsPart b other × IsPart c other

left_union : (a b c : BoxValue) → IsLeast (HoldsThree a b c) (union_of (union_of a b) c)
left_union a b c =
    let two = IsLeast-union a b in
    let all = IsLeast-union (union_of a b) c in
    let r = union_of (union_of a b) c in
    record {
      holds = (
        IsPart-chain a (union_of a b) r two.holds.first all.holds.first,
        IsPart-chain b (union_of a b) r two.holds.second all.holds.first,
        all.holds.second,
      );
      least = λ other h. all.least other (record {
        first = two.least other (record { first = h.0; second = h.1 });
        second = h.2;
      });
    }

right_union : (a b c : BoxValue) → IsLeast (HoldsThree a b c) (union_of a (union_of b c))
right_union a b c =
    let two = IsLeast-union b c in
    let all = IsLeast-union a (union_of b c) in
    let r = union_of a (union_of b c) in
    record {
      holds = (
        all.holds.first,
        IsPart-chain b (union_of b c) r two.holds.first all.holds.second,
        IsPart-chain c (union_of b c) r two.holds.second all.holds.second,
      );
      least = λ other h. all.least other (record {
        first = h.0;
        second = two.least other (record { first = h.1; second = h.2 });
      });
    }

pub union_of-assoc : (a b c : BoxValue) → union_of (union_of a b) c ≡ union_of a (union_of b c)
union_of-assoc a b c =
    IsLeast-only (HoldsThree a b c) (union_of (union_of a b) c) (union_of a (union_of b c)) (left_union a b c) (right_union a b c)

pub union_of-idem : (a : BoxValue) → union_of a a ≡ a
union_of-idem a =
    IsLeast-only (HoldsBoth a a) (union_of a a) a (IsLeast-union a a)
    (record {
      holds = record { first = IsPart-itself a; second = IsPart-itself a };
      least = λ other h. h.first;
    })
