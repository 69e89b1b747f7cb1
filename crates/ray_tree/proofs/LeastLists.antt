-- Least boxes of lists of boxes.
use Rattle.std.proofs.Common.{◌≡◌, ◌++◌, List, [], ◌∷◌}
use Rattle.std.specs.List.{All}
use Rattle.std.proofs.lemmas.List.Elements.{All-nil, All-cons, All-head, All-tail, All-append, All-weaker}
use Rattle.ray_geom.specs.Boxes.{BoxValue, IsPart}
use Rattle.ray_geom.specs.LeastBoxes.{HoldsBoxes, IsLeast, union_of}
use Rattle.ray_geom.proofs.LeastBoxes.{IsLeast-union, IsPart-chain, IsPart-itself}
use Rattle.ray_prune.proofs.Unions.{IsLeast-only}

pub All-first : {X : Type 0} (P : X → Type 0) (xs ys : List X) → All P (xs ++ ys) → All P xs
All-first P [] ys h = All-nil P
All-first P (x ∷ xs) ys h = All-cons P x xs (All-head P x (xs ++ ys) h) (All-first P xs ys (All-tail P x (xs ++ ys) h))

pub All-second : {X : Type 0} (P : X → Type 0) (xs ys : List X) → All P (xs ++ ys) → All P ys
All-second P [] ys h = h
All-second P (x ∷ xs) ys h = All-second P xs ys (All-tail P x (xs ++ ys) h)

-- the least box of two lists is the union of theirs
pub least_append : (xs ys : List BoxValue) (a b : BoxValue) → IsLeast (HoldsBoxes xs) a → IsLeast (HoldsBoxes ys) b → IsLeast (HoldsBoxes (xs ++ ys)) (union_of a b)
least_append xs ys a b p q =
    let both = IsLeast-union a b in
    let u = union_of a b in
    record {
      holds = All-append (λ x. IsPart x u) xs ys
          (All-weaker (λ x. IsPart x a) (λ x. IsPart x u) (λ x h. IsPart-chain x a u h both.holds.first) xs p.holds)
          (All-weaker (λ x. IsPart x b) (λ x. IsPart x u) (λ x h. IsPart-chain x b u h both.holds.second) ys q.holds);
      least = λ other h. both.least other (record {
        first = p.least other (All-first (λ x. IsPart x other) xs ys h);
        second = q.least other (All-second (λ x. IsPart x other) xs ys h);
      });
    }

-- that of one box is the box
pub least_one : (a : BoxValue) → IsLeast (HoldsBoxes (a ∷ [])) a
least_one a = record {
  holds = All-cons (λ x. IsPart x a) a [] (IsPart-itself a) (All-nil (λ x. IsPart x a));
  least = λ other h. All-head (λ x. IsPart x other) a [] h;
}

-- there is one least box
pub same_least : (xs : List BoxValue) (a b : BoxValue) → IsLeast (HoldsBoxes xs) a → IsLeast (HoldsBoxes xs) b → a ≡ b
same_least xs a b p q = IsLeast-only (HoldsBoxes xs) a b p q
