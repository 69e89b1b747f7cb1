-- Lists of touches, one after another.
use Rattle.std.proofs.Common.{◌≡◌, ◌++◌, ◌∷◌, [], ◌∙◌, ◌+◌, ◌<◌, ℕ, List, Option, map, refl, sym, subst, ap, arith, get_or, take, length, append_assoc}
use Rattle.std.specs.List.{flat_map}
use Rattle.std.proofs.lemmas.List.{append-nil, map-append, take_more}
use Rattle.std.proofs.Math.Seq.{take-length}
use Rattle.std.proofs.lemmas.List.Concat.{flat_map-append}
use Rattle.std.proofs.lemmas.List.Elements.{All-append, All-cons}
use Rattle.ray_rules.specs.declared.access_type.AccessType.TheVariants.{StructureRead}
use Rattle.ray_rules.specs.declared.byte_range.ByteRange.{ByteRange}
use Rattle.ray_rules.specs.declared.touch.Touch.{Touch}
use Rattle.ray_rules.specs.Access.{Accesses, all_accesses, at_structure, structure_reads}
use Rattle.ray_rules.specs.Status.{Status}
use Rattle.ray_access.specs.declared.touched.Touched.{Touched}
use Rattle.ray_access.specs.declared.touches.Touches.{Touches}
use Rattle.ray_access.specs.Axis.{TouchFits, touched}
use Rattle.ray_access.specs.Lists.{Adds, AreOf, AreTouched, input_touches}

-- no touch more
pub adds_none : (z : Status) (list : List Touched) → Adds z [] list list
adds_none z list = record { are = sym (append-nil list); fit = λ k d below. absurd (omega (arith, below)) }

-- one touch more
pub adds_one :
    (z : Status) (t : Touch) (old new : List Touched) → TouchFits t → new ≡ old ++ touched z t ∷ [] → Adds z (t ∷ []) old new
adds_one z t old new fits e = record {
  are = e;
  fit = All-cons TouchFits t [] fits (λ k d below. absurd (omega (arith, below)));
}

-- some touches more, and then others
pub adds_then :
    (z : Status) (a b : List Touch) (old mid new : List Touched) → Adds z a old mid → Adds z b mid new
    → Adds z (a ++ b) old new
adds_then z a b old mid new first second = record {
  are =
      second.are
      ∙ (ap (λ (xs : List Touched). xs ++ map (touched z) b) first.are
      ∙ (append_assoc old (map (touched z) a) (map (touched z) b)
      ∙ ap (λ (xs : List Touched). old ++ xs) (sym (map-append (touched z) a b))));
  fit = All-append TouchFits a b first.fit second.fit;
}

-- what the next item of a list touches
pub adds_next :
    {X : Type 0} (z : Status) (f : X → List Touch) (xs : List X) (i : ℕ) (d : X) (old mid new : List Touched)
    → i < length xs → Adds z (flat_map f (take i xs)) old mid → Adds z (f (get_or xs i d)) mid new
    → Adds z (flat_map f (take (i + 1) xs)) old new
adds_next z f xs i d old mid new below before next =
    let x = get_or xs i d in
    subst (λ ys. Adds z (flat_map f ys) old new) (sym (take_more xs i d below))
    (subst (λ ts. Adds z ts old new) (sym (flat_map-append f (take i xs) (x ∷ [])))
    (adds_then z _ _ old mid new before (subst (λ ts. Adds z ts mid new) (sym (append-nil (f x))) next)))

-- the same where the item is given
pub adds_item :
    {X : Type 0} (z : Status) (f : X → List Touch) (xs : List X) (i : ℕ) (x : X) (old mid new : List Touched)
    → i < length xs → x ≡ get_or xs i x → Adds z (flat_map f (take i xs)) old mid → Adds z (f x) mid new
    → Adds z (flat_map f (take (i + 1) xs)) old new
adds_item z f xs i x old mid new below e before next =
    adds_next z f xs i x old mid new below before (subst (λ y. Adds z (f y) mid new) e next)

-- the read of the next structure
pub adds_next_structure :
    (z : Status) (ids : List ℕ) (i d : ℕ) (old mid new : List Touched) → i < length ids
    → Adds z (structure_reads (take i ids)) old mid → Adds z (at_structure StructureRead (get_or ids i d) ∷ []) mid new
    → Adds z (structure_reads (take (i + 1) ids)) old new
adds_next_structure z ids i d old mid new below before next =
    subst (λ ys. Adds z (structure_reads ys) old new) (sym (take_more ids i d below))
    (subst (λ ts. Adds z ts old new) (sym (map-append (at_structure StructureRead) (take i ids) (get_or ids i d ∷ [])))
    (adds_then z _ _ old mid new before next))

-- what a geometry reads, input by input
pub adds_three :
    (z : Status) (f : ByteRange → Touch) (a b c : Option ByteRange) (l0 l1 l2 l3 : List Touched)
    → Adds z (input_touches a) l0 l1 → Adds z (input_touches b) l1 l2 → Adds z (input_touches c) l2 l3
    → Adds z (input_touches a ++ (input_touches b ++ input_touches c)) l0 l3
adds_three z f a b c l0 l1 l2 l3 first second third =
    adds_then z _ _ l0 l1 l3 first (adds_then z _ _ l1 l2 l3 second third)

-- a list that was begun with no touch
pub begun : (z : Status) (ts : List Touch) (old new : List Touched) → old ≡ [] → Adds z ts old new → AreTouched z ts new
begun z ts old new e adds = record {
  are = adds.are ∙ ap (λ (xs : List Touched). xs ++ map (touched z) ts) e;
  fit = adds.fit;
}

-- the accesses of several parts
all_reads :
    {X : Type 0} (f : X → Accesses) (xs : List X) → (all_accesses (map f xs)).reads ≡ flat_map (λ x. (f x).reads) xs
all_reads f [] = refl
all_reads f (x ∷ xs) = ap (λ (ts : List Touch). (f x).reads ++ ts) (all_reads f xs)

all_writes :
    {X : Type 0} (f : X → Accesses) (xs : List X) → (all_accesses (map f xs)).writes ≡ flat_map (λ x. (f x).writes) xs
all_writes f [] = refl
all_writes f (x ∷ xs) = ap (λ (ts : List Touch). (f x).writes ++ ts) (all_writes f xs)

-- all parts are listed
pub parts_done :
    {X : Type 0} (z : Status) (f : X → Accesses) (xs : List X) (n : ℕ) (touches : Touches) → n ≡ length xs
    → Adds z (flat_map (λ x. (f x).reads) (take n xs)) [] touches.reads.items
    → Adds z (flat_map (λ x. (f x).writes) (take n xs)) [] touches.writes.items
    → AreOf z (all_accesses (map f xs)) touches
parts_done z f xs n touches e reads writes =
    let whole : take n xs ≡ xs = subst (λ k. take k xs ≡ xs) (sym e) (take-length xs) in
    record {
      reads =
          subst (λ ts. AreTouched z ts touches.reads.items) (sym (all_reads f xs))
          (begun z _ [] _ refl (subst (λ ys. Adds z (flat_map (λ x. (f x).reads) ys) [] touches.reads.items) whole reads));
      writes =
          subst (λ ts. AreTouched z ts touches.writes.items) (sym (all_writes f xs))
          (begun z _ [] _ refl (subst (λ ys. Adds z (flat_map (λ x. (f x).writes) ys) [] touches.writes.items) whole writes));
    }
