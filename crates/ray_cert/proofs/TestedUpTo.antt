-- What is found up to a limit is found of the leaves that are tested, where what is cut off isn't met up to it.
use Rattle.std.proofs.Common.{◌≡◌, ◌∙◌, sym, ap, subst, ℕ, Bool, false, ◌+◌, ◌≤◌, List, [], ◌∷◌, ◌++◌, All, Option, Some, inl, inr, sum_by, arith}
use Rattle.std.specs.List.{flat_map}
use Rattle.std.proofs.lemmas.Grind.{flat_map-append}
use Rattle.std.proofs.lemmas.List.Sums.{sum_by-append}
use Rattle.ray_geom.specs.declared.ratio.Ratio.{Ratio}
use Rattle.ray_geom.specs.Ratio.{ratio_of}
use Rattle.ray_tree.specs.Shapes.{Shape, Gone, Tip, Fork}
use Rattle.ray_tree.specs.Trees.{items_below, shape_at}
use Rattle.ray_tree.proofs.LeastLists.{All-second}
use Rattle.ray_query.specs.declared.found.Found.{Found}
use Rattle.ray_query.specs.KeyOrder.{AreApart, has_key}
use Rattle.ray_query.specs.Limits.{Holds, IsInOrder, is_open, is_within}
use Rattle.ray_query.proofs.Members.{Each-member, Member, Member-append, Member-append_left, Member-append_right}
use Rattle.ray_query.proofs.Orders.{Each, never, shut-beyond}
use Rattle.ray_cert.specs.Certificates.{AreCutsOf, tested_in, tested_in_part}
use Rattle.ray_cert.specs.Cuttings.{Bare, Cutting, Fits, Shut, Split, Tested, shut_of, tested_of}
use Rattle.ray_cert.specs.Parts.{Part}
use Rattle.ray_cert.specs.PlayLaw.{IsUpTo}
use Rattle.ray_cert.proofs.BelowNodes.{AreHeld}
use Rattle.ray_cert.proofs.Marked.{All-left}

-- ---- one tree

module _ (entry : ℕ → Option Ratio) (find : ℕ → List Found) (order : List ℕ) (limit : Ratio) where
  abbrev IsShut : ℕ → Type 0
  IsShut n = is_open (Some limit) (entry n) ≡ false

  beyond_shut : {A : Type 0} (n : ℕ) (f : Found) (fs : List Found) → Each (Holds (entry n)) fs → IsShut n → IsUpTo limit f.t → Member f fs → A
  beyond_shut n f fs held shut near m =
      never (is_within (Some limit) (ratio_of f.t)) near (shut-beyond (Some limit) (entry n) f (Each-member (Holds (entry n)) fs f held m) shut)

  tested_up_to : (s : Shape) (cut : Cutting) (f : Found) → Fits s cut → AreHeld entry find order s → All IsShut (shut_of s cut) → IsUpTo limit f.t
      → Member f (flat_map find (items_below order s)) → Member f (flat_map find (tested_of order s cut))
  tested_up_to Gone cut f fits held far near m = absurd m
  tested_up_to (Tip n first count) Bare f fits held far near m = absurd fits
  tested_up_to (Tip n first count) Shut f fits held far near m =
      beyond_shut n f (flat_map find (items_below order (Tip n first count))) held (far 0 n (omega arith)) near m
  tested_up_to (Tip n first count) Tested f fits held far near m = m
  tested_up_to (Tip n first count) (Split a b) f fits held far near m = absurd fits
  tested_up_to (Fork n l r) Bare f fits held far near m = absurd fits
  tested_up_to (Fork n l r) Shut f fits held far near m =
      beyond_shut n f (flat_map find (items_below order (Fork n l r))) held.0 (far 0 n (omega arith)) near m
  tested_up_to (Fork n l r) Tested f fits held far near m = absurd fits
  tested_up_to (Fork n l r) (Split a b) f fits held far near m =
      let xs = items_below order l in
      let ys = items_below order r in
      subst (Member f) (sym (flat_map-append find (tested_of order l a) (tested_of order r b)))
      (elim (Member-append (flat_map find xs) (flat_map find ys) f (subst (Member f) (flat_map-append find xs ys) m)) [
        | inl here ↦
            Member-append_left (flat_map find (tested_of order l a)) (flat_map find (tested_of order r b)) f
            (tested_up_to l a f fits.0 held.1 (All-left IsShut (shut_of l a) (shut_of r b) far) near here)
        | inr there ↦
            Member-append_right (flat_map find (tested_of order l a)) (flat_map find (tested_of order r b)) f
            (tested_up_to r b f fits.1 held.2 (All-second IsShut (shut_of l a) (shut_of r b) far) near there)
      ])

-- what is tested is found below the root
module _ (find : ℕ → List Found) (order : List ℕ) where
  tested-below : (s : Shape) (cut : Cutting) (f : Found) → Member f (flat_map find (tested_of order s cut)) → Member f (flat_map find (items_below order s))
  tested-below Gone cut f m = absurd m
  tested-below (Tip n first count) Bare f m = absurd m
  tested-below (Tip n first count) Shut f m = absurd m
  tested-below (Tip n first count) Tested f m = m
  tested-below (Tip n first count) (Split a b) f m = absurd m
  tested-below (Fork n l r) Bare f m = absurd m
  tested-below (Fork n l r) Shut f m = absurd m
  tested-below (Fork n l r) Tested f m = absurd m
  tested-below (Fork n l r) (Split a b) f m =
      let xs = tested_of order l a in
      let ys = tested_of order r b in
      subst (Member f) (sym (flat_map-append find (items_below order l) (items_below order r)))
      (elim (Member-append (flat_map find xs) (flat_map find ys) f (subst (Member f) (flat_map-append find xs ys) m)) [
        | inl here ↦
            Member-append_left (flat_map find (items_below order l)) (flat_map find (items_below order r)) f (tested-below l a f here)
        | inr there ↦
            Member-append_right (flat_map find (items_below order l)) (flat_map find (items_below order r)) f (tested-below r b f there)
      ])

  -- nothing stands there oftener
  tested-fewer : (w : Found → ℕ) (s : Shape) (cut : Cutting)
      → sum_by w (flat_map find (tested_of order s cut)) ≤ sum_by w (flat_map find (items_below order s))
  tested-fewer w Gone cut = omega arith
  tested-fewer w (Tip n first count) Bare = omega arith
  tested-fewer w (Tip n first count) Shut = omega arith
  tested-fewer w (Tip n first count) Tested = omega arith
  tested-fewer w (Tip n first count) (Split a b) = omega arith
  tested-fewer w (Fork n l r) Bare = omega arith
  tested-fewer w (Fork n l r) Shut = omega arith
  tested-fewer w (Fork n l r) Tested = omega arith
  tested-fewer w (Fork n l r) (Split a b) =
      let xs = tested_of order l a in
      let ys = tested_of order r b in
      let us = items_below order l in
      let vs = items_below order r in
      let left = tested-fewer w l a in
      let right = tested-fewer w r b in
      let few : sum_by w (flat_map find (xs ++ ys)) ≡ sum_by w (flat_map find xs) + sum_by w (flat_map find ys) =
      ap (sum_by w) (flat_map-append find xs ys) ∙ sum_by-append w (flat_map find xs) (flat_map find ys) in
      let many : sum_by w (flat_map find (us ++ vs)) ≡ sum_by w (flat_map find us) + sum_by w (flat_map find vs) =
      ap (sum_by w) (flat_map-append find us vs) ∙ sum_by-append w (flat_map find us) (flat_map find vs) in
      omega (arith, left, right, few, many)

-- ---- all parts

abbrev pub all_in_part : Part → List Found
all_in_part p = flat_map p.find (items_below p.tree.order (shape_at p.tree 0))

abbrev pub all_in : List Part → List Found
all_in [] = []
all_in (p ∷ ps) = all_in_part p ++ all_in ps

-- what is found in a part is held by the boxes above it, is left no sooner than entered, and lies up to an end
pub record IsSoundPart (end : Ratio) (p : Part) : Type 0 where
  pub held : AreHeld p.entry p.find p.tree.order (shape_at p.tree 0)
  pub in_order : (f : Found) → Member f (all_in_part p) → IsInOrder f
  pub within : (f : Found) → Member f (all_in_part p) → IsUpTo end f.t

pub all_up_to : (limit end : Ratio) (ps : List Part) (cs : List Cutting) (ds : List (List Bool)) (f : Found) → Each (IsSoundPart end) ps → AreCutsOf limit ps cs ds
    → IsUpTo limit f.t → Member f (all_in ps) → Member f (tested_in ps cs)
all_up_to limit end [] cs ds f sound are near m = absurd m
all_up_to limit end (p ∷ ps) [] ds f sound are near m = absurd are
all_up_to limit end (p ∷ ps) (c ∷ cs) [] f sound are near m = absurd are
all_up_to limit end (p ∷ ps) (c ∷ cs) (d ∷ ds) f (here, rest) (is, are) near m = elim (Member-append (all_in_part p) (all_in ps) f m) [
  | inl first ↦
      Member-append_left (tested_in_part p c) (tested_in ps cs) f
      (tested_up_to p.entry p.find p.tree.order limit (shape_at p.tree 0) c f is.fits here.held is.far near first)
  | inr later ↦ Member-append_right (tested_in_part p c) (tested_in ps cs) f (all_up_to limit end ps cs ds f rest are near later)
]

pub tested-all : (ps : List Part) (cs : List Cutting) (f : Found) → Member f (tested_in ps cs) → Member f (all_in ps)
tested-all [] cs f m = absurd m
tested-all (p ∷ ps) [] f m = absurd m
tested-all (p ∷ ps) (c ∷ cs) f m = elim (Member-append (tested_in_part p c) (tested_in ps cs) f m) [
  | inl first ↦ Member-append_left (all_in_part p) (all_in ps) f (tested-below p.find p.tree.order (shape_at p.tree 0) c f first)
  | inr later ↦ Member-append_right (all_in_part p) (all_in ps) f (tested-all ps cs f later)
]

fewer-all : (w : Found → ℕ) (ps : List Part) (cs : List Cutting) → sum_by w (tested_in ps cs) ≤ sum_by w (all_in ps)
fewer-all w [] cs = omega arith
fewer-all w (p ∷ ps) [] = omega arith
fewer-all w (p ∷ ps) (c ∷ cs) =
    let first = tested-fewer p.find p.tree.order w (shape_at p.tree 0) c in
    let rest = fewer-all w ps cs in
    let few = sum_by-append w (tested_in_part p c) (tested_in ps cs) in
    let many = sum_by-append w (all_in_part p) (all_in ps) in
    omega (arith, first, rest, few, many)

pub tested-apart : (ps : List Part) (cs : List Cutting) → AreApart (all_in ps) → AreApart (tested_in ps cs)
tested-apart ps cs apart = record {
  once = λ k. let few = fewer-all (has_key k) ps cs in let once = apart.once k in omega (arith, few, once);
}

-- what is found in any part is so
pub sound_in_order : (end : Ratio) (ps : List Part) (f : Found) → Each (IsSoundPart end) ps → Member f (all_in ps) → IsInOrder f
sound_in_order end [] f sound m = absurd m
sound_in_order end (p ∷ ps) f (here, rest) m = elim (Member-append (all_in_part p) (all_in ps) f m) [
  | inl first ↦ here.in_order f first
  | inr later ↦ sound_in_order end ps f rest later
]

pub sound_within : (end : Ratio) (ps : List Part) (f : Found) → Each (IsSoundPart end) ps → Member f (all_in ps) → IsUpTo end f.t
sound_within end [] f sound m = absurd m
sound_within end (p ∷ ps) f (here, rest) m = elim (Member-append (all_in_part p) (all_in ps) f m) [
  | inl first ↦ here.within f first
  | inr later ↦ sound_within end ps f rest later
]
