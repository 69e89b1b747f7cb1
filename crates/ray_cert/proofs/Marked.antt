-- The digits that are taken spell a cutting, and each cutting is taken by its digits.
use Rattle.std.proofs.Common.{suc, ◌≡◌, ◌∙◌, refl, sym, ap, ℕ, Bool, true, false, if◌then◌else◌, List, [], ◌∷◌, ◌++◌, Option, Some, None, option_map, option_and_then, All, append_assoc, append-nil, arith}
use Rattle.std.specs.Prelude.{IfSome}
use Rattle.std.specs.List.{flat_map}
use Rattle.std.proofs.lemmas.List.Elements.{All-append, All-cons, All-nil}
use Rattle.ray_geom.specs.declared.ratio.Ratio.{Ratio}
use Rattle.ray_tree.specs.Shapes.{Shape, Gone, Tip, Fork}
use Rattle.ray_tree.specs.Trees.{shape_at}
use Rattle.ray_tree.proofs.LeastLists.{All-second}
use Rattle.ray_query.specs.declared.found.Found.{Found}
use Rattle.ray_cert.specs.Certificates.{AreCutsOf, IsCutOf, is_met, tested_in, tested_in_part}
use Rattle.ray_cert.specs.Checking.{Taken, behind, both_by, cut_off, found_taken, gathered_from, refused, taken_of, whole_of}
use Rattle.ray_cert.specs.Cuttings.{Bare, Cutting, Fits, Shut, Split, Tested, marks, shut_of, tested_of}
use Rattle.ray_cert.specs.Parts.{Part}

abbrev pub IsFree : (ℕ → Bool) → ℕ → Type 0
IsFree met n = met n ≡ false

-- digits were read as a cutting, with these items and these digits left
record IsReadAs (met : ℕ → Bool) (order : List ℕ) (s : Shape) (digits : List Bool) (items : List ℕ) (rest : List Bool) : Type 0 where
  pub cut : Cutting
  pub fits : Fits s cut
  pub spelled : digits ≡ marks cut ++ rest
  pub far : All (IsFree met) (shut_of s cut)
  pub items_are : items ≡ tested_of order s cut

one_free : (met : ℕ → Bool) (n : ℕ) → met n ≡ false → All (IsFree met) (n ∷ [])
one_free met n free = All-cons (IsFree met) n [] free (All-nil (IsFree met))

pub All-left : {X : Type 0} (P : X → Type 0) (xs ys : List X) → All P (xs ++ ys) → All P xs
All-left P [] ys all = All-nil P
All-left P (x ∷ xs) ys all = All-cons P x xs (all 0 x (omega arith)) (All-left P xs ys (λ k d below. all (suc k) d (omega (arith, below))))

module _ (met : ℕ → Bool) (order : List ℕ) where
  abbrev IsRead : Shape → List Bool → Option Taken → Type 0
  IsRead s digits o = IfSome o (λ p. IsReadAs met order s digits p.0 p.1)

  -- ---- what is taken spells a cutting

  read_right : (n : ℕ) (l r : Shape) (ds : List Bool) (items : List ℕ) (rest : List Bool) → IsReadAs met order l ds items rest
      → (o : Option Taken) → IsRead r rest o → IsRead (Fork n l r) (true ∷ ds) (behind items o)
  read_right n l r ds items rest left None right = tt
  read_right n l r ds items rest left (Some (more, after)) right = record {
    cut = Split left.cut right.cut;
    fits = (left.fits, right.fits);
    spelled = ap (λ zs. true ∷ zs)
        (left.spelled ∙ (ap (λ zs. marks left.cut ++ zs) right.spelled ∙ sym (append_assoc (marks left.cut) (marks right.cut) after)));
    far = All-append (IsFree met) (shut_of l left.cut) (shut_of r right.cut) left.far right.far;
    items_are = λ i. left.items_are i ++ right.items_are i;
  }

  read_left : (n : ℕ) (l r : Shape) (ds : List Bool) (o : Option Taken) → IsRead l ds o
      → ((rest : List Bool) → IsRead r rest (taken_of met order r rest)) → IsRead (Fork n l r) (true ∷ ds) (both_by (taken_of met order r) o)
  read_left n l r ds None left right = tt
  read_left n l r ds (Some (items, rest)) left right = read_right n l r ds items rest left (taken_of met order r rest) (right rest)

  read_tip : (n first count : ℕ) (ds : List Bool) (b : Bool) → met n ≡ b → IsRead (Tip n first count) (false ∷ ds) (if b then refused else cut_off ds)
  read_tip n first count ds true is = tt
  read_tip n first count ds false is =
      record { cut = Shut; fits = tt; spelled = refl; far = one_free met n is; items_are = refl }

  read_fork : (n : ℕ) (l r : Shape) (ds : List Bool) (b : Bool) → met n ≡ b → IsRead (Fork n l r) (false ∷ ds) (if b then refused else cut_off ds)
  read_fork n l r ds true is = tt
  read_fork n l r ds false is =
      record { cut = Shut; fits = tt; spelled = refl; far = one_free met n is; items_are = refl }

  is-read : (s : Shape) (digits : List Bool) → IsRead s digits (taken_of met order s digits)
  is-read Gone digits = record { cut = Bare; fits = tt; spelled = refl; far = All-nil (IsFree met); items_are = refl }
  is-read (Tip n first count) [] = tt
  is-read (Tip n first count) (true ∷ ds) =
      record { cut = Tested; fits = tt; spelled = refl; far = All-nil (IsFree met); items_are = refl }
  is-read (Tip n first count) (false ∷ ds) = read_tip n first count ds (met n) refl
  is-read (Fork n l r) [] = tt
  is-read (Fork n l r) (true ∷ ds) = read_left n l r ds (taken_of met order l ds) (is-read l ds) (λ rest. is-read r rest)
  is-read (Fork n l r) (false ∷ ds) = read_fork n l r ds (met n) refl

  -- ---- each cutting is taken

  shut-taken : (n : ℕ) (rest : List Bool) → met n ≡ false → (if met n then refused else cut_off rest) ≡ Some ([], rest)
  shut-taken n rest free = ap (λ (b : Bool). if b then refused else cut_off rest) free

  marks-taken : (s : Shape) (cut : Cutting) (rest : List Bool) → Fits s cut → All (IsFree met) (shut_of s cut)
      → taken_of met order s (marks cut ++ rest) ≡ Some (tested_of order s cut, rest)
  marks-taken Gone Bare rest fits far = refl
  marks-taken Gone Shut rest fits far = absurd fits
  marks-taken Gone Tested rest fits far = absurd fits
  marks-taken Gone (Split a b) rest fits far = absurd fits
  marks-taken (Tip n first count) Bare rest fits far = absurd fits
  marks-taken (Tip n first count) Shut rest fits far = shut-taken n rest (far 0 n (omega arith))
  marks-taken (Tip n first count) Tested rest fits far = refl
  marks-taken (Tip n first count) (Split a b) rest fits far = absurd fits
  marks-taken (Fork n l r) Bare rest fits far = absurd fits
  marks-taken (Fork n l r) Shut rest fits far = shut-taken n rest (far 0 n (omega arith))
  marks-taken (Fork n l r) Tested rest fits far = absurd fits
  marks-taken (Fork n l r) (Split a b) rest fits far =
      let left : taken_of met order l (marks a ++ (marks b ++ rest)) ≡ Some (tested_of order l a, marks b ++ rest) =
      marks-taken l a (marks b ++ rest) fits.0 (All-left (IsFree met) (shut_of l a) (shut_of r b) far) in
      let right : taken_of met order r (marks b ++ rest) ≡ Some (tested_of order r b, rest) =
      marks-taken r b rest fits.1 (All-second (IsFree met) (shut_of l a) (shut_of r b) far) in
      ap (λ ds. both_by (taken_of met order r) (taken_of met order l ds)) (append_assoc (marks a) (marks b) rest)
      ∙ (ap (both_by (taken_of met order r)) left ∙ ap (behind (tested_of order l a)) right)

-- ---- whole strings

module _ (limit : Ratio) where
  -- a string was read as a cutting, by which this is found
  record IsCutWith (p : Part) (digits : List Bool) (fs : List Found) : Type 0 where
    pub cut : Cutting
    pub is : IsCutOf limit p cut digits
    pub found : fs ≡ tested_in_part p cut

  string_by : (p : Part) (digits : List Bool) (o : Option Taken) → IsRead (is_met limit p) p.tree.order (shape_at p.tree 0) digits o
      → IfSome (option_map (flat_map p.find) (whole_of o)) (IsCutWith p digits)
  string_by p digits None read = tt
  string_by p digits (Some (items, [])) read = record {
    cut = read.cut;
    is = record { fits = read.fits; spelled = read.spelled ∙ append-nil (marks read.cut); far = read.far };
    found = ap (flat_map p.find) read.items_are;
  }
  string_by p digits (Some (items, d ∷ ds)) read = tt

  string-read : (p : Part) (digits : List Bool) → IfSome (found_taken limit p digits) (IsCutWith p digits)
  string-read p digits =
      string_by p digits (taken_of (is_met limit p) p.tree.order (shape_at p.tree 0) digits)
      (is-read (is_met limit p) p.tree.order (shape_at p.tree 0) digits)

  cut-taken : (p : Part) (cut : Cutting) (digits : List Bool) → IsCutOf limit p cut digits → found_taken limit p digits ≡ Some (tested_in_part p cut)
  cut-taken p cut digits is =
      let s : Shape = shape_at p.tree 0 in
      let whole : digits ≡ marks cut ++ [] = is.spelled ∙ sym (append-nil (marks cut)) in
      ap (λ o. option_map (flat_map p.find) (whole_of o))
      (ap (taken_of (is_met limit p) p.tree.order s) whole ∙ marks-taken (is_met limit p) p.tree.order s cut [] is.fits is.far)

  -- ---- all strings

  pub record AreCutWith (fs : List Found) (ps : List Part) (ds : List (List Bool)) (gs : List Found) : Type 0 where
    pub cuts : List Cutting
    pub are : AreCutsOf limit ps cuts ds
    pub found : gs ≡ fs ++ tested_in ps cuts

  first_and : (fs : List Found) (p : Part) (ps : List Part) (d : List Bool) (ds : List (List Bool)) (hs : List Found) → IsCutWith p d hs
      → (o : Option (List Found)) → IfSome o (AreCutWith (fs ++ hs) ps ds) → IfSome o (AreCutWith fs (p ∷ ps) (d ∷ ds))
  first_and fs p ps d ds hs first None rest = tt
  first_and fs p ps d ds hs first (Some gs) rest = record {
    cuts = first.cut ∷ rest.cuts;
    are = (first.is, rest.are);
    found = rest.found ∙ (append_assoc fs hs (tested_in ps rest.cuts) ∙ ap (λ zs. fs ++ (zs ++ tested_in ps rest.cuts)) first.found);
  }

  then_rest : (fs : List Found) (p : Part) (ps : List Part) (d : List Bool) (ds : List (List Bool)) (o : Option (List Found)) → IfSome o (IsCutWith p d)
      → ((hs : List Found) → IfSome (gathered_from limit (fs ++ hs) ps ds) (AreCutWith (fs ++ hs) ps ds))
      → IfSome (option_and_then (λ hs. gathered_from limit (fs ++ hs) ps ds) o) (AreCutWith fs (p ∷ ps) (d ∷ ds))
  then_rest fs p ps d ds None first rest = tt
  then_rest fs p ps d ds (Some hs) first rest = first_and fs p ps d ds hs first (gathered_from limit (fs ++ hs) ps ds) (rest hs)

  pub gathered-cuts : (fs : List Found) (ps : List Part) (ds : List (List Bool)) → IfSome (gathered_from limit fs ps ds) (AreCutWith fs ps ds)
  gathered-cuts fs [] [] = record { cuts = []; are = tt; found = sym (append-nil fs) }
  gathered-cuts fs [] (d ∷ ds) = tt
  gathered-cuts fs (p ∷ ps) [] = tt
  gathered-cuts fs (p ∷ ps) (d ∷ ds) =
      then_rest fs p ps d ds (found_taken limit p d) (string-read p d) (λ hs. gathered-cuts (fs ++ hs) ps ds)

  pub cuts-gathered : (fs : List Found) (ps : List Part) (cs : List Cutting) (ds : List (List Bool)) → AreCutsOf limit ps cs ds
      → gathered_from limit fs ps ds ≡ Some (fs ++ tested_in ps cs)
  cuts-gathered fs [] [] [] are = ap Some (sym (append-nil fs))
  cuts-gathered fs [] [] (d ∷ ds) are = absurd are
  cuts-gathered fs [] (c ∷ cs) ds are = absurd are
  cuts-gathered fs (p ∷ ps) [] ds are = absurd are
  cuts-gathered fs (p ∷ ps) (c ∷ cs) [] are = absurd are
  cuts-gathered fs (p ∷ ps) (c ∷ cs) (d ∷ ds) (first, rest) =
      ap (option_and_then (λ hs. gathered_from limit (fs ++ hs) ps ds)) (cut-taken p c d first)
      ∙ (cuts-gathered (fs ++ tested_in_part p c) ps cs ds rest ∙ ap Some (append_assoc fs (tested_in_part p c) (tested_in ps cs)))
