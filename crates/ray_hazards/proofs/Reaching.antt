-- Lists of touches that reach the same, and what follows from it.
use Rattle.std.proofs.Common.{◌≡◌, ◌<◌, ◌+◌, ◌++◌, ◌∷◌, [], ◌&&◌, ◌||◌, ℕ, Bool, true, false, List, Option, Some, None, map, get_or, take, length, refl, sym, ◌∙◌, ap, subst, append_assoc}
use Rattle.std.specs.List.{list_any}
use Rattle.std.specs.Option.{option_to_list}
use Rattle.std.proofs.lemmas.List.{append-nil, take_more}
use Rattle.std.proofs.lemmas.List.Folds.{list_any-append}
use Rattle.std.proofs.Math.Seq.{take-length}
use Rattle.ray_access.specs.declared.touched.Touched.{Touched}
use Rattle.ray_access.specs.Axis.{touched}
use Rattle.ray_access.specs.Lists.{AreTouched}
use Rattle.ray_rules.specs.declared.touch.Touch.{Touch}
use Rattle.ray_rules.specs.Status.{Status}
use Rattle.ray_hazards.specs.Cells.{has_cell}
use Rattle.ray_hazards.specs.Lasts.{has_it}
use Rattle.ray_hazards.specs.Reaching.{AreReached, GoesOn, ReachSame, reaches}

-- a list reaches what it reaches
pub reach-like : (starts : List ℕ) (one other : List Touched) → one ≡ other → ReachSame starts one other
reach-like starts one other e = λ test c. ap (list_any (reaches starts test c)) e

pub reach-then :
    (starts : List ℕ) (one mid other : List Touched) → ReachSame starts one mid → ReachSame starts mid other
    → ReachSame starts one other
reach-then starts one mid other first second = λ test c. first test c ∙ second test c

pub reach-append :
    (starts : List ℕ) (a b c d : List Touched) → ReachSame starts a c → ReachSame starts b d
    → ReachSame starts (a ++ b) (c ++ d)
reach-append starts a b c d first second = λ test k.
    let p = reaches starts test k in
    list_any-append p a b
    ∙ ((λ i. first test k i || second test k i)
    ∙ sym (list_any-append p c d))

-- one touch more
pub reach-next :
    (starts : List ℕ) (ts : List Touched) (k : ℕ) (d : Touched) (old : List Touched) (last : Option Touched)
    (new : List Touched) (next : Touched) → k < length ts → ReachSame starts (take k ts) (old ++ option_to_list last)
    → GoesOn starts old last (get_or ts k d) new next → ReachSame starts (take (k + 1) ts) (new ++ next ∷ [])
reach-next starts ts k d old last new next below before on =
    let x = get_or ts k d in
    subst (λ us. ReachSame starts us (new ++ next ∷ [])) (sym (take_more ts k d below))
    (reach-then starts (take k ts ++ x ∷ []) ((old ++ option_to_list last) ++ x ∷ []) (new ++ next ∷ [])
    (reach-append starts (take k ts) (x ∷ []) (old ++ option_to_list last) (x ∷ []) before
    (reach-like starts (x ∷ []) (x ∷ []) refl)) on)

-- all touches
pub reach-all :
    (starts : List ℕ) (ts : List Touched) (k : ℕ) (list : List Touched) → k ≡ length ts
    → ReachSame starts (take k ts) list → ReachSame starts ts list
reach-all starts ts k list e same =
    subst (λ us. ReachSame starts us list) (subst (λ j. take j ts ≡ ts) (sym e) (take-length ts)) same

-- the first, one put together with the last, and one put behind it
pub goes-first : (starts : List ℕ) (old : List Touched) (touch : Touched) → GoesOn starts old None touch old touch
goes-first starts old touch =
    reach-like starts _ _ (ap (λ (xs : List Touched). xs ++ touch ∷ []) (append-nil old))

pub goes-joined :
    (starts : List ℕ) (old : List Touched) (last touch both : Touched)
    → ReachSame starts (last ∷ touch ∷ []) (both ∷ []) → GoesOn starts old (Some last) touch old both
goes-joined starts old last touch both joined =
    reach-then starts ((old ++ last ∷ []) ++ touch ∷ []) (old ++ last ∷ touch ∷ []) (old ++ both ∷ [])
    (reach-like starts _ _ (append_assoc old (last ∷ []) (touch ∷ [])))
    (reach-append starts old (last ∷ touch ∷ []) old (both ∷ []) (reach-like starts old old refl) joined)

pub goes-behind :
    (starts : List ℕ) (old : List Touched) (last touch : Touched) (new : List Touched) → new ≡ old ++ last ∷ []
    → GoesOn starts old (Some last) touch new touch
goes-behind starts old last touch new e = reach-like starts _ _ (ap (λ (xs : List Touched). xs ++ touch ∷ []) (sym e))

-- two touches of one access and one thing, whose cells are those of a third
pub joined-reach :
    (starts : List ℕ) (last next both : Touched) → next.access ≡ last.access → next.buffer ≡ last.buffer
    → both.access ≡ last.access → both.buffer ≡ last.buffer
    → ((c : ℕ) → has_cell starts both.range c ≡ (has_cell starts last.range c || has_cell starts next.range c))
    → ReachSame starts (last ∷ next ∷ []) (both ∷ [])
joined-reach starts last next both a b x y cells = λ test c.
    sym ((λ i. (test (x i) (y i) && cells c i) || false)
    ∙ (shared (test last.access last.buffer) (has_cell starts last.range c) (has_cell starts next.range c)
    ∙ (λ i. (test last.access last.buffer && has_cell starts last.range c) || ((test (sym a i) (sym b i) && has_cell starts next.range c) || false))))
  where
    shared : (t p q : Bool) → ((t && (p || q)) || false) ≡ ((t && p) || ((t && q) || false))
    shared true true q = refl
    shared true false q = refl
    shared false p q = refl

-- cells that are found, whatever the access and the thing
pub reach-cells :
    (starts : List ℕ) (one other : List Touched) (c : ℕ) → ReachSame starts one other
    → list_any (has_it starts c) one ≡ list_any (has_it starts c) other
reach-cells starts one other c same = same (λ x thing. true) c

-- touches that are listed are reached
pub reach-touched :
    (z : Status) (starts : List ℕ) (ts : List Touch) (list : List Touched) → AreTouched z ts list
    → AreReached z starts ts list
reach-touched z starts ts list are =
    record { same = reach-like starts (map (touched z) ts) list (sym are.are); fit = are.fit }
