-- One word of the table changes, and so one of the three functions of a node's words.
use Rattle.std.proofs.Common.{◌≡◌, ℕ, zero, suc, ◌+◌, ◌*◌, ◌<◌, ◌≤◌, ◌⊎◌, inl, inr, max, Bool, true, false, not, eqb, List, length, get_or, set, bit_or, refl, sym, ap, ◌∙◌, subst, arith, get_or-set_same}
use Rattle.std.proofs.lemmas.List.{get_or-set_other}
use mathlib.Core.Logic.{dite}
use native.Mathlib.Decide.{ℕ_discrete}
use Rattle.ray_climb.specs.declared.rule.View.{View}
use Rattle.ray_climb.specs.Frames.{Frame}
use Rattle.ray_climb.specs.Rule.{has, words_of, arrivals_in, lows_in, highs_in, IsClimb}
use Rattle.ray_climb.specs.Steps.{bit}
use Rattle.ray_climb.proofs.Passed.{IsTruer}
use Rattle.ray_climb.proofs.Arrives.{IsRaised}

-- a word is in the table
pub low_in : (nodes p : ℕ) → p < nodes → 3 * p + 1 < words_of nodes
low_in nodes p lt = let m : 3 * nodes ≤ max (3 * nodes) 1 = omega arith in omega arith

pub high_in : (nodes p : ℕ) → p < nodes → 3 * p + 2 < words_of nodes
high_in nodes p lt = let m : 3 * nodes ≤ max (3 * nodes) 1 = omega arith in omega arith

pub arrivals_of : (nodes p : ℕ) → p < nodes → 3 * p < words_of nodes
arrivals_of nodes p lt = let m : 3 * nodes ≤ max (3 * nodes) 1 = omega arith in omega arith

module _ (t : Frame) (ws : List ℕ) (p x : ℕ) (views : List View) where
  abbrev of_words : (ℕ → ℕ) × ((ℕ → ℕ) × (ℕ → ℕ)) → Type 0
  of_words f = IsClimb t f.0 f.1.0 f.1.1 views

  same_arrivals : (d : ℕ) → (d ≡ 1) ⊎ (d ≡ 2) → (i : ℕ) → get_or ws (3 * i) 0 ≡ get_or (set ws (3 * p + d) x) (3 * i) 0
  same_arrivals d which i = sym (get_or-set_other ws (3 * p + d) (3 * i) x 0 (λ e. elim which [ inl a ↦ omega arith | inr b ↦ omega arith ]))

  -- a low half is stored
  pub lows_only : IsClimb t (arrivals_in ws) (lows_in (set ws (3 * p + 1) x)) (highs_in ws) views
      → IsClimb t (arrivals_in (set ws (3 * p + 1) x)) (lows_in (set ws (3 * p + 1) x)) (highs_in (set ws (3 * p + 1) x)) views
  lows_only r = subst of_words
      (λ k. (
        (λ i. same_arrivals 1 (inl refl) i k),
        (
          (λ i. lows_in (set ws (3 * p + 1) x) i),
          (λ i. sym (get_or-set_other ws (3 * p + 1) (3 * i + 2) x 0 (λ e. omega arith)) k),
        ),
      ))
      r

  -- a high half is
  pub highs_only : IsClimb t (arrivals_in ws) (lows_in ws) (highs_in (set ws (3 * p + 2) x)) views
      → IsClimb t (arrivals_in (set ws (3 * p + 2) x)) (lows_in (set ws (3 * p + 2) x)) (highs_in (set ws (3 * p + 2) x)) views
  highs_only r = subst of_words
      (λ k. (
        (λ i. same_arrivals 2 (inr refl) i k),
        (
          (λ i. sym (get_or-set_other ws (3 * p + 2) (3 * i + 1) x 0 (λ e. omega arith)) k),
          (λ i. highs_in (set ws (3 * p + 2) x) i),
        ),
      ))
      r

  -- a bit is set
  pub arrivals_only : IsClimb t (arrivals_in (set ws (3 * p) x)) (lows_in ws) (highs_in ws) views
      → IsClimb t (arrivals_in (set ws (3 * p) x)) (lows_in (set ws (3 * p) x)) (highs_in (set ws (3 * p) x)) views
  arrivals_only r = subst of_words
      (λ k. (
        (λ i. arrivals_in (set ws (3 * p) x) i),
        (
          (λ i. sym (get_or-set_other ws (3 * p) (3 * i + 1) x 0 (λ e. omega arith)) k),
          (λ i. sym (get_or-set_other ws (3 * p) (3 * i + 2) x 0 (λ e. omega arith)) k),
        ),
      ))
      r

-- a stored true half makes the words truer
pub lows_truer : (truth : ℕ → ℕ) (ws : List ℕ) (p x : ℕ) → 3 * p + 1 < length ws → x ≡ truth p → IsTruer truth (lows_in ws) (lows_in (set ws (3 * p + 1) x))
lows_truer truth ws p x small is = record {
  each = λ i. dite (ℕ_discrete i p)
      (λ e. inr (ap (λ j. get_or (set ws (3 * p + 1) x) (3 * j + 1) 0) e ∙ get_or-set_same ws (3 * p + 1) x 0 small ∙ is ∙ ap truth (sym e)))
      (λ ne. inl (get_or-set_other ws (3 * p + 1) (3 * i + 1) x 0 (λ e. ne (omega arith))));
}

pub highs_truer : (truth : ℕ → ℕ) (ws : List ℕ) (p x : ℕ) → 3 * p + 2 < length ws → x ≡ truth p → IsTruer truth (highs_in ws) (highs_in (set ws (3 * p + 2) x))
highs_truer truth ws p x small is = record {
  each = λ i. dite (ℕ_discrete i p)
      (λ e. inr (ap (λ j. get_or (set ws (3 * p + 2) x) (3 * j + 2) 0) e ∙ get_or-set_same ws (3 * p + 2) x 0 small ∙ is ∙ ap truth (sym e)))
      (λ ne. inl (get_or-set_other ws (3 * p + 2) (3 * i + 2) x 0 (λ e. ne (omega arith))));
}

-- two bits, one more of them set
or_small : (a : ℕ) (s : Bool) → a < 4 → bit_or a (bit s) < 4
or_small zero true h = omega arith
or_small zero false h = omega arith
or_small (suc zero) true h = omega arith
or_small (suc zero) false h = omega arith
or_small (suc (suc zero)) true h = omega arith
or_small (suc (suc zero)) false h = omega arith
or_small (suc (suc (suc zero))) true h = omega arith
or_small (suc (suc (suc zero))) false h = omega arith
or_small (suc (suc (suc (suc a)))) s h = absurd (omega arith)

or_here : (a : ℕ) (s : Bool) → a < 4 → has (bit_or a (bit s)) s ≡ true
or_here zero true h = refl
or_here zero false h = refl
or_here (suc zero) true h = refl
or_here (suc zero) false h = refl
or_here (suc (suc zero)) true h = refl
or_here (suc (suc zero)) false h = refl
or_here (suc (suc (suc zero))) true h = refl
or_here (suc (suc (suc zero))) false h = refl
or_here (suc (suc (suc (suc a)))) s h = absurd (omega arith)

or_other : (a : ℕ) (s : Bool) → a < 4 → has (bit_or a (bit s)) (not s) ≡ has a (not s)
or_other zero true h = refl
or_other zero false h = refl
or_other (suc zero) true h = refl
or_other (suc zero) false h = refl
or_other (suc (suc zero)) true h = refl
or_other (suc (suc zero)) false h = refl
or_other (suc (suc (suc zero))) true h = refl
or_other (suc (suc (suc zero))) false h = refl
or_other (suc (suc (suc (suc a)))) s h = absurd (omega arith)

pub arrivals_raised : (ws : List ℕ) (p : ℕ) (s : Bool) → 3 * p < length ws → arrivals_in ws p < 4
    → IsRaised (arrivals_in ws) (arrivals_in (set ws (3 * p) (bit_or (arrivals_in ws p) (bit s)))) p s
arrivals_raised ws p s small few =
    let x : ℕ = bit_or (arrivals_in ws p) (bit s) in
    let is : arrivals_in (set ws (3 * p) x) p ≡ x = get_or-set_same ws (3 * p) x 0 small in
    record {
      small = subst (λ y. y < 4) (sym is) (or_small (arrivals_in ws p) s few);
      here = subst (λ y. has y s ≡ true) (sym is) (or_here (arrivals_in ws p) s few);
      other = subst (λ y. has y (not s) ≡ has (arrivals_in ws p) (not s)) (sym is) (or_other (arrivals_in ws p) s few);
      same = λ j ne. get_or-set_other ws (3 * p) (3 * j) x 0 (λ e. ne (omega arith));
    }

pub bit_first : (s : Bool) → eqb (bit s) 1 ≡ not s
bit_first true = refl
bit_first false = refl
