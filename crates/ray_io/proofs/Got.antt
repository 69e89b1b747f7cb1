-- What a source has given while it is read to its end.
use Rattle.std.proofs.Common.{◌≡◌, ℕ, ◌+◌, ◌<◌, ◌≤◌, ◌↔◌, List, ◌++◌, length, take, drop, Option, Some, None, IfSome, ap, sym, ◌∙◌, arith, append_assoc, length-append, length-drop}
use Rattle.std.proofs.lemmas.List.{take-append-drop}
use Rattle.std.proofs.lemmas.Option.{same_Some}
use Rattle.std.proofs.Math.Seq.{drop-append_seam}
use Rattle.ray_io.specs.Source.{GivesFirst}
use Rattle.ray_io.specs.ReadAll.{LeavesAllBut}

-- what was given and what is left are all the bytes
pub record Splits (bytes : List ℕ) (now : Option (List ℕ)) (got : List ℕ) : Type 0 where
  pub rest : List ℕ
  pub left : now ≡ Some rest
  pub whole : bytes ≡ got ++ rest

-- the same, where the source tells
abbrev pub HasGiven : Option (List ℕ) → Option (List ℕ) → List ℕ → Type 0
HasGiven start now got = IfSome start (λ bytes. Splits bytes now got)

-- a read brings what it gave behind what was given before
Splits-more : (bytes : List ℕ) (now next : Option (List ℕ)) (got : List ℕ) (count : ℕ) (into : List ℕ) → Splits bytes now got → IfSome now (λ left. GivesFirst left next count into) → Splits bytes next (got ++ take count into)
Splits-more bytes now next got count into had one =
    let gave : GivesFirst had.rest next count into = rw had.left at one in record {
      rest = drop count had.rest;
      left = gave.others;
      whole = rw (gave.given, append_assoc, take-append-drop) had.whole;
    }

pub HasGiven-more : (start now next : Option (List ℕ)) (got : List ℕ) (count : ℕ) (into : List ℕ) → HasGiven start now got → IfSome now (λ left. GivesFirst left next count into) → HasGiven start next (got ++ take count into)
HasGiven-more None now next got count into had one = tt
HasGiven-more (Some bytes) now next got count into had one = Splits-more bytes now next got count into had one

-- wherever a source stands, having given no more than so many bytes, it has left all but those
pub HasGiven-leaves : (start now : Option (List ℕ)) (got : List ℕ) (most : ℕ) → length got ≤ most → HasGiven start now got → IfSome start (λ bytes. LeavesAllBut most bytes now)
HasGiven-leaves None now got most within had = tt
HasGiven-leaves (Some bytes) now got most within had =
    (length got, within, rw (had.whole, drop-append_seam) had.left)

Splits-too_long : (bytes : List ℕ) (now : Option (List ℕ)) (got : List ℕ) (limit : ℕ) → length got ≡ limit + 1 → Splits bytes now got → (limit < length bytes) × (now ≡ Some (drop (limit + 1) bytes))
Splits-too_long bytes now got limit one_more had =
    (rw had.whole (omega (arith, length-append got had.rest)), rw (← one_more, had.whole, drop-append_seam) had.left)

-- having given one byte more than the limit, a source had too many
pub HasGiven-too_long : {P : Type 0} (start now : Option (List ℕ)) (got : List ℕ) (limit : ℕ) → P → length got ≡ limit + 1 → HasGiven start now got → IfSome start (λ bytes. P ↔ ((limit < length bytes) × (now ≡ Some (drop (limit + 1) bytes))))
HasGiven-too_long None now got limit p one_more had = tt
HasGiven-too_long (Some bytes) now got limit p one_more had = (λ _. Splits-too_long bytes now got limit one_more had, λ _. p)

Splits-within : (bytes : List ℕ) (now : Option (List ℕ)) (got : List ℕ) (limit : ℕ) → length got ≤ limit → Splits bytes now got → limit < length bytes → now ≡ Some (drop (limit + 1) bytes) → ⊥
Splits-within bytes now got limit within had longer stands =
    let same : had.rest ≡ drop (limit + 1) bytes = same_Some _ _ (sym had.left ∙ stands) in
    omega (arith, ap length same, ap length had.whole, length-append got had.rest, length-drop (limit + 1) bytes)

-- having given no more than the limit, a source doesn't stand where one with too many is left
pub HasGiven-within : {P : Type 0} (start now : Option (List ℕ)) (got : List ℕ) (limit : ℕ) → ¬ P → length got ≤ limit → HasGiven start now got → IfSome start (λ bytes. P ↔ ((limit < length bytes) × (now ≡ Some (drop (limit + 1) bytes))))
HasGiven-within None now got limit not within had = tt
HasGiven-within (Some bytes) now got limit not within had =
    (λ p. absurd (not p), λ h. absurd (Splits-within bytes now got limit within had h.0 h.1))
