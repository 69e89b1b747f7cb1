-- The places of what the pieces of a wave give.
use Rattle.std.proofs.Common.{ℕ, zero, suc, ◌≡◌, ◌<◌, ◌+◌, ◌++◌, List, [], ◌∷◌, length, map, take, drop, set, get_or, Option, Some, None, refl, ap, sym, subst, arith}
use Rattle.std.specs.Prelude.{slice_get, IfOk, Ok, Err, Result, Vec}
use Rattle.std.specs.declared.alloc.AllocError.{AllocError}
use Rattle.std.specs.declared.alloc.Global.{Global}
use Rattle.ray_cmd.specs.declared.command.Command.{Command}
use Rattle.ray_action.specs.Clients.{Clients}
use Rattle.ray_action.specs.Memory.{Memory}
use Rattle.ray_device.specs.declared.piece.Piece.{Piece}
use Rattle.ray_exec.specs.declared.given.Given.{Given}
use Rattle.ray_exec.specs.declared.drawing.Drawn.{Drawn}
use Rattle.ray_exec.specs.Drawn.{IsDrawn}
use Rattle.ray_exec.specs.Given.{AreFilled, AreGiven, IsFilledBy, IsGivenBy}

-- a list without a length is empty
pub no_items : {X : Type 0} (xs : List X) (n : ℕ) → n ≡ 0 → n ≡ length xs → xs ≡ []
no_items [] n none many = refl
no_items (x ∷ xs) n none many = absurd (omega (arith, none, many))

module _ (rec : List Command) (clients : Clients) (m : Memory) where
  pub filled_length : (pieces : List Piece) (places : List (Option Given)) → AreFilled rec clients m pieces places → length places ≡ length pieces
  filled_length [] [] are = refl
  filled_length [] (place ∷ places) are = absurd are
  filled_length (piece ∷ pieces) [] are = absurd are
  filled_length (piece ∷ pieces) (place ∷ places) are = ap suc (filled_length pieces places are.1)

  -- at first nothing is in them
  pub filled_none : (pieces : List Piece) → AreFilled rec clients m pieces (map (λ piece. None) pieces)
  filled_none [] = tt
  filled_none (piece ∷ pieces) = (tt, filled_none pieces)

  pub filled_if : (pieces : List Piece) (made : Result (Vec (Option Given) Global) AllocError) → IfOk made (λ v. v.items ≡ map (λ piece. None) pieces)
      → IfOk made (λ v. AreFilled rec clients m pieces v.items)
  filled_if pieces (Ok v) are = subst (AreFilled rec clients m pieces) (sym are) (filled_none pieces)
  filled_if pieces (Err e) are = tt

  -- what was drawn is put in its place
  filled_set : (pieces : List Piece) (places : List (Option Given)) (k : ℕ) (given : Given) → AreFilled rec clients m pieces places
      → ((piece : Piece) → slice_get pieces k ≡ Some piece → IsGivenBy rec clients m piece given) → AreFilled rec clients m pieces (set places k (Some given))
  filled_set [] [] k given are is = tt
  filled_set [] (place ∷ places) k given are is = absurd are
  filled_set (piece ∷ pieces) [] k given are is = absurd are
  filled_set (piece ∷ pieces) (place ∷ places) zero given are is = (is piece refl, are.1)
  filled_set (piece ∷ pieces) (place ∷ places) (suc k) given are is = (are.0, filled_set pieces places k given are.1 is)

  pub filled_drawn : (pieces : List Piece) (places : List (Option Given)) (drawn : Drawn) → AreFilled rec clients m pieces places → IsDrawn rec clients m pieces drawn
      → AreFilled rec clients m pieces (set places drawn.number (Some drawn.given))
  filled_drawn pieces places drawn are is = filled_set pieces places drawn.number drawn.given are is.given

  -- the first place that is left is that of the piece of its number
  pub record IsNext (pieces : List Piece) (n : ℕ) (d : Piece) (place : Option Given) (places : List (Option Given)) : Type 0 where
    pub within : n < length pieces
    pub here : IsFilledBy rec clients m (get_or pieces n d) place
    pub later : AreFilled rec clients m (drop (n + 1) pieces) places

  later_next : (piece : Piece) (pieces : List Piece) (n : ℕ) (d : Piece) (place : Option Given) (places : List (Option Given)) → IsNext pieces n d place places
      → IsNext (piece ∷ pieces) (suc n) d place places
  later_next piece pieces n d place places is = let less : n < length pieces = is.within in record {
    within = omega (arith, less);
    here = is.here;
    later = subst (λ k. AreFilled rec clients m (drop k (piece ∷ pieces)) places) (let e : suc (n + 1) ≡ suc n + 1 = omega arith in e) is.later;
  }

  pub filled_next : (pieces : List Piece) (n : ℕ) (d : Piece) (place : Option Given) (places : List (Option Given)) → AreFilled rec clients m (drop n pieces) (place ∷ places)
      → IsNext pieces n d place places
  filled_next [] zero d place places are = absurd are
  filled_next [] (suc n) d place places are = absurd are
  filled_next (piece ∷ pieces) zero d place places are = record { within = omega arith; here = are.0; later = are.1 }
  filled_next (piece ∷ pieces) (suc n) d place places are = later_next piece pieces n d place places (filled_next pieces n d place places are)

  -- one more is given
  pub given_more : (pieces : List Piece) (outs : List Given) (n : ℕ) (d : Piece) (given : Given) → AreGiven rec clients m (take n pieces) outs → n < length pieces
      → IsGivenBy rec clients m (get_or pieces n d) given → AreGiven rec clients m (take (n + 1) pieces) (outs ++ given ∷ [])
  given_more [] outs n d given are less is = absurd (omega (arith, less))
  given_more (piece ∷ pieces) [] zero d given are less is = (is, tt)
  given_more (piece ∷ pieces) (out ∷ outs) zero d given are less is = absurd are
  given_more (piece ∷ pieces) [] (suc n) d given are less is = absurd are
  given_more (piece ∷ pieces) (out ∷ outs) (suc n) d given are less is =
      subst (λ k. AreGiven rec clients m (take k (piece ∷ pieces)) ((out ∷ outs) ++ given ∷ [])) (let e : suc (n + 1) ≡ suc n + 1 = omega arith in e)
      (are.0, given_more pieces outs n d given are.1 (omega (arith, less)) is)

  -- so much is given, and the places from there on are left
  pub record AreGivenTo (pieces : List Piece) (n : ℕ) (outs : List Given) (places : List (Option Given)) : Type 0 where
    pub given : AreGiven rec clients m (take n pieces) outs
    pub left : AreFilled rec clients m (drop n pieces) places

  pub next_is : (pieces : List Piece) (n : ℕ) (d : Piece) (outs : List Given) (all : List (Option Given)) (place : Option Given) (places : List (Option Given))
      → AreGivenTo pieces n outs all → all ≡ place ∷ places → IsNext pieces n d place places
  next_is pieces n d outs all place places to split = filled_next pieces n d place places (subst (AreFilled rec clients m (drop n pieces)) split to.left)

  pub given_to_next : (pieces : List Piece) (n k more : ℕ) (d : Piece) (outs new : List Given) (all : List (Option Given)) (place : Option Given) (places : List (Option Given)) (given : Given)
      → AreGivenTo pieces n outs all → all ≡ place ∷ places → k ≡ n → IsGivenBy rec clients m (get_or pieces k d) given → more ≡ n + 1 → new ≡ outs ++ given ∷ []
      → AreGivenTo pieces more new places
  given_to_next pieces n k more d outs new all place places given to split at is one same =
      let next = next_is pieces n d outs all place places to split in
      subst (λ j. AreGivenTo pieces j new places) (sym one)
      (subst (λ gs. AreGivenTo pieces (n + 1) gs places) (sym same)
      (record {
        given = given_more pieces outs n d given to.given next.within (subst (λ j. IsGivenBy rec clients m (get_or pieces j d) given) at is);
        left = next.later;
      }))

  -- all are given
  all_given : (pieces : List Piece) (outs : List Given) (n : ℕ) → AreGiven rec clients m (take n pieces) outs → AreFilled rec clients m (drop n pieces) [] → AreGiven rec clients m pieces outs
  all_given [] outs zero are none = are
  all_given [] outs (suc n) are none = are
  all_given (piece ∷ pieces) outs zero are none = absurd none
  all_given (piece ∷ pieces) [] (suc n) are none = absurd are
  all_given (piece ∷ pieces) (out ∷ outs) (suc n) are none = (are.0, all_given pieces outs n are.1 none)

  pub given_to_all : (pieces : List Piece) (n k : ℕ) (outs : List Given) (places : List (Option Given)) → AreGivenTo pieces n outs places → k ≡ 0 → k ≡ length places
      → AreGiven rec clients m pieces outs
  given_to_all pieces n k outs places to none many =
      all_given pieces outs n to.given (subst (AreFilled rec clients m (drop n pieces)) (no_items places k none many) to.left)
