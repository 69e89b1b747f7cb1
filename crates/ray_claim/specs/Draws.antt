-- What a draw does, of a seat that isn't ended, and what closing tells. (Own.)
use Rattle.std.specs.Prelude.{◌≡◌, ℕ, min, nat_lt, if◌then◌else◌, List, Option, Some, None}
use mathlib.Core.Option.{some}
use lib.ListN.{get_elem?}
use Rattle.ray_claim.specs.declared.rule.View.{View}
use Rattle.ray_claim.specs.Rule.{IsClaimed}
use Rattle.ray_claim.specs.Seats.{SeatView, view_of}
use Rattle.ray_claim.specs.Steps.{IsFound}

-- a draw takes one atomic step of the word, which changes the seat's view from the old one to the
-- new one; the answer is the word that it found where that is below n, and none where it is not
pub record IsStep (n : ℕ) (old : SeatView) (answer : Option ℕ) (new : SeatView) : Type 0 where
  pub word : ℕ
  pub found : IsFound n (view_of old) word (view_of new)
  pub answered : answer ≡ (if nat_lt word n then Some word else None)

-- closing tells how many numbers below n were drawn: the claim rule held of the word and of the views of all seats, this
-- seat's among them, and the answer is the lesser of the word and n
pub record IsCounted (n : ℕ) (seat : SeatView) (answer : ℕ) : Type 0 where
  pub word : ℕ
  pub views : List View
  pub id : ℕ
  pub known : get_elem? views id ≡ some (view_of seat)
  pub ruled : IsClaimed n word views
  pub answered : answer ≡ min word n
