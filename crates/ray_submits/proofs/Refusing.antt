-- The two rules by what is kept.
use Rattle.std.proofs.Common.{◌≡◌, ◌∙◌, ℕ, List, Option, Some, None, refl, sym}
use Rattle.std.specs.Prelude.{not}
use Rattle.std.specs.List.{position}
use Rattle.std.specs.Option.{option_map}
use Rattle.ray_cmd.specs.declared.place.Place.{Place}
use Rattle.ray_cmd.specs.declared.place.Place.TheVariants.{Part}
use Rattle.ray_cmd.specs.declared.refusal.Refusal.{Refusal}
use Rattle.ray_rules.specs.Refusals.{or_later}
use Rattle.ray_submits.specs.declared.semaphores.Semaphores.{Semaphores}
use Rattle.ray_submits.specs.declared.submission.Submission.{Submission}
use Rattle.ray_submits.specs.Seen.{AreSeen, is_met_in}
use Rattle.ray_submits.specs.Semaphores.{Signal, first_odd, odd_of, signals_of, unmet_of}
use Rattle.ray_submits.proofs.Signals.{met-seen}

-- the refusal of a submission
pub refusal-is : (n : ℕ) (earlier : List Signal) (semaphores : Semaphores) (s : Submission) (unmet odd : Option Place)
    (second both : Option Refusal)
    → unmet ≡ option_map (λ x. Part x) (position (λ wait. not (is_met_in semaphores wait)) s.waits)
    → odd ≡ option_map (λ x. Part x) (first_odd earlier 0 (signals_of s))
    → second ≡ or_later n 34 odd None → both ≡ or_later n 33 unmet second → AreSeen earlier semaphores
    → both ≡ or_later n 33 (unmet_of earlier s) (or_later n 34 (odd_of earlier s) None)
unfolding unmet_of odd_of
refusal-is n earlier semaphores s unmet odd second both unmet_is odd_is second_is both_is are =
    both_is
    ∙ λ i. or_later n 33
    ((unmet_is
    ∙ λ j. option_map (λ x. Part x) (position (λ wait. not (sym (met-seen earlier semaphores wait are) j)) s.waits)) i)
    ((second_is ∙ λ j. or_later n 34 (odd_is j) None) i)

-- no rule is broken
none-later : (n number : ℕ) (place : Option Place) (later : Option Refusal) → or_later n number place later ≡ None → later ≡ None
none-later n number None later e = e
none-later n number (Some place) later e = absurd cc

none-place : (n number : ℕ) (place : Option Place) (later : Option Refusal) → or_later n number place later ≡ None → place ≡ None
none-place n number None later e = refl
none-place n number (Some place) later e = absurd cc

pub none-odd-is : (n : ℕ) (unmet odd : Option Place) (second both : Option Refusal)
    → second ≡ or_later n 34 odd None → both ≡ or_later n 33 unmet second → both ≡ None → odd ≡ None
none-odd-is n unmet odd second both second_is both_is none =
    none-place n 34 odd None (sym second_is ∙ none-later n 33 unmet second (sym both_is ∙ none))
