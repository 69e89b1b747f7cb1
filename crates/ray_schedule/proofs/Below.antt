-- The laws for the commands below a number, and faults.
use Rattle.std.proofs.Common.{◌≡◌, ◌<◌, ◌≤◌, ℕ, Bool, List, sym, ◌∙◌, ap, arith}
use Rattle.ray_schedule.specs.Units.{Work}
use Rattle.ray_schedule.specs.Events.{Event, unit_of}
use Rattle.ray_schedule.specs.Schedules.{IsPermitted}
use Rattle.ray_schedule.specs.Conflicts.{AreOrdered, IsLocal}
use Rattle.ray_schedule.specs.Faults.{IsFirstFault, is_kept_fault, is_found_faulty}
use Rattle.ray_schedule.specs.Laws.{PartsArePermitted, FirstFaultBelow, FirstFaultIsSame, after, is_at_fault}
use Rattle.ray_schedule.proofs.Permitted.{unit_below, outcomes_same}

-- the same of another test that answers alike below n
first_fault_alike :
    (faulty other : ℕ → Bool) (n b : ℕ) → ((p : ℕ) → p < n → faulty p ≡ other p)
    → IsFirstFault faulty n b → IsFirstFault other n b
first_fault_alike faulty other n b alike first =
    let within : b ≤ n = first.within in
    record {
      within = first.within;
      none_below = λ q l. sym (alike q (omega arith)) ∙ first.none_below q l;
      here = λ l. sym (alike b l) ∙ first.here l;
    }

module _ {Location : Type 0} {Held : Location → Type 0} {Outcome : Type 0} (work : Work Held Outcome) where
  pub first_fault_below : FirstFaultBelow work
  first_fault_below m b upto first = (
    λ l. record { within = omega arith; none_below = first.none_below; here = λ k. first.here (omega arith) },
    λ g. record {
      within = omega arith;
      none_below = λ q l. first.none_below q (omega arith);
      here = λ l. absurd (omega arith);
    },
  )

  pub ordered_below :
      (m : ℕ) → m ≤ work.count → AreOrdered work.device work.before work.count
      → AreOrdered work.device work.before m
  ordered_below m upto ordered p q l less below conflict = ordered p q l less (omega arith) conflict

  -- an order that agrees with another on the commands of m units permits what that permits
  permitted_alike :
      (part whole : ℕ → ℕ → Bool) (until m : ℕ)
      → ((a b : ℕ) → a < until → b < until → whole a b ≡ part a b)
      → ((p : ℕ) → p < m → work.device.command p < until)
      → (es : List Event) → IsPermitted work.device part m es → IsPermitted work.device whole m es
  permitted_alike part whole until m alike below es permitted = record {
    schedule = permitted.schedule;
    fetched_first = permitted.fetched_first;
    ordered = λ e f h i j at to.
        permitted.ordered e f
        (sym (alike (work.device.command (unit_of e)) (work.device.command (unit_of f))
        (below (unit_of e) (unit_below work.device m e (permitted.schedule.only i e at)))
        (below (unit_of f) (unit_below work.device m f (permitted.schedule.only j f to))))
        ∙ h)
        i j at to;
  }

  pub parts_are_permitted : PartsArePermitted work
  parts_are_permitted part until m alike below es = (
    permitted_alike part work.before until m (λ a b l k. sym (alike a b l k)) below es,
    permitted_alike work.before part until m alike below es,
  )

  pub first_fault_same :
      IsLocal work.device → AreOrdered work.device work.before work.count → FirstFaultIsSame work
  first_fault_same local ordered es permitted b =
      let alike : (p : ℕ) → p < work.count → is_found_faulty work.device (after work es) p ≡ is_at_fault work p =
      λ p l. ap (is_kept_fault work.device)
      (outcomes_same work.device work.start work.before work.count es local ordered permitted p l) in (
        first_fault_alike (is_found_faulty work.device (after work es)) (is_at_fault work) work.count b alike,
        first_fault_alike (is_at_fault work) (is_found_faulty work.device (after work es)) work.count b
            (λ p l. sym (alike p l)),
      )
