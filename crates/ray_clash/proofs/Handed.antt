-- How far a command has been handed on, command by command.
use Rattle.std.proofs.Common.{◌≡◌, ◌<◌, ◌+◌, ℕ, suc, Bool, true, false, List, Some, slice_get, refl, sym, ap, subst, ◌∙◌, arith, if◌then◌else◌}
use Rattle.std.specs.Prelude.{nat_lt}
use Rattle.std.specs.Option.{option_map_or}
use Rattle.std.proofs.lemmas.Bool.Decides.{nat_tests}
use Rattle.ray_cmd.specs.declared.command.Command.{Command}
use Rattle.ray_rules.specs.declared.stage.Stage.{Stage}
use Rattle.ray_rules.specs.Order.{Handed, acts_on, handed_after_if, not_handed}
use Rattle.ray_rules.specs.Status.{Status, status_at}
use Rattle.ray_clash.specs.declared.handing.Asking.{Asking}
use Rattle.ray_clash.specs.declared.handing.Deed.{Deed}
use Rattle.ray_clash.specs.declared.handing.Deed.TheVariants as deeds
use Rattle.ray_clash.specs.declared.handing.Passed.{Passed}
use Rattle.ray_clash.specs.Handing.{IsPassed, acts_at_deed, acts_on_deed, deed_after, deed_at, takes_deed}

-- how far command number i has been handed on where command number n stands, and the status there
pub record IsGoing (rec : List Command) (i : ℕ) (asking : Asking) (n : ℕ) (z : Status) (p : Passed) : Type 0 where
  pub status : z ≡ status_at rec n
  pub passed : IsPassed asking.to asking.access (deed_at rec i asking.stage asking.deed n) p

-- right behind the command it isn't handed on
first : (rec : List Command) (i : ℕ) (stage : Stage) (deed : Deed) → deed_at rec i stage deed (suc i) ≡ not_handed
first rec i stage deed = shut (nat_lt i i) _ not_handed (grind (arith, nat_tests))
  where
    shut : (b : Bool) (h n : Handed) → b ≡ false → (if b then h else n) ≡ n
    shut true h n is = absurd (cc)
    shut false h n is = refl

pub going_first :
    (rec : List Command) (i n : ℕ) (asking : Asking) (z : Status) (p : Passed) → n ≡ suc i → z ≡ status_at rec n
    → IsPassed asking.to asking.access not_handed p → IsGoing rec i asking n z p
going_first rec i n asking z p here status none = record {
  status = status;
  passed =
      subst (λ m. IsPassed asking.to asking.access (deed_at rec i asking.stage asking.deed m) p) (sym here)
      (subst (λ h. IsPassed asking.to asking.access h p) (sym (first rec i asking.stage asking.deed)) none);
}

-- whether a command acts, by what stands where it does
acts_there :
    (rec : List Command) (deed : Deed) (n : ℕ) (c : Command) → slice_get rec n ≡ Some c
    → acts_at_deed rec deed n ≡ acts_on_deed deed (status_at rec n) c
acts_there rec deeds.Any n c there = refl
acts_there rec (deeds.Write access thing) n c there = ap (λ o. option_map_or (acts_on thing (status_at rec n)) o true) there

-- one command more
next :
    (rec : List Command) (i : ℕ) (stage : Stage) (deed : Deed) (n : ℕ) (c : Command) → i < n → slice_get rec n ≡ Some c
    → deed_at rec i stage deed (suc n) ≡ deed_after stage deed (status_at rec n) c (deed_at rec i stage deed n)
next rec i stage deed n c less there =
    open_ (nat_lt i n) _ not_handed (grind (arith, nat_tests))
    ∙ (ap (λ b. if b then handed_after_if (takes_deed stage deed) (slice_get rec n) h else h) (acts_there rec deed n c there)
    ∙ ap (λ o. if acts_on_deed deed (status_at rec n) c then handed_after_if (takes_deed stage deed) o h else h) there)
  where
    h : Handed
    h = deed_at rec i stage deed n

    open_ : (b : Bool) (g m : Handed) → b ≡ true → (if b then g else m) ≡ g
    open_ true g m is = refl
    open_ false g m is = absurd (cc)

pub going_next :
    (rec : List Command) (i n : ℕ) (asking : Asking) (z y : Status) (p q : Passed) (c : Command) → i < n
    → slice_get rec n ≡ Some c → IsGoing rec i asking n z p → y ≡ status_at rec (n + 1)
    → ((h : Handed) → IsPassed asking.to asking.access h p
    → IsPassed asking.to asking.access (deed_after asking.stage asking.deed z c h) q)
    → IsGoing rec i asking (n + 1) y q
going_next rec i n asking z y p q c less there so_far status then_ =
    let more : suc n ≡ n + 1 = omega arith in
    record {
      status = status;
      passed =
          subst (λ m. IsPassed asking.to asking.access (deed_at rec i asking.stage asking.deed m) q) more
          (subst (λ h. IsPassed asking.to asking.access h q) (sym (next rec i asking.stage asking.deed n c less there))
          (subst (λ w. IsPassed asking.to asking.access (deed_after asking.stage asking.deed w c (deed_at rec i asking.stage asking.deed n)) q)
          so_far.status (then_ (deed_at rec i asking.stage asking.deed n) so_far.passed)));
    }
