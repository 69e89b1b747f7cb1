-- What the check of hazards finds is what the rules say.
use Rattle.std.proofs.Common.{◌≡◌, ◌<◌, ◌⊎◌, ◌||◌, ℕ, zero, suc, Bool, true, false, List, [], ◌∷◌, All, Option, Some, None, map, refl, sym, ◌∙◌, ap, subst, inl, inr, arith, nat_lt}
use Rattle.std.specs.Prelude.{option_map}
use Rattle.std.specs.List.{list_any}
use Rattle.std.specs.Option.{option_map_or}
use Rattle.std.proofs.lemmas.Bool.{cases_Bool, ltb-true}
use Rattle.std.proofs.lemmas.Bool.Decides.{nat_tests}
use Rattle.ray_access.specs.declared.touched.Touched.{Touched}
use Rattle.ray_access.specs.Axis.{SharingIsMeeting, touched}
use Rattle.ray_access.specs.Lists.{AreTouched}
use Rattle.ray_cmd.specs.declared.command.Command.{Command}
use Rattle.ray_cmd.specs.declared.place.Place.{Place}
use Rattle.ray_cmd.specs.declared.place.Place.TheVariants.{Earlier}
use Rattle.ray_cmd.specs.declared.refusal.Refusal.{Refusal}
use Rattle.ray_rules.specs.declared.stage.Stage.{Stage}
use Rattle.ray_rules.specs.declared.stage.Stage.TheVariants.{Host}
use Rattle.ray_rules.specs.declared.touch.Touch.{Touch}
use Rattle.ray_rules.specs.Hazards.{accesses_at, greatest_with, read_unordered, stage_at, status_at, v25, v26, v27, v32, wrote_uncovered}
use Rattle.ray_rules.specs.Order.{Ordering}
use Rattle.ray_rules.specs.Refusals.{or_after, or_later}
use Rattle.ray_rules.specs.Verdict.{first_hazard, hazard_of}
use Rattle.ray_hazards.specs.Counting.{Counted, read_in, wrote_in}
use Rattle.ray_hazards.specs.Lanes.{MeetsUncovered, MeetsUnordered}
use Rattle.ray_hazards.specs.Lasts.{AnyOf, ArePlaced, HaveStarts, IsLast, host_reads_at, last_number}
use Rattle.ray_hazards.proofs.Lasts.{last-greatest}
use Rattle.ray_hazards.specs.Reaching.{AreReached}
use Rattle.ray_hazards.proofs.Local.{IsLocal, last-reached, local-uncovered}
use Rattle.ray_hazards.proofs.Odds.{IsPlaced, each-placed, uncovered-from, uncovered-to, unordered-from, unordered-to}

-- of the touches of a list and their images
of-to :
    (f : Touch → Touched) (P : Touched → Type 0) (odd : Touch → Bool) (R : Touch → Type 0) (ts : List Touch) → All R ts
    → ((t : Touch) → R t → P (f t) → odd t ≡ true) → AnyOf P (map f ts) → list_any odd ts ≡ true
of-to f P odd R [] each step any = absurd any
of-to f P odd R (t ∷ ts) each step (inl p) = left-true (odd t) (list_any odd ts) (step t (each 0 t (omega arith)) p)
  where
    left-true : (a b : Bool) → a ≡ true → (a || b) ≡ true
    left-true true b e = refl
    left-true false b e = absurd cc
of-to f P odd R (t ∷ ts) each step (inr q) =
    right-true (odd t) (list_any odd ts) (of-to f P odd R ts (λ k d below. each (suc k) d (omega (arith, below))) step q)
  where
    right-true : (a b : Bool) → b ≡ true → (a || b) ≡ true
    right-true true b e = refl
    right-true false b e = e

of-from :
    (f : Touch → Touched) (P : Touched → Type 0) (odd : Touch → Bool) (R : Touch → Type 0) (ts : List Touch) → All R ts
    → ((t : Touch) → R t → odd t ≡ true → P (f t)) → list_any odd ts ≡ true → AnyOf P (map f ts)
of-from f P odd R [] each step found = absurd cc
of-from f P odd R (t ∷ ts) each step found =
    choose (odd t) (list_any odd ts) found (step t (each 0 t (omega arith)))
    (of-from f P odd R ts (λ k d below. each (suc k) d (omega (arith, below))) step)
  where
    choose : {A B : Type 0} (a b : Bool) → (a || b) ≡ true → (a ≡ true → A) → (b ≡ true → B) → A ⊎ B
    choose true b e g h = inl (g refl)
    choose false b e g h = inr (h e)

-- the last command of which something is so with some touches is the greatest that a test finds
pub odds-last :
    (rec : List Command) (starts : List ℕ) (n : ℕ) (ts : List Touch) (touches : List Touched) (P : Touched → ℕ → Type 0)
    (odd : Touch → ℕ → Bool) (r : ℕ) → AreTouched (status_at rec n) ts touches → ArePlaced rec starts n ts
    → ((t : Touch) (i : ℕ) → i < n → IsPlaced (status_at rec n) starts t → P (touched (status_at rec n) t) i → odd t i ≡ true)
    → ((t : Touch) (i : ℕ) → i < n → IsPlaced (status_at rec n) starts t → odd t i ≡ true → P (touched (status_at rec n) t) i)
    → IsLast (λ i. AnyOf (λ t. P t i) touches) n r
    → option_map Earlier (last_number r) ≡ greatest_with odd ts n
odds-last rec starts n ts touches P odd r are placed to from last =
    ap (option_map Earlier) (sym (last-greatest (λ i. AnyOf (λ t. P t i) touches) (λ i. list_any (λ t. odd t i) ts) n r
    (λ i l any.
    of-to (touched (status_at rec n)) (λ t. P t i) (λ t. odd t i) (IsPlaced (status_at rec n) starts) ts
    (each-placed rec starts n ts placed) (λ t one p. to t i l one p)
    (subst (λ us. AnyOf (λ t. P t i) us) are.are any))
    (λ i l found.
    subst (λ us. AnyOf (λ t. P t i) us) (sym are.are)
    (of-from (touched (status_at rec n)) (λ t. P t i) (λ t. odd t i) (IsPlaced (status_at rec n) starts) ts
    (each-placed rec starts n ts placed) (λ t one e. from t i l one e) found))
    last))

-- the same where a list reaches what the touches do, and it is so because of cells
pub odds-reached :
    (rec : List Command) (starts : List ℕ) (n : ℕ) (ts : List Touch) (touches : List Touched) (P : Touched → ℕ → Type 0)
    (odd : Touch → ℕ → Bool) (r : ℕ) → AreReached (status_at rec n) starts ts touches → ArePlaced rec starts n ts
    → ((i : ℕ) → IsLocal starts (λ t. P t i))
    → ((t : Touch) (i : ℕ) → i < n → IsPlaced (status_at rec n) starts t → P (touched (status_at rec n) t) i → odd t i ≡ true)
    → ((t : Touch) (i : ℕ) → i < n → IsPlaced (status_at rec n) starts t → odd t i ≡ true → P (touched (status_at rec n) t) i)
    → IsLast (λ i. AnyOf (λ t. P t i) touches) n r
    → option_map Earlier (last_number r) ≡ greatest_with odd ts n
odds-reached rec starts n ts touches P odd r are placed local to from last =
    let listed = map (touched (status_at rec n)) ts in
    odds-last rec starts n ts listed P odd r (record { are = refl; fit = are.fit }) placed to from
    (last-reached starts P listed touches n r local are.same last)

-- the last command that counts and wrote what touches reach, not covered
pub uncovered-last :
    (law : SharingIsMeeting) (counted : Counted) (starts : List ℕ) (n : ℕ) (to : Stage) (ts : List Touch)
    (touches : List Touched) (r : ℕ) → AreReached (status_at counted.commands n) starts ts touches
    → ArePlaced counted.commands starts n ts → HaveStarts counted.commands starts n
    → IsLast (λ i. AnyOf (λ t. MeetsUncovered counted starts n to t i) touches) n r
    → option_map Earlier (last_number r) ≡ greatest_with (wrote_in counted n to) ts n
uncovered-last law counted starts n to ts touches r are placed have last =
    odds-reached counted.commands starts n ts touches (MeetsUncovered counted starts n to) (wrote_in counted n to) r are placed
    (local-uncovered counted starts n to)
    (λ t i l one p. uncovered-to law counted starts n i to t one (have.writes i l) p)
    (λ t i l one e. uncovered-from law counted starts n i to t one (have.writes i l) e) last

-- and that read it, not ordered
pub unordered-last :
    (law : SharingIsMeeting) (counted : Counted) (starts : List ℕ) (n : ℕ) (to : Stage) (ts : List Touch)
    (touches : List Touched) (r : ℕ) → AreTouched (status_at counted.commands n) ts touches
    → ArePlaced counted.commands starts n ts → HaveStarts counted.commands starts n
    → IsLast (λ i. AnyOf (λ t. MeetsUnordered counted starts n to t i) touches) n r
    → option_map Earlier (last_number r) ≡ greatest_with (read_in counted n to) ts n
unordered-last law counted starts n to ts touches r are placed have last =
    odds-last counted.commands starts n ts touches (MeetsUnordered counted starts n to) (read_in counted n to) r are placed
    (λ t i l one p. unordered-to law counted starts n i to t one (have.reads i l) p)
    (λ t i l one e. unordered-from law counted starts n i to t one (have.reads i l) e) last

-- the rules, told by the stage
pub v25-is :
    (order : Ordering) (rec : List Command) (n : ℕ) (stage : Option Stage) (r : Option Place) → stage ≡ stage_at rec n
    → r ≡ option_map_or (λ to. greatest_with (wrote_uncovered order rec n to) (accesses_at rec n).reads n) stage None → r ≡ v25 order rec n
unfolding v25
v25-is order rec n stage r at e =
    e ∙ ap (λ o. option_map_or (λ to. greatest_with (wrote_uncovered order rec n to) (accesses_at rec n).reads n) o None) at

pub v26-is :
    (order : Ordering) (rec : List Command) (n : ℕ) (stage : Option Stage) (r : Option Place) → stage ≡ stage_at rec n
    → r ≡ option_map_or (λ to. greatest_with (wrote_uncovered order rec n to) (accesses_at rec n).writes n) stage None → r ≡ v26 order rec n
unfolding v26
v26-is order rec n stage r at e =
    e ∙ ap (λ o. option_map_or (λ to. greatest_with (wrote_uncovered order rec n to) (accesses_at rec n).writes n) o None) at

pub v27-is :
    (order : Ordering) (rec : List Command) (n : ℕ) (stage : Option Stage) (r : Option Place) → stage ≡ stage_at rec n
    → r ≡ option_map_or (λ to. greatest_with (read_unordered order rec n to) (accesses_at rec n).writes n) stage None → r ≡ v27 order rec n
unfolding v27
v27-is order rec n stage r at e =
    e ∙ ap (λ o. option_map_or (λ to. greatest_with (read_unordered order rec n to) (accesses_at rec n).writes n) o None) at

pub v32-is :
    (order : Ordering) (rec : List Command) (n : ℕ) (r : Option Place) → r ≡ greatest_with (wrote_uncovered order rec n Host) (host_reads_at rec n) n
    → r ≡ v32 order rec n
unfolding v32
v32-is order rec n r e = e

-- the least that is broken
pub hazard-is :
    (order : Ordering) (rec : List Command) (n : ℕ) (a b c d : Option Place) → a ≡ v25 order rec n → b ≡ v26 order rec n → c ≡ v27 order rec n → d ≡ v32 order rec n
    → or_later n 25 a (or_later n 26 b (or_later n 27 c (or_later n 32 d None))) ≡ hazard_of order rec n
unfolding hazard_of
hazard-is order rec n a b c d ea eb ec ed = λ i. or_later n 25 (ea i) (or_later n 26 (eb i) (or_later n 27 (ec i) (or_later n 32 (ed i) None)))

-- the first, once a command has one
pub first-found :
    (order : Ordering) (rec : List Command) (n until : ℕ) (r : Refusal) → first_hazard order rec n ≡ None → hazard_of order rec n ≡ Some r → n < until
    → first_hazard order rec until ≡ Some r
first-found order rec n zero r none found below = absurd (omega (arith, below))
first-found order rec n (suc until) r none found below =
    elim (cases_Bool (nat_lt n until)) [
      | inl t ↦
          ap (λ o. or_after o (hazard_of order rec until)) (first-found order rec n until r none found (ltb-true n until t))
      | inr f ↦
          let same : n ≡ until = grind (arith, nat_tests) in
          subst (λ k. or_after (first_hazard order rec k) (hazard_of order rec k) ≡ Some r) same
          (ap (λ o. or_after o (hazard_of order rec n)) none ∙ found)
    ]

-- none so far, and none by one more
pub first-none :
    (order : Ordering) (rec : List Command) (n : ℕ) → first_hazard order rec n ≡ None → hazard_of order rec n ≡ None → first_hazard order rec (suc n) ≡ None
first-none order rec n none more = ap (λ o. or_after o (hazard_of order rec n)) none ∙ more
