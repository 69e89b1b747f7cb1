-- From the refusals of the commands to that of the recording.
use Rattle.std.proofs.Common.{◌≡◌, ◌<◌, ◌≤◌, ℕ, suc, ◌+◌, List, [], ◌∷◌, length, slice_get, Option, Some, None, Bool, true, false, ◌&&◌, not, nat_lt, refl, sym, ◌∙◌, ap, subst, inl, inr, arith}
use Rattle.std.specs.Prelude.{option_map}
use Rattle.std.proofs.lemmas.Bool.{cases_Bool, cases_lt, cond-true, cond-false, lt-ltb, le-ltb}
use Rattle.std.proofs.lemmas.Option.{none-some, same_Some}
use Rattle.ray_cmd.specs.declared.command.Command.{Command}
use Rattle.ray_cmd.specs.declared.place.Place.{Place}
use Rattle.ray_cmd.specs.declared.refusal.Refusal.{Refusal}
use Rattle.ray_rules.specs.Hazards.{after_if, status_at}
use Rattle.ray_rules.specs.Phases.{v28_at_end}
use Rattle.ray_rules.specs.Order.{barriers}
use Rattle.ray_rules.specs.Refusals.{refusal_at_end, refused, or_after, static_refusal_from, static_refusal_of}
use Rattle.ray_rules.specs.Status.{Status, after, at_first}
use Rattle.ray_check.specs.Joining.{is_early, looked_at}
use Rattle.ray_check.proofs.Tables.{IsJoined, command-joined}

and-false : (b : Bool) → (b && false) ≡ false
and-false true = refl
and-false false = refl

-- what is left of a recording from command number i on, and the status there
pub record IsLeft (rec : List Command) (i : ℕ) (z : Status) (cs : List Command) : Type 0 where
  pub many : length rec ≡ i + length cs
  pub at : (k : ℕ) → slice_get rec (i + k) ≡ slice_get cs k
  pub status : z ≡ status_at rec i

pub left-here :
    (rec : List Command) (i : ℕ) (z : Status) (c : Command) (cs : List Command) → IsLeft rec i z (c ∷ cs)
    → slice_get rec i ≡ Some c
left-here rec i z c cs l = let e : i ≡ i + 0 = omega arith in ap (slice_get rec) e ∙ l.at 0

pub left-first : (rec : List Command) → IsLeft rec 0 at_first rec
left-first rec = record {
  many = omega arith;
  at = λ k. let e : 0 + k ≡ k = omega arith in ap (slice_get rec) e;
  status = refl;
}

pub status-next :
    (rec : List Command) (i : ℕ) (z : Status) (c : Command) → slice_get rec i ≡ Some c → z ≡ status_at rec i
    → after i c z ≡ status_at rec (suc i)
status-next rec i z c e p = ap (after i c) p ∙ ap (λ o. after_if i o (status_at rec i)) (sym e)

pub left-next :
    (rec : List Command) (i : ℕ) (z : Status) (c : Command) (cs : List Command) → IsLeft rec i z (c ∷ cs)
    → IsLeft rec (i + 1) (after i c z) cs
left-next rec i z c cs l = record {
  many = let m = l.many in omega arith;
  at = λ k. let e : (i + 1) + k ≡ i + suc k = omega arith in ap (slice_get rec) e ∙ l.at (suc k);
  status =
      let more : suc i ≡ i + 1 = omega arith in
      status-next rec i z c (left-here rec i z c cs l) l.status ∙ ap (status_at rec) more;
}

-- the refusal of the end is of the number after the last
pub end-at : (i : ℕ) (o : Option Place) (r : Refusal) → option_map (refused i 28) o ≡ Some r → r.command ≡ i
end-at i None r e = absurd (none-some r e)
end-at i (Some p) r e = sym (ap (λ (q : Refusal). q.command) (same_Some (refused i 28 p) r e))

pub end-late : (i : ℕ) (o : Option Place) (r : Refusal) → option_map (refused i 28) o ≡ Some r → is_early r.rule ≡ false
end-late i None r e = absurd (none-some r e)
end-late i (Some p) r e = sym (ap (λ (q : Refusal). is_early q.rule) (same_Some (refused i 28 p) r e))

-- a refusal is of a command from one number to another
pub record IsAmong (low high : ℕ) (r : Refusal) : Type 0 where
  pub least : low ≤ r.command
  pub most : r.command ≤ high

pub among-after :
    (i n : ℕ) (one later : Option Refusal) → i + 1 ≤ n → ((r : Refusal) → one ≡ Some r → r.command ≡ i)
    → ((r : Refusal) → later ≡ Some r → IsAmong (i + 1) n r) → (r : Refusal) → or_after one later ≡ Some r → IsAmong i n r
among-after i n None later w at h r e =
    let least = (h r e).least in
    record { least = omega arith; most = (h r e).most }
among-after i n (Some q) later w at h r e =
    let same = at r e in
    record { least = omega arith; most = omega arith }

pub static-among :
    (rec : List Command) (cs : List Command) (i : ℕ) (z : Status) (r : Refusal) → static_refusal_from rec i z cs ≡ Some r
    → IsAmong i (i + length cs) r
static-among rec [] i z r e =
    let same = end-at i (v28_at_end z) r e in
    record { least = omega arith; most = omega arith }
static-among rec (c ∷ cs) i z r e =
    let more : (i + 1) + length cs ≡ i + length (c ∷ cs) = omega arith in
    among-after i (i + length (c ∷ cs)) (static_refusal_of rec i z c) (static_refusal_from rec (i + 1) (after i c z) cs)
    (omega arith) (command-joined (barriers rec) rec i z c).static_at
    (λ q d. subst (λ n. IsAmong (i + 1) n q) more (static-among rec cs (i + 1) (after i c z) q d)) r e

-- how refusals go from command to command: by the rules that need an order, `met`, of which `first` is that
-- of the first commands; and by all rules, `all`, of which `from` is that of the commands that are left
pub record AreRefusals (rec : List Command) (met first : ℕ → Option Refusal) (all : ℕ → Status → Command → Option Refusal) (from : ℕ → Status → List Command → Option Refusal) : Type 0 where
  pub joined : (i : ℕ) (z : Status) (c : Command) → IsJoined i (static_refusal_of rec i z c) (met i) (all i z c)
  pub first_none : first 0 ≡ None
  pub first_next : (n : ℕ) → first (suc n) ≡ or_after (first n) (met n)
  pub from_end : (i : ℕ) (z : Status) → from i z [] ≡ refusal_at_end i z
  pub from_next :
      (i : ℕ) (z : Status) (c : Command) (cs : List Command)
      → from i z (c ∷ cs) ≡ or_after (all i z c) (from (i + 1) (after i c z) cs)

pub rule-among :
    (rec : List Command) (met first : ℕ → Option Refusal) (all : ℕ → Status → Command → Option Refusal)
    (from : ℕ → Status → List Command → Option Refusal) → AreRefusals rec met first all from
    → (cs : List Command) (i : ℕ) (z : Status) (r : Refusal) → from i z cs ≡ Some r → IsAmong i (i + length cs) r
rule-among rec met first all from are [] i z r e =
    let same = end-at i (v28_at_end z) r (sym (are.from_end i z) ∙ e) in
    record { least = omega arith; most = omega arith }
rule-among rec met first all from are (c ∷ cs) i z r e =
    let more : (i + 1) + length cs ≡ i + length (c ∷ cs) = omega arith in
    among-after i (i + length (c ∷ cs)) (all i z c) (from (i + 1) (after i c z) cs)
    (omega arith) (are.joined i z c).rule_at
    (λ q d. subst (λ n. IsAmong (i + 1) n q) more (rule-among rec met first all from are cs (i + 1) (after i c z) q d)) r
    (sym (are.from_next i z c cs) ∙ e)

-- where the commands are looked at that keep the first 24 rules
pub looked-late :
    (n : ℕ) (r : Refusal) → r.command < n → is_early r.rule ≡ false → looked_at n (Some r) ≡ r.command + 1
looked-late n r w e =
    cond-true (nat_lt r.command n && not (is_early r.rule)) (r.command + 1) r.command
    (λ i. lt-ltb r.command n w i && not (e i))

pub looked-early : (n : ℕ) (r : Refusal) → is_early r.rule ≡ true → looked_at n (Some r) ≡ r.command
looked-early n r e =
    cond-false (nat_lt r.command n && not (is_early r.rule)) (r.command + 1) r.command
    (ap (λ b. nat_lt r.command n && not b) e ∙ and-false (nat_lt r.command n))

pub looked-end : (n : ℕ) (r : Refusal) → n ≤ r.command → looked_at n (Some r) ≡ r.command
looked-end n r w =
    cond-false (nat_lt r.command n && not (is_early r.rule)) (r.command + 1) r.command
    (ap (λ b. b && not (is_early r.rule)) (le-ltb r.command n w))

pub looked-within : (n : ℕ) (st : Option Refusal) → ((r : Refusal) → st ≡ Some r → r.command ≤ n) → looked_at n st ≤ n
looked-within n None h = omega arith
looked-within n (Some r) h =
    let w = h r refl in
    elim (cases_lt r.command n) [
      | inl l ↦
          elim (cases_Bool (is_early r.rule)) [
            | inl e ↦ let s = looked-early n r e in omega arith
            | inr e ↦ let s = looked-late n r l e in omega arith
          ]
      | inr g ↦ let s = looked-end n r g in omega arith
    ]

-- the commands from the refused one on, and it where it breaks one of the first 24, aren't
pub looked-above :
    (n i : ℕ) (st : Option Refusal) → i < n → ((r : Refusal) → st ≡ Some r → i < r.command) → i < looked_at n st
looked-above n i None w h = w
looked-above n i (Some r) w h =
    let l = h r refl in
    elim (cases_lt r.command n) [
      | inl b ↦
          elim (cases_Bool (is_early r.rule)) [
            | inl e ↦ let s = looked-early n r e in omega arith
            | inr e ↦ let s = looked-late n r b e in omega arith
          ]
      | inr g ↦ let s = looked-end n r g in omega arith
    ]
