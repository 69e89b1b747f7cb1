-- The refusal of a recording by all rules is the first of that by the static rules and that by those on
-- hazards, of the commands that are looked at; and these go on.
use Rattle.std.proofs.Common.{◌≡◌, ◌<◌, ◌≤◌, ℕ, zero, suc, ◌+◌, List, [], ◌∷◌, length, slice_get, Option, Some, None, Bool, true, false, ◌&&◌, ◌||◌, nat_eq, if◌then◌else◌, refl, sym, ◌∙◌, ap, subst, inl, inr, arith}
use Rattle.std.specs.Prelude.{IfSome}
use Rattle.std.proofs.lemmas.Bool.{cases_Bool, cases_lt, cond-true, lt-ltb}
use Rattle.std.proofs.lemmas.Option.{none-some, same_Some}
use Rattle.ray_cmd.specs.declared.command.Command.{Command}
use Rattle.ray_cmd.specs.declared.refusal.Refusal.{Refusal}
use Rattle.ray_rules.specs.Hazards.{status_at}
use Rattle.ray_rules.specs.Phases.{v28_at_end}
use Rattle.ray_rules.specs.Order.{Ordering, barriers}
use Rattle.ray_rules.specs.Refusals.{or_after, refusal_at_end, static_refusal, static_refusal_from, static_refusal_of}
use Rattle.ray_rules.specs.Status.{Status, after, at_first}
use Rattle.ray_rules.specs.Verdict.{GoOn, first_hazard, hazard_of, rule_refusal, rule_refusal_from, rule_refusal_of}
use Rattle.ray_submits.specs.Submits.{QueueCommands}
use Rattle.ray_queues.specs.Refusals.{first_queue_refusal, queue_refusal_of}
use Rattle.ray_check.specs.Joining.{first_of_two, is_before, is_early, is_lesser, looked_at}
use Rattle.ray_check.specs.Queues.{queue_rule_refusal, queue_rule_refusal_from, queue_rule_refusal_of}
use Rattle.ray_check.proofs.Tables.{GoesOn, IsJoined, command-joined, command-kept, queue-command-joined}
use Rattle.ray_check.proofs.Going.{AreRefusals, IsLeft, end-at, left-first, left-here, left-next, looked-above, looked-early, looked-end, looked-late, looked-within, rule-among, static-among}

-- the hazard of an earlier command is the first
pub earlier-first :
    (st : Option Refusal) (h : Refusal) → ((r : Refusal) → st ≡ Some r → h.command < r.command)
    → first_of_two st (Some h) ≡ Some h
earlier-first None h b = refl
earlier-first (Some r) h b =
    cond-true (is_before h r) (Some h) (Some r)
    (ap (λ t. t || (nat_eq h.command r.command && is_lesser h.rule r.rule)) (lt-ltb h.command r.command (b r refl)))

-- of two of which one is there, one is the first
choice-there :
    (b : Bool) (q r : Refusal) (later : Option Refusal)
    → or_after (if b then Some q else Some r) later ≡ (if b then Some q else Some r)
choice-there true q r later = refl
choice-there false q r later = refl

first-there :
    (r : Refusal) (o later : Option Refusal) → or_after (first_of_two (Some r) o) later ≡ first_of_two (Some r) o
first-there r None later = refl
first-there r (Some q) later = choice-there (is_before q r) q r later

module _ (rec : List Command) (met first : ℕ → Option Refusal) (all : ℕ → Status → Command → Option Refusal) (from : ℕ → Status → List Command → Option Refusal) (are : AreRefusals rec met first all from) where
  -- the first one met of fewer commands is that of more
  met-stays : (n m : ℕ) (h : Refusal) → first n ≡ Some h → n ≤ m → first m ≡ Some h
  met-stays n zero h e w = let same : zero ≡ n = omega arith in ap first same ∙ e
  met-stays n (suc m) h e w =
      elim (cases_lt m n) [
        | inl l ↦ let same : suc m ≡ n = omega arith in ap first same ∙ e
        | inr g ↦ are.first_next m ∙ ap (λ o. or_after o (met m)) (met-stays n m h e g)
      ]

  met-next : (i : ℕ) → first i ≡ None → first (i + 1) ≡ met i
  met-next i e =
      let more : i + 1 ≡ suc i = omega arith in
      ap first more ∙ (are.first_next i ∙ ap (λ o. or_after o (met i)) e)

  -- at the end none is met
  join-end :
      (i n : ℕ) (o : Option Refusal) → ((r : Refusal) → o ≡ Some r → r.command ≡ i) → n ≡ i
      → first i ≡ None → o ≡ first_of_two o (first (looked_at n o))
  join-end i n None at e none = sym (ap first e ∙ none)
  join-end i n (Some r) at e none =
      let here = at r refl in
      sym
      (ap (λ m. first_of_two (Some r) (first m)) (looked-end n r (omega arith) ∙ here)
      ∙ ap (first_of_two (Some r)) none)

  -- from a command to the next
  join-step :
      (i n : ℕ) (static hazard rule later whole : Option Refusal) → i < n
      → IsJoined i static hazard rule → first i ≡ None → first (i + 1) ≡ hazard
      → ((r : Refusal) → later ≡ Some r → i < r.command)
      → (first (i + 1) ≡ None → whole ≡ first_of_two later (first (looked_at n later)))
      → or_after rule whole ≡ first_of_two (or_after static later) (first (looked_at n (or_after static later)))
  join-step i n (Some r) hazard rule later whole below j none next above goes =
      let here = j.static_at r refl in
      elim (cases_Bool (is_early r.rule)) [
        | inl e ↦
            ap (λ o. or_after o whole) (j.joined ∙ j.early r refl e)
            ∙ sym
            (ap (λ m. first_of_two (Some r) (first m)) (looked-early n r e ∙ here)
            ∙ ap (first_of_two (Some r)) none)
        | inr e ↦
            ap (λ o. or_after o whole) j.joined
            ∙ (first-there r hazard whole
            ∙ sym
            (ap (λ m. first_of_two (Some r) (first m))
            (looked-late n r (omega arith) e ∙ ap (λ m. m + 1) here)
            ∙ ap (first_of_two (Some r)) next))
      ]
  join-step i n None None rule later whole below j none next above goes =
      ap (λ o. or_after o whole) j.joined ∙ goes next
  join-step i n None (Some h) rule later whole below j none next above goes =
      let here = j.hazard_at h refl in
      let w = looked-above n i later below above in
      ap (λ o. or_after o whole) j.joined
      ∙ sym
      (ap (first_of_two later) (met-stays (i + 1) (looked_at n later) h next (omega arith))
      ∙ earlier-first later h (λ r e. let u = above r e in omega arith))

  join-from :
      (cs : List Command) (i : ℕ) (z : Status) → IsLeft rec i z cs → first i ≡ None
      → from i z cs
      ≡ first_of_two (static_refusal_from rec i z cs) (first (looked_at (length rec) (static_refusal_from rec i z cs)))
  join-from [] i z l none =
      let many = l.many in
      are.from_end i z ∙ join-end i (length rec) (refusal_at_end i z) (end-at i (v28_at_end z)) (omega arith) none
  join-from (c ∷ cs) i z l none =
      let many = l.many in
      are.from_next i z c cs
      ∙ join-step i (length rec) (static_refusal_of rec i z c) (met i) (all i z c)
      (static_refusal_from rec (i + 1) (after i c z) cs) (from (i + 1) (after i c z) cs) (omega arith)
      (are.joined i z c) none (met-next i none)
      (λ r e. let m = (static-among rec cs (i + 1) (after i c z) r e).least in omega arith)
      (λ e. join-from cs (i + 1) (after i c z) (left-next rec i z c cs l) e)

  -- the whole recording
  pub joins :
      (st hz : Option Refusal) → st ≡ static_refusal rec
      → hz ≡ first (looked_at (length rec) st) → first_of_two st hz ≡ from 0 at_first rec
  unfolding static_refusal
  joins st hz e f =
      ap (first_of_two st) f
      ∙ (ap (λ o. first_of_two o (first (looked_at (length rec) o))) e
      ∙ sym (join-from rec 0 at_first (left-first rec) are.first_none))

  -- which is of a command, or of the end
  pub within : (o : Option Refusal) → o ≡ from 0 at_first rec → IfSome o (λ r. r.command ≤ length rec)
  within None e = tt
  within (Some r) e = let m = (rule-among rec met first all from are rec 0 at_first r (sym e)).most in omega arith

-- ---- in an order, and over queues

pub in-order :
    (order : Ordering) (rec : List Command)
    → AreRefusals rec (hazard_of order rec) (first_hazard order rec) (rule_refusal_of order rec) (rule_refusal_from order rec)
in-order order rec = record {
  joined = command-joined order rec;
  first_none = refl;
  first_next = λ n. refl;
  from_end = λ i z. refl;
  from_next = λ i z c cs. refl;
}

pub several-queues :
    (q : QueueCommands)
    → AreRefusals q.commands (queue_refusal_of q) (first_queue_refusal q) (queue_rule_refusal_of q) (queue_rule_refusal_from q)
several-queues q = record {
  joined = queue-command-joined q;
  first_none = refl;
  first_next = λ n. refl;
  from_end = λ i z. refl;
  from_next = λ i z c cs. refl;
}

-- what is joined is the refusal by all rules
pub joins-one :
    (rec : List Command) (st hz : Option Refusal) → st ≡ static_refusal rec
    → hz ≡ first_hazard (barriers rec) rec (looked_at (length rec) st) → first_of_two st hz ≡ rule_refusal (barriers rec) rec
unfolding rule_refusal
joins-one rec st hz e f = joins rec _ _ _ _ (in-order (barriers rec) rec) st hz e f

pub within-one : (rec : List Command) (o : Option Refusal) → o ≡ rule_refusal (barriers rec) rec → IfSome o (λ r. r.command ≤ length rec)
unfolding rule_refusal
within-one rec o e = within rec _ _ _ _ (in-order (barriers rec) rec) o e

pub joins-several :
    (q : QueueCommands) (st hz : Option Refusal) → st ≡ static_refusal q.commands
    → hz ≡ first_queue_refusal q (looked_at (length q.commands) st) → first_of_two st hz ≡ queue_rule_refusal q
unfolding queue_rule_refusal
joins-several q st hz e f = joins q.commands _ _ _ _ (several-queues q) st hz e f

pub within-several : (q : QueueCommands) (o : Option Refusal) → o ≡ queue_rule_refusal q → IfSome o (λ r. r.command ≤ length q.commands)
unfolding queue_rule_refusal
within-several q o e = within q.commands _ _ _ _ (several-queues q) o e

-- ---- what is looked at

-- how many commands are looked at, by what is known of the order
pub looked-is :
    (rec : List Command) (st : Option Refusal) (n until many : ℕ) → many ≡ until → until ≡ looked_at n st
    → n ≡ length rec → many ≡ looked_at (length rec) st
looked-is rec st n until many e f g = e ∙ (f ∙ ap (λ m. looked_at m st) g)

pub looked-whole :
    (rec : List Command) (st : Option Refusal) → st ≡ static_refusal rec → looked_at (length rec) st ≤ length rec
unfolding static_refusal
looked-whole rec st e =
    looked-within (length rec) st
    (λ r f. let m = (static-among rec rec 0 at_first r (sym e ∙ f)).most in omega arith)

-- a command that is looked at keeps the first 24 rules
pub here-late :
    (n i : ℕ) (one later : Option Refusal) → ((r : Refusal) → one ≡ Some r → r.command ≡ i)
    → i < looked_at n (or_after one later) → (r : Refusal) → one ≡ Some r → is_early r.rule ≡ false
here-late n i None later at w r e = absurd (none-some r e)
here-late n i (Some q) later at w r e =
    let here = at q refl in
    elim (cases_Bool (is_early q.rule)) [
      | inl f ↦ let s = looked-early n q f in absurd (omega arith)
      | inr f ↦ sym (ap (λ (x : Refusal). is_early x.rule) (same_Some q r e)) ∙ f
    ]

-- after a refused one none is looked at
pub looked-most : (n : ℕ) (r : Refusal) → looked_at n (Some r) ≤ r.command + 1
looked-most n r =
    elim (cases_lt r.command n) [
      | inl l ↦
          elim (cases_Bool (is_early r.rule)) [
            | inl e ↦ let s = looked-early n r e in omega arith
            | inr e ↦ let s = looked-late n r l e in omega arith
          ]
      | inr g ↦ let s = looked-end n r g in omega arith
    ]

pub later-looked :
    (n i j : ℕ) (one later : Option Refusal) → ((r : Refusal) → one ≡ Some r → r.command ≡ i) → i < j
    → j < looked_at n (or_after one later) → j < looked_at n later
later-looked n i j None later at l w = w
later-looked n i j (Some q) later at l w =
    let here = at q refl in
    let most = looked-most n q in
    absurd (omega arith)

pub kept-here :
    (rec : List Command) (i j : ℕ) (z : Status) (d c : Command) → slice_get rec i ≡ Some d → z ≡ status_at rec i
    → GoesOn z d → i ≡ j → slice_get rec j ≡ Some c → GoesOn (status_at rec j) c
kept-here rec i j z d c at p g e there =
    subst (λ x. GoesOn x c) (p ∙ ap (status_at rec) e)
    (subst (λ x. GoesOn z x) (same_Some d c (sym at ∙ (ap (slice_get rec) e ∙ there))) g)

pub kept-from :
    (rec : List Command) (cs : List Command) (i : ℕ) (z : Status) → IsLeft rec i z cs → (j : ℕ) (c : Command) → i ≤ j
    → j < looked_at (length rec) (static_refusal_from rec i z cs) → slice_get rec j ≡ Some c
    → GoesOn (status_at rec j) c
kept-from rec [] i z l j c from below there =
    let many = l.many in
    let w =
    looked-within (length rec) (refusal_at_end i z) (λ r e. let s = end-at i (v28_at_end z) r e in omega arith)
    in
    absurd (omega arith)
kept-from rec (d ∷ cs) i z l j c from below there =
    elim (cases_lt i j) [
      | inl later ↦
          kept-from rec cs (i + 1) (after i d z) (left-next rec i z d cs l) j c (omega arith)
          (later-looked (length rec) i j (static_refusal_of rec i z d)
          (static_refusal_from rec (i + 1) (after i d z) cs) (command-joined (barriers rec) rec i z d).static_at later below)
          there
      | inr here ↦
          let same : i ≡ j = omega arith in
          kept-here rec i j z d c (left-here rec i z d cs l) l.status
          (command-kept rec i z d
          (here-late (length rec) i (static_refusal_of rec i z d)
          (static_refusal_from rec (i + 1) (after i d z) cs) (command-joined (barriers rec) rec i z d).static_at
          (subst (λ k. k < looked_at (length rec) (static_refusal_from rec i z (d ∷ cs))) (sym same) below)))
          same there
    ]

pub kept-whole :
    (rec : List Command) (st : Option Refusal) → st ≡ static_refusal rec → (j : ℕ) (c : Command)
    → j < looked_at (length rec) st → slice_get rec j ≡ Some c → GoesOn (status_at rec j) c
unfolding static_refusal
kept-whole rec st e j c below there =
    kept-from rec rec 0 at_first (left-first rec) j c (omega arith)
    (subst (λ o. j < looked_at (length rec) o) e below) there

pub goes-on : (rec : List Command) (st : Option Refusal) → st ≡ static_refusal rec → GoOn rec (looked_at (length rec) st)
goes-on rec st e = record {
  named = λ i c below there. (kept-whole rec st e i c below there).named;
  sized = λ i c below there. (kept-whole rec st e i c below there).sized;
  placed = λ i c below there. (kept-whole rec st e i c below there).placed;
}
