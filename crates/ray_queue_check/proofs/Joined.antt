-- The first refusal by rules on hazards and that by rules on semaphores, joined.
use Rattle.std.proofs.Common.{◌≡◌, ◌<◌, ◌∙◌, ℕ, zero, suc, Bool, true, false, nat_lt, Option, Some, None, refl, sym, ap, arith}
use Rattle.std.specs.Prelude.{if◌then◌else◌}
use Rattle.std.proofs.lemmas.Bool.Decides.{nat_tests}
use Rattle.ray_cmd.specs.declared.place.Place.{Place}
use Rattle.ray_cmd.specs.declared.refusal.Refusal.{Refusal}
use Rattle.ray_queues.specs.QueueOrder.{queue_order}
use Rattle.ray_queues.specs.Refusals.{first_queue_refusal, queue_refusal_of}
use Rattle.ray_rules.specs.Hazards.{v25, v26, v27, v32}
use Rattle.ray_rules.specs.Order.{Ordering}
use Rattle.ray_rules.specs.Refusals.{or_after, or_later}
use Rattle.ray_rules.specs.Verdict.{first_hazard, hazard_of}
use Rattle.ray_submits.specs.Semaphores.{first_semaphore_refusal, semaphore_refusal_of, v33, v34}
use Rattle.ray_submits.specs.Submits.{QueueCommands}
use Rattle.ray_queue_check.specs.Sooner.{lesser, sooner}

-- a refusal is of this command, or of one below a number
abbrev pub IsAt : ℕ → Option Refusal → Type 0
IsAt n o = (r : Refusal) → o ≡ Some r → r.command ≡ n

abbrev pub IsBefore : ℕ → Option Refusal → Type 0
IsBefore n o = (r : Refusal) → o ≡ Some r → r.command < n

-- by a rule, or by later ones
later-at : (n number : ℕ) (place : Option Place) (rest : Option Refusal) → IsAt n rest → IsAt n (or_later n number place rest)
later-at n number None rest is = is
later-at n number (Some place) rest is = λ r e. ap (λ (o : Option Refusal). command-of o n) (sym e)
  where
    command-of : Option Refusal → ℕ → ℕ
    command-of None m = m
    command-of (Some r) m = r.command

none-at : (n : ℕ) → IsAt n None
none-at n r e = absurd cc

hazard-at : (order : Ordering) (q : QueueCommands) (n : ℕ) → IsAt n (hazard_of order q.commands n)
unfolding hazard_of
hazard-at order q n =
    later-at n 25 (v25 order q.commands n) _
    (later-at n 26 (v26 order q.commands n) _
    (later-at n 27 (v27 order q.commands n) _ (later-at n 32 (v32 order q.commands n) None (none-at n))))

semaphore-at : (q : QueueCommands) (n : ℕ) → IsAt n (semaphore_refusal_of q n)
semaphore-at q n = later-at n 33 (v33 q n) _ (later-at n 34 (v34 q n) None (none-at n))

-- the first of more commands
after-before :
    (n : ℕ) (first next : Option Refusal) → IsBefore n first → IsAt n next → IsBefore (suc n) (or_after first next)
after-before n None next before at = λ r e. let same = at r e in omega arith
after-before n (Some x) next before at = λ r e. let low = before r e in omega arith

hazards-before : (order : Ordering) (q : QueueCommands) (n : ℕ) → IsBefore n (first_hazard order q.commands n)
hazards-before order q zero = λ r e. absurd cc
hazards-before order q (suc n) =
    after-before n (first_hazard order q.commands n) (hazard_of order q.commands n) (hazards-before order q n) (hazard-at order q n)

semaphores-before : (q : QueueCommands) (n : ℕ) → IsBefore n (first_semaphore_refusal q n)
semaphores-before q zero = λ r e. absurd cc
semaphores-before q (suc n) =
    after-before n (first_semaphore_refusal q n) (semaphore_refusal_of q n) (semaphores-before q n) (semaphore-at q n)

-- the rules on hazards come first
split :
    (n : ℕ) (a b c d : Option Place) (rest : Option Refusal)
    → or_later n 25 a (or_later n 26 b (or_later n 27 c (or_later n 32 d rest)))
    ≡ or_after (or_later n 25 a (or_later n 26 b (or_later n 27 c (or_later n 32 d None)))) rest
split n (Some a) b c d rest = refl
split n None (Some b) c d rest = refl
split n None None (Some c) d rest = refl
split n None None None (Some d) rest = refl
split n None None None None rest = refl

refusal-split :
    (q : QueueCommands) (n : ℕ)
    → queue_refusal_of q n ≡ or_after (hazard_of (queue_order q) q.commands n) (semaphore_refusal_of q n)
unfolding queue_refusal_of hazard_of
refusal-split q n =
    split n (v25 (queue_order q) q.commands n) (v26 (queue_order q) q.commands n) (v27 (queue_order q) q.commands n)
    (v32 (queue_order q) q.commands n) (semaphore_refusal_of q n)

-- a refusal of a lesser command than that of another comes sooner
not-less : (a b : ℕ) (x y : Refusal) → nat_lt a b ≡ false → (if nat_lt a b then y else x) ≡ x
not-less a b x y e = choose (nat_lt a b) e
  where
    choose : (t : Bool) → t ≡ false → (if t then y else x) ≡ x
    choose true f = absurd cc
    choose false f = refl

is-less : (a b : ℕ) (x y : Refusal) → nat_lt a b ≡ true → (if nat_lt a b then y else x) ≡ y
is-less a b x y e = choose (nat_lt a b) e
  where
    choose : (t : Bool) → t ≡ true → (if t then y else x) ≡ y
    choose true f = refl
    choose false f = absurd cc

-- a first refusal stays where the second isn't of a lesser command
first-stays :
    (x : Refusal) (s : Option Refusal) → ((y : Refusal) → s ≡ Some y → nat_lt y.command x.command ≡ false) → lesser x s ≡ x
first-stays x None not = refl
first-stays x (Some y) not = not-less y.command x.command x y (not y refl)

step :
    (n : ℕ) (hazards semaphores hazard semaphore : Option Refusal) → IsBefore n hazards → IsBefore n semaphores
    → IsAt n hazard → IsAt n semaphore
    → sooner (or_after hazards hazard) (or_after semaphores semaphore)
    ≡ or_after (sooner hazards semaphores) (or_after hazard semaphore)
step n (Some x) (Some y) hazard semaphore before earlier at is = refl
step n (Some x) None hazard semaphore before earlier at is =
    ap Some (first-stays x semaphore (λ y e.
    let low = before x refl in
    let same = is y e in
    grind (arith, nat_tests)))
step n None (Some y) (Some w) semaphore before earlier at is =
    let low = earlier y refl in
    let same = at w refl in
    let less : nat_lt y.command w.command ≡ true = grind (arith, nat_tests) in
    ap Some (is-less y.command w.command w y less)
step n None (Some y) None semaphore before earlier at is = refl
step n None None (Some w) semaphore before earlier at is =
    ap Some (first-stays w semaphore (λ y e.
    let low = at w refl in
    let same = is y e in
    grind (arith, nat_tests)))
step n None None None semaphore before earlier at is = refl

-- the two joined are the first of all
pub joined-is :
    (q : QueueCommands) (n : ℕ)
    → sooner (first_hazard (queue_order q) q.commands n) (first_semaphore_refusal q n) ≡ first_queue_refusal q n
joined-is q zero = refl
joined-is q (suc n) =
    step n (first_hazard (queue_order q) q.commands n) (first_semaphore_refusal q n) (hazard_of (queue_order q) q.commands n)
    (semaphore_refusal_of q n) (hazards-before (queue_order q) q n) (semaphores-before q n) (hazard-at (queue_order q) q n)
    (semaphore-at q n)
    ∙ (λ i. or_after (joined-is q n i) (sym (refusal-split q n) i))
