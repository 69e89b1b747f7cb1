-- The wave numbers of an order, one more at a time; and that they separate commands.
use Rattle.std.proofs.Common.{ℕ, zero, suc, ◌≡◌, ◌<◌, ◌+◌, ◌++◌, List, [], ◌∷◌, length, get_or, inl, inr, refl, ap, sym, subst, arith}
use Rattle.std.proofs.lemmas.Bool.{cases_lt}
use Rattle.std.proofs.lemmas.List.{length-append}
use Rattle.ray_cmd.specs.declared.command.Command.{Command}
use Rattle.ray_rules.specs.Order.{IsLongest, barriers, before}
use Rattle.ray_action.specs.Clients.{Clients}
use Rattle.ray_permitted.specs.Job.{on_one_queue}
use Rattle.ray_permitted.specs.Rules.{BreakNoRule}
use Rattle.ray_permitted.specs.Separates.{NumbersSeparate}
use Rattle.ray_permitted.proofs.Fetching.{chains_separate}
use Rattle.ray_permitted.proofs.Separating.{barriers_carry, orders_separate}
use Rattle.ray_exec.specs.Waves.{AreLongest, wave_at}

in_front : (xs : List ℕ) (x i : ℕ) → i < length xs → get_or (xs ++ x ∷ []) i 0 ≡ get_or xs i 0
in_front [] x i less = absurd (omega (arith, less))
in_front (y ∷ xs) x zero less = refl
in_front (y ∷ xs) x (suc i) less = in_front xs x i (omega (arith, less))

at_end : (xs : List ℕ) (x i : ℕ) → i ≡ length xs → get_or (xs ++ x ∷ []) i 0 ≡ x
at_end [] x zero same = refl
at_end [] x (suc i) same = absurd (omega (arith, same))
at_end (y ∷ xs) x zero same = absurd (omega (arith, same))
at_end (y ∷ xs) x (suc i) same = at_end xs x i (omega (arith, same))

pub none_yet : (rec : List Command) (waves : List ℕ) → waves ≡ [] → AreLongest rec 0 waves
none_yet rec waves empty = record { many = ap length empty; each = λ i less. absurd (omega (arith, less)) }

pub one_more : (rec : List Command) (n w : ℕ) (old new : List ℕ) → IsLongest (before (barriers rec) rec) n w → AreLongest rec n old → new ≡ old ++ w ∷ [] → AreLongest rec (n + 1) new
one_more rec n w old new longest are more =
    let count : length old ≡ n = are.many in
    subst (AreLongest rec (n + 1)) (sym more) (record {
      many = (let l = length-append old (w ∷ []) in omega (arith, l, count));
      each = λ i less. elim (cases_lt i n) [
        | inl below ↦ subst (IsLongest (before (barriers rec) rec) i) (sym (in_front old w i (omega (arith, below, count)))) (are.each i below)
        | inr past ↦
            (let same : n ≡ i = omega (arith, less, past) in
            subst (IsLongest (before (barriers rec) rec) i) (sym (at_end old w i (omega (arith, same, count))))
            (subst (λ k. IsLongest (before (barriers rec) rec) k w) same longest))
      ];
    })

-- the numbers of commands that break no rule separate them
pub longest_separate : (rec : List Command) (clients : Clients) (n : ℕ) (waves : List ℕ) → BreakNoRule (on_one_queue rec clients) n → AreLongest rec n waves
    → NumbersSeparate rec n (wave_at waves)
longest_separate rec clients n waves rules are =
    chains_separate (on_one_queue rec clients) n (wave_at waves) (orders_separate (on_one_queue rec clients) n (barriers_carry rec) rules) are.each
