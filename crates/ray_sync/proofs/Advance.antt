-- A front stays exact from a command to the next.
use Rattle.std.proofs.Common.{◌≡◌, ◌≤◌, ℕ, suc, Bool, true, false, ◌&&◌, ◌||◌, max, nat_lt, if◌then◌else◌, List, Some, slice_get, refl, sym, ◌∙◌, ap, inl, inr, arith}
use Rattle.std.proofs.lemmas.Bool.{cases_Bool, cond-true, cond-false}
use Rattle.std.proofs.lemmas.Bool.Decides.{nat_tests}
use Rattle.ray_cmd.specs.declared.command.Command.{Command}
use Rattle.ray_cmd.specs.declared.command.Command.TheVariants as commands
use Rattle.ray_flags.specs.declared.stages.Stages.{Stages}
use Rattle.ray_rules.specs.declared.stage.Stage.{Stage}
use Rattle.ray_rules.specs.declared.stage.Stage.TheVariants.{Transfer, Build, StructureCopy, Compute, Host}
use Rattle.ray_rules.specs.Order.{Handed, always, holds_stage, handed_at, handed_after, handed_after_if, meets_stages, not_handed, takes_stage}
use Rattle.ray_sync.specs.declared.front.Front.{Front}
use Rattle.ray_sync.specs.Fronts.{no_front, front_at, held, met, raised, taken_up, front_after, IsFront}

pub lt-max : (i x y : ℕ) → nat_lt i (max x y) ≡ (nat_lt i x || nat_lt i y)
lt-max i x y = grind (arith, nat_tests)

pub lt-zero : (i : ℕ) → nat_lt i 0 ≡ false
lt-zero i = grind (arith, nat_tests)

pub lt-beyond : (i n : ℕ) → n ≤ i → nat_lt i n ≡ false
lt-beyond i n h = grind (arith, nat_tests)

-- a number that stands where a test holds
pub lt-choice : (b : Bool) (i k : ℕ) → nat_lt i (if b then k else 0) ≡ (b && nat_lt i k)
lt-choice true i k = refl
lt-choice false i k = lt-zero i

-- a stage that is met has been reached where its number is above the command's
pub lt-met :
    (stages : Stages) (front : Front) (i : ℕ)
    → nat_lt i (met stages front) ≡ meets_stages stages (λ to. nat_lt i (front_at front to))
lt-met stages front i =
    let t = lt-choice (holds_stage stages Transfer) i front.transfer in
    let b = lt-choice (holds_stage stages Build) i front.build in
    let s = lt-choice (holds_stage stages StructureCopy) i front.structure_copy in
    let c = lt-choice (holds_stage stages Compute) i front.compute in
    let h = lt-choice (holds_stage stages Host) i front.host in
    let x : ℕ = held stages Build front.build in
    let y : ℕ = held stages StructureCopy front.structure_copy in
    let z : ℕ = held stages Compute front.compute in
    let w : ℕ = held stages Host front.host in
    lt-max i (held stages Transfer front.transfer) (max x (max y (max z w)))
    ∙ (λ j. t j
    || (lt-max i x (max y (max z w))
    ∙ (λ k. b k || (lt-max i y (max z w) ∙ (λ l. s l || (lt-max i z w ∙ (λ m. c m || h m)) l)) k)) j)

-- all has been taken up where the barrier takes it up directly, and else what has reached its stages
pub lt-taken_up :
    (direct : Bool) (n : ℕ) (stages : Stages) (front : Front) (i : ℕ) → nat_lt i n ≡ true
    → nat_lt i (taken_up direct n stages front)
    ≡ (direct || meets_stages stages (λ to. nat_lt i (front_at front to)))
lt-taken_up true n stages front i l = l
lt-taken_up false n stages front i l = lt-met stages front i

pub raised-at :
    (stages : Stages) (number : ℕ) (front : Front) (to : Stage)
    → front_at (raised stages number front) to ≡ max (front_at front to) (held stages to number)
raised-at stages number front Transfer = refl
raised-at stages number front Build = refl
raised-at stages number front StructureCopy = refl
raised-at stages number front Compute = refl
raised-at stages number front Host = refl

-- and, the other way round
pub and-swap : (a b : Bool) → (a && b) ≡ (b && a)
and-swap true true = refl
and-swap true false = refl
and-swap false true = refl
and-swap false false = refl

pub or-true : (a : Bool) → (a || true) ≡ true
or-true true = refl
or-true false = refl

pub or-false : (a : Bool) → (a || false) ≡ a
or-false true = refl
or-false false = refl

pub choice-within : (b : Bool) (g n : ℕ) → g ≤ n → (if b then g else 0) ≤ n
choice-within true g n h = h
choice-within false g n h = omega arith

-- what one more command, number n, hands on
pub front-step :
    (stage : Stage) (c : Command) (z : Handed) (n i : ℕ) (front : Front) (to : Stage)
    → ((s : Stage) → z.stages s ≡ nat_lt i (front_at front s)) → nat_lt i n ≡ true
    → (handed_after (takes_stage stage) c z).stages to ≡ nat_lt i (front_at (front_after stage n c front) to)
front-step stage (commands.Barrier src sa dst da ids) z n i front to e l =
    let g : ℕ = taken_up (holds_stage src stage) n src front in
    (λ j. e to j || ((holds_stage src stage || meets_stages src (λ s. e s j)) && holds_stage dst to))
    ∙ (ap (λ b. nat_lt i (front_at front to) || (b && holds_stage dst to))
    (sym (lt-taken_up (holds_stage src stage) n src front i l))
    ∙ (ap (λ b. nat_lt i (front_at front to) || b)
    (and-swap (nat_lt i g) (holds_stage dst to) ∙ sym (lt-choice (holds_stage dst to) i g))
    ∙ (sym (lt-max i (front_at front to) (held dst to g)) ∙ ap (nat_lt i) (sym (raised-at dst g front to)))))
front-step stage commands.Wait z n i front Transfer e l = or-true (z.stages Transfer) ∙ sym l
front-step stage commands.Wait z n i front Build e l = or-true (z.stages Build) ∙ sym l
front-step stage commands.Wait z n i front StructureCopy e l = or-true (z.stages StructureCopy) ∙ sym l
front-step stage commands.Wait z n i front Compute e l = or-true (z.stages Compute) ∙ sym l
front-step stage commands.Wait z n i front Host e l = or-false (z.stages Host) ∙ e Host
front-step stage _ z n i front to e l = e to

pub held-within : (stages : Stages) (to : Stage) (g n : ℕ) → g ≤ n → held stages to g ≤ n
held-within stages to g n h = choice-within (holds_stage stages to) g n h

pub met-within : (stages : Stages) (front : Front) (n : ℕ) → ((to : Stage) → front_at front to ≤ n) → met stages front ≤ n
met-within stages front n w =
    let t = held-within stages Transfer front.transfer n (w Transfer) in
    let b = held-within stages Build front.build n (w Build) in
    let s = held-within stages StructureCopy front.structure_copy n (w StructureCopy) in
    let c = held-within stages Compute front.compute n (w Compute) in
    let h = held-within stages Host front.host n (w Host) in
    omega arith

pub taken_up-within :
    (direct : Bool) (n : ℕ) (stages : Stages) (front : Front) → ((to : Stage) → front_at front to ≤ n)
    → taken_up direct n stages front ≤ n
taken_up-within true n stages front w = omega arith
taken_up-within false n stages front w = met-within stages front n w

pub front-within :
    (stage : Stage) (c : Command) (n : ℕ) (front : Front) (to : Stage) → ((s : Stage) → front_at front s ≤ n)
    → front_at (front_after stage n c front) to ≤ n
front-within stage (commands.Barrier src sa dst da ids) n front to w =
    let g : ℕ = taken_up (holds_stage src stage) n src front in
    let e = raised-at dst g front to in
    let h = held-within dst to g n (taken_up-within (holds_stage src stage) n src front w) in
    let u = w to in
    omega arith
front-within stage commands.Wait n front Transfer w = omega arith
front-within stage commands.Wait n front Build w = omega arith
front-within stage commands.Wait n front StructureCopy w = omega arith
front-within stage commands.Wait n front Compute w = omega arith
front-within stage commands.Wait n front Host w = w Host
front-within stage _ n front to w = w to

-- from a command to the next
pub front-next :
    (stage : Stage) (rec : List Command) (n : ℕ) (front : Front) (c : Command) → slice_get rec n ≡ Some c
    → IsFront stage rec n front → IsFront stage rec (suc n) (front_after stage n c front)
front-next stage rec n front c e p = record {
  exact = λ i to.
      elim (cases_Bool (nat_lt i n)) [
        | inl l ↦
            ap (λ (z : Handed). z.stages to)
            (cond-true (nat_lt i n) (handed_after_if (takes_stage stage) (slice_get rec n) (handed_at (takes_stage stage) always rec i n))
            not_handed l)
            ∙ (ap (λ o. (handed_after_if (takes_stage stage) o (handed_at (takes_stage stage) always rec i n)).stages to) e
            ∙ front-step stage c (handed_at (takes_stage stage) always rec i n) n i front to (p.exact i) l)
        | inr g ↦
            let above : n ≤ i = grind (arith, nat_tests) in
            let w = front-within stage c n front to p.within in
            ap (λ (z : Handed). z.stages to)
            (cond-false (nat_lt i n)
            (handed_after_if (takes_stage stage) (slice_get rec n) (handed_at (takes_stage stage) always rec i n)) not_handed g)
            ∙ sym (lt-beyond i (front_at (front_after stage n c front) to) (omega arith))
      ];
  within = λ to. let w = front-within stage c n front to p.within in omega arith;
}

pub none-at : (i : ℕ) (to : Stage) → nat_lt i (front_at no_front to) ≡ false
none-at i Transfer = lt-zero i
none-at i Build = lt-zero i
none-at i StructureCopy = lt-zero i
none-at i Compute = lt-zero i
none-at i Host = lt-zero i

pub none-within : (to : Stage) → front_at no_front to ≤ 0
none-within Transfer = omega arith
none-within Build = omega arith
none-within StructureCopy = omega arith
none-within Compute = omega arith
none-within Host = omega arith

-- where a recording begins
pub front-first : (stage : Stage) (rec : List Command) → IsFront stage rec 0 no_front
front-first stage rec = record { exact = λ i to. sym (none-at i to); within = λ to. none-within to }
