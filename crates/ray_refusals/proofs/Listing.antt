-- Lists of refusals, one command more.
use Rattle.std.proofs.Common.{◌≡◌, ◌+◌, ◌++◌, ℕ, suc, true, List, [], Option, Some, slice_get, ap, ◌∙◌, arith, sym}
use Rattle.std.specs.List.{cons_option}
use Rattle.std.specs.Option.{option_and_then, option_map_or}
use Rattle.ray_cmd.specs.declared.command.Command.{Command}
use Rattle.ray_cmd.specs.declared.refusal.Refusal.{Refusal}
use Rattle.ray_rules.specs.Refusals.{static_refusal_of}
use Rattle.ray_rules.specs.Status.{Status}
use Rattle.ray_valid.specs.Going.{goes_on}
use Rattle.ray_refusals.specs.Every.{going_below, goes_on_at, next_going, passed, static_at, statics_below, status_before}

more : (i : ℕ) → suc i ≡ i + 1
more i = omega arith

-- the refusals with that of one command more
pub refusals-next :
    (rec : List Command) (i : ℕ) (c : Command) (z : Status) (found new : List Refusal) (refusal : Option Refusal)
    → slice_get rec i ≡ Some c → z ≡ status_before rec i → found ≡ statics_below rec i → refusal ≡ static_refusal_of rec i z c
    → new ≡ found ++ cons_option refusal [] → new ≡ statics_below rec (i + 1)
refusals-next rec i c z found new refusal there at are is e =
    let here : refusal ≡ static_at rec i =
    is ∙ (ap (λ y. static_refusal_of rec i y c) at
    ∙ ap (option_and_then (λ d. static_refusal_of rec i (status_before rec i) d)) (sym there))
    in
    e ∙ ((λ k. are k ++ cons_option (here k) []) ∙ ap (statics_below rec) (more i))

-- the status behind it
pub status-passed :
    (rec : List Command) (i : ℕ) (c : Command) (z new : Status) → slice_get rec i ≡ Some c → z ≡ status_before rec i → new ≡ passed i c z
    → new ≡ status_before rec (i + 1)
status-passed rec i c z new there at e =
    e ∙ (ap (passed i c) at
    ∙ (ap (λ o. option_map_or (λ d. passed i d (status_before rec i)) o (status_before rec i)) (sym there) ∙ ap (status_before rec) (more i)))

-- and how many go on
pub going-next :
    (rec : List Command) (i going new : ℕ) (c : Command) (z : Status) → slice_get rec i ≡ Some c → z ≡ status_before rec i
    → going ≡ going_below rec i → new ≡ next_going going i (goes_on z c) → new ≡ going_below rec (i + 1)
going-next rec i going new c z there at are e =
    let here : goes_on z c ≡ goes_on_at rec i =
    ap (λ y. goes_on y c) at ∙ ap (λ o. option_map_or (goes_on (status_before rec i)) o true) (sym there)
    in
    e ∙ ((λ k. next_going (are k) i (here k)) ∙ ap (going_below rec) (more i))
