-- Words of private calls alone, which a reader of the public contracts needs not: the order of the heap of turns, and its laws. They
-- stand in specs/, since the `impl`s cite them.
use Rattle.std.specs.Prelude.{◌≡◌, Bool, true, false, All, List, map, refl}
use Rattle.std.specs.Cmp.{IsTotalOrder, IsPartialOrder, IsEquivalence, IsPartialEquivalence, Agrees, bool_cmp_total, partial_order_from_agreeing_total, partial_equiv_from_equiv}
use Rattle.std.specs.Ordering.{as_partial_cmp, bool_cmp, eq_by_cmp, is_lt, nat_cmp, ordering_then}
use Rattle.std.specs.declared.cmp.Ordering.{Ordering}
use Rattle.std.proofs.lemmas.Cmp.{nat_cmp_total, on_total, then_total, back_total, eq_by_cmp_equiv}
use Rattle.ray_geom.specs.Ratio.{ratio_cmp}
use Rattle.ray_geom.specs.RatioLaws.{ratio_cmp-total}
use Rattle.ray_nearest.specs.declared.turn.Turn.{Turn}
use Rattle.ray_nearest.specs.declared.turn.Turn.TheVariants.{Node, Candidate}
use Rattle.ray_nearest.specs.declared.tie.Tie.{Tie}
use Rattle.ray_nearest.specs.declared.waiting.Waiting.{Waiting}
use Rattle.ray_nearest.specs.Kept.{kept_turn}
use Rattle.ray_nearest.specs.Turns.{turn_at}

-- the turn of one that waits
abbrev pub turn_of : Waiting → Turn
turn_of w = kept_turn w.at w.kept

-- the turns of those that wait
abbrev pub turns_of : List Waiting → List Turn
turns_of = map turn_of

-- by what a turn is ordered among those at its distance
abbrev pub tie_of : Turn → Tie
tie_of (Node e n) = record { found = false; instance = 0; geometry = 0; primitive = 0 }
tie_of (Candidate f) = record { found = true; instance = f.instance; geometry = f.geometry; primitive = f.primitive }

abbrev pub tie_cmp : Tie → Tie → Ordering
tie_cmp a b =
    ordering_then (bool_cmp a.found b.found)
    (ordering_then (nat_cmp a.instance b.instance)
    (ordering_then (nat_cmp a.geometry b.geometry) (nat_cmp a.primitive b.primitive)))

pub tie_cmp-total : IsTotalOrder tie_cmp
tie_cmp-total =
    then_total (on_total (λ (a : Tie). a.found) bool_cmp_total)
    (then_total (on_total (λ (a : Tie). a.instance) nat_cmp_total)
    (then_total (on_total (λ (a : Tie). a.geometry) nat_cmp_total)
    (on_total (λ (a : Tie). a.primitive) nat_cmp_total)))

-- how two turns stand to each other: the one that comes first is the lesser
abbrev pub turn_cmp : Turn → Turn → Ordering
turn_cmp x y = ordering_then (ratio_cmp (turn_at x) (turn_at y)) (tie_cmp (tie_of x) (tie_of y))

pub turn_cmp-total : IsTotalOrder turn_cmp
turn_cmp-total = then_total (on_total turn_at ratio_cmp-total) (on_total tie_of tie_cmp-total)

-- what comes first is the greater, since a heap gives its greatest
abbrev pub waiting_cmp : Waiting → Waiting → Ordering
waiting_cmp x y = turn_cmp (turn_of y) (turn_of x)

pub waiting_cmp-total : IsTotalOrder waiting_cmp
waiting_cmp-total = back_total (on_total turn_of turn_cmp-total)

-- none of some that wait comes before one
abbrev pub IsFirst : Waiting → List Waiting → Type 0
IsFirst w others = All (λ other. is_lt (waiting_cmp w other) ≡ false) others

abbrev pub waiting_eq : Waiting → Waiting → Bool
waiting_eq = eq_by_cmp waiting_cmp

pub waiting_cmp-partial : Agrees (as_partial_cmp waiting_cmp) waiting_cmp
waiting_cmp-partial = λ x y. refl

pub waiting_cmp-eq : (x y : Waiting) → waiting_eq x y ≡ eq_by_cmp waiting_cmp x y
waiting_cmp-eq = λ x y. refl

pub waiting_eq-equivalence : IsEquivalence waiting_eq
waiting_eq-equivalence = eq_by_cmp_equiv waiting_cmp-total

pub waiting_eq-laws : IsPartialEquivalence waiting_eq
waiting_eq-laws = partial_equiv_from_equiv waiting_eq-equivalence

pub waiting_cmp-laws : IsPartialOrder waiting_eq (as_partial_cmp waiting_cmp)
waiting_cmp-laws = partial_order_from_agreeing_total waiting_cmp waiting_cmp-total waiting_cmp-partial waiting_cmp-eq
