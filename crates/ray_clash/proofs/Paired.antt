-- An access of a list of touched ones is one of the touches.
use Rattle.std.proofs.Common.{◌<◌, ◌∷◌, [], ℕ, zero, suc, List, length, map, refl, sym, subst, arith, All}
use Rattle.std.specs.Prelude.{slice_index_or}
use Rattle.std.proofs.lemmas.List.Elements.{All-head, All-tail}
use Rattle.ray_rules.specs.declared.touch.Touch.{Touch}
use Rattle.ray_rules.specs.Status.{Status}
use Rattle.ray_access.specs.declared.touched.Touched.{Touched}
use Rattle.ray_access.specs.Axis.{TouchFits, touched}
use Rattle.ray_access.specs.Lists.{AreTouched}
use Rattle.ray_clash.specs.Pairs.{IsOf}

of_touches :
    (z : Status) (ts : List Touch) (k : ℕ) (d : Touched) → k < length (map (touched z) ts) → All TouchFits ts
    → IsOf z ts (slice_index_or (map (touched z) ts) k d)
of_touches z [] k d below fit = absurd (omega (arith, below))
of_touches z (t ∷ ts) zero d below fit =
    record { touch = t; place = 0; there = refl; fits = All-head TouchFits t ts fit; is = refl }
of_touches z (t ∷ ts) (suc k) d below fit =
    let rest : IsOf z ts (slice_index_or (map (touched z) ts) k d) =
    of_touches z ts k d (omega (arith, below)) (All-tail TouchFits t ts fit) in
    record { touch = rest.touch; place = suc rest.place; there = rest.there; fits = rest.fits; is = rest.is }

pub is_of :
    (list : List Touched) (k : ℕ) (d : Touched) → k < length list → (z : Status) (ts : List Touch)
    → AreTouched z ts list → IsOf z ts (slice_index_or list k d)
is_of list k d below z ts are =
    subst (λ xs. IsOf z ts (slice_index_or xs k d)) (sym are.are)
    (of_touches z ts k d (subst (λ xs. k < length xs) are.are below) are.fit)
