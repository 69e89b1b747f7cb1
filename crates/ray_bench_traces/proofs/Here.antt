-- Three structures in use that stand under their ids.
use Rattle.std.specs.Prelude.{◌≡◌, List, [], ◌∷◌, All}
use Rattle.std.proofs.Common.{sym, subst}
use Rattle.std.proofs.lemmas.List.Elements.{All-cons, All-nil}
use Rattle.ray_top.specs.declared.used.Used.{Used}
use Rattle.ray_candidates.specs.Candidates.{Structures}
use Rattle.ray_candidates.specs.Standing.{IsHere}

pub three_here :
    (s : Structures) (a b c : Used) (used : List Used) → used ≡ a ∷ b ∷ c ∷ []
    → IsHere s a → IsHere s b → IsHere s c → All (IsHere s) used
three_here s a b c used is ha hb hc =
    subst (λ us. All (IsHere s) us) (sym is)
    (All-cons (IsHere s) a (b ∷ c ∷ []) ha (All-cons (IsHere s) b (c ∷ []) hb (All-cons (IsHere s) c [] hc (All-nil (IsHere s)))))
