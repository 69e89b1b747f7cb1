-- Lists of eight.
use Rattle.std.proofs.Common.{◌≡◌, List, [], ◌∷◌, length, get_or, refl, arith}

-- a list of eight, item by item, whatever stands for one that is missing
pub listed : {X : Type 0} (xs : List X) (s t u v w x y z : X) → length xs ≡ 8
    → get_or xs 0 s ∷ get_or xs 1 t ∷ get_or xs 2 u ∷ get_or xs 3 v ∷ get_or xs 4 w ∷ get_or xs 5 x ∷ get_or xs 6 y ∷ get_or xs 7 z ∷ [] ≡ xs
listed (a ∷ b ∷ c ∷ d ∷ e ∷ f ∷ g ∷ h ∷ []) s t u v w x y z long = refl
listed [] s t u v w x y z long = absurd (omega (arith, long))
listed (a ∷ []) s t u v w x y z long = absurd (omega (arith, long))
listed (a ∷ b ∷ []) s t u v w x y z long = absurd (omega (arith, long))
listed (a ∷ b ∷ c ∷ []) s t u v w x y z long = absurd (omega (arith, long))
listed (a ∷ b ∷ c ∷ d ∷ []) s t u v w x y z long = absurd (omega (arith, long))
listed (a ∷ b ∷ c ∷ d ∷ e ∷ []) s t u v w x y z long = absurd (omega (arith, long))
listed (a ∷ b ∷ c ∷ d ∷ e ∷ f ∷ []) s t u v w x y z long = absurd (omega (arith, long))
listed (a ∷ b ∷ c ∷ d ∷ e ∷ f ∷ g ∷ []) s t u v w x y z long = absurd (omega (arith, long))
listed (a ∷ b ∷ c ∷ d ∷ e ∷ f ∷ g ∷ h ∷ i ∷ xs) s t u v w x y z long = absurd (omega (arith, long))
