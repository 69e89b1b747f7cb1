-- One more is appended.
use Rattle.std.proofs.Common.{ℕ, ◌≡◌, ◌<◌, ◌+◌, ◌++◌, List, [], ◌∷◌, length, take, get_or, sym, ap, subst, ◌∙◌}
use Rattle.std.specs.Prelude.{All}
use Rattle.std.specs.List.{flat_map}
use Rattle.std.proofs.lemmas.List.{take_more, flat_map_more}
use Rattle.std.proofs.lemmas.List.Elements.{All-push}

taken : {X : Type 0} (xs : List X) (i : ℕ) (x d : X) → i < length xs → x ≡ get_or xs i d → take (i + 1) xs ≡ take i xs ++ x ∷ []
taken xs i x d below is = take_more xs i d below ∙ ap (λ y. take i xs ++ y ∷ []) (sym is)

pub bytes_more : {X : Type 0} (f : X → List ℕ) (xs : List X) (start now new : List ℕ) (i : ℕ) (x d : X) → i < length xs → x ≡ get_or xs i d
    → now ≡ start ++ flat_map f (take i xs) → new ≡ now ++ f x → new ≡ start ++ flat_map f (take (i + 1) xs)
bytes_more f xs start now new i x d below is so_far more =
    more ∙ (ap (λ ys. ys ++ f x) so_far ∙ (flat_map_more f start (take i xs) x ∙ ap (λ ys. start ++ flat_map f ys) (sym (taken xs i x d below is))))

pub all_more : {X : Type 0} (P : X → Type 0) (xs : List X) (i : ℕ) (x d : X) → i < length xs → x ≡ get_or xs i d → All P (take i xs) → P x → All P (take (i + 1) xs)
all_more P xs i x d below is all here = subst (λ ys. All P ys) (sym (taken xs i x d below is)) (All-push P (take i xs) x all here)
