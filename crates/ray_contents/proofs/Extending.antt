-- Bounds as a fold over the boxes of the active ones of a list.
use Rattle.std.proofs.Common.{ℕ, ◌≡◌, ◌<◌, ◌+◌, List, [], ◌∷◌, length, take, get_or, Option, Some, None, fold, refl, ap, ◌∙◌}
use Rattle.std.specs.List.{filter_map, cons_option}
use Rattle.std.proofs.lemmas.List.Sums.{fold-append}
use Rattle.std.proofs.lemmas.List.{take_more}
use Rattle.std.proofs.lemmas.List.Elements.{filter_map-append}
use Rattle.ray_geom.specs.Boxes.{BoxValue}
use Rattle.ray_geom.specs.LeastBoxes.{joined_of}
use Rattle.ray_contents.specs.Bounds.{extended_of}

fold-cons_option : (so_far item : Option BoxValue) → fold joined_of so_far (cons_option item []) ≡ extended_of so_far item
fold-cons_option so_far None = refl
fold-cons_option so_far (Some box) = refl

-- the boxes of the first i + 1 of a list, and those of the first i
pub bounds_more : {X : Type 0} (box_of : X → Option BoxValue) (so_far : Option BoxValue) (xs : List X) (i : ℕ) (d : X) → i < length xs →
    fold joined_of so_far (filter_map box_of (take (i + 1) xs)) ≡ extended_of (fold joined_of so_far (filter_map box_of (take i xs))) (box_of (get_or xs i d))
bounds_more box_of so_far xs i d below =
    ap (λ ys. fold joined_of so_far (filter_map box_of ys)) (take_more xs i d below)
    ∙ (ap (λ boxes. fold joined_of so_far boxes) (filter_map-append box_of (take i xs) (get_or xs i d ∷ []))
    ∙ (fold-append joined_of so_far (filter_map box_of (take i xs)) (filter_map box_of (get_or xs i d ∷ []))
    ∙ fold-cons_option (fold joined_of so_far (filter_map box_of (take i xs))) (box_of (get_or xs i d))))
