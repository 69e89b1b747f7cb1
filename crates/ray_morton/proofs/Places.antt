-- Lists that were set place by place.
use Rattle.std.proofs.Common.{◌≡◌, ◌∙◌, ◌<◌, ℕ, List, length, map, get_or, sym, arith}
use Rattle.std.proofs.lemmas.List.{ext_get_or, length-map, get_or-map}

pub set_each : {X Y : Type 0} (f : X → Y) (xs : List X) (ys : List Y) (d : X) (e : Y) → length ys ≡ length xs
    → ((k : ℕ) → k < length xs → get_or ys k e ≡ f (get_or xs k d)) → ys ≡ map f xs
set_each f xs ys d e long each =
    ext_get_or e ys (map f xs) (long ∙ sym (length-map xs f))
    (λ k small. each k (omega (arith, small, long)) ∙ sym (get_or-map f xs k d e (omega (arith, small, long))))
