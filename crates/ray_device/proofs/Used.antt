-- The structures in use as an action sees them are those of the memory as it is.
use Rattle.std.proofs.Common.{ℕ, ◌≡◌, List, [], ◌∷◌, Option, Some, None, Bool, true, false, refl, ap, sym, ◌∙◌}
use Rattle.std.specs.Prelude.{map, option_and_then, if◌then◌else◌, ◌==◌, ◌||◌, ◌++◌}
use Rattle.std.specs.List.{list_any}
use Rattle.std.proofs.lemmas.List.Folds.{list_any-append}
use Rattle.std.proofs.lemmas.Bool.{eq-eqb}
use Rattle.std.proofs.Common.{append_assoc}
use Rattle.ray_geom.specs.Boxes.{BoxValue}
use Rattle.ray_geometries.specs.Contents as bottoms
use Rattle.ray_action.specs.Memory.{Memory, Contents, Bottom, Top, ContentsAt, as_bottom, bounds_of}
use Rattle.ray_action.specs.Areas.{has}
use Rattle.ray_action.specs.Building.{all_used, used_of}
use Rattle.ray_action.specs.Seeing.{see_structures}
use Rattle.ray_device.specs.Tops.{used_now}

same-bounds : (found : Option Contents) → option_and_then bounds_of found ≡ option_and_then (λ (b : bottoms.ContentsValue). bottoms.bounds_of b.geometries) (option_and_then as_bottom found)
same-bounds None = refl
same-bounds (Some (Bottom b)) = refl
same-bounds (Some (Top t)) = refl

seen-named : (b : Bool) (found : Option Contents) → b ≡ true → (if b then found else None) ≡ found
seen-named true found e = refl
seen-named false found e = absurd cc

used-one : (m : Memory) (ids : List ℕ) (id : ℕ) → has ids id ≡ true → used_of (see_structures m ids) id ≡ used_now m id
used-one m ids id named =
    ap (λ (b : Option BoxValue). record { id = id; bounds = b })
    (ap (option_and_then bounds_of) (seen-named (has ids id) (m (ContentsAt id)) named) ∙ same-bounds (m (ContentsAt id)))

or-right : (a b : Bool) → b ≡ true → (a || b) ≡ true
or-right true b e = refl
or-right false b e = e

or-left : (a b : Bool) → a ≡ true → (a || b) ≡ true
or-left true b e = refl
or-left false b e = absurd cc

-- what stands in a list is among it
named-in : (before rest : List ℕ) (id : ℕ) → has (before ++ (id ∷ rest)) id ≡ true
named-in before rest id =
    list_any-append (λ other. other == id) before (id ∷ rest)
    ∙ or-right (list_any (λ other. other == id) before) (list_any (λ other. other == id) (id ∷ rest))
    (or-left (id == id) (list_any (λ other. other == id) rest) (eq-eqb id id refl))

used-rest : (m : Memory) (ids before rest : List ℕ) → ids ≡ before ++ rest → map (used_of (see_structures m ids)) rest ≡ map (used_now m) rest
used-rest m ids before [] e = refl
used-rest m ids before (id ∷ rest) e =
    let named : has ids id ≡ true = ap (λ xs. has xs id) e ∙ named-in before rest id in
    λ i. used-one m ids id named i ∷ used-rest m ids (before ++ (id ∷ [])) rest (e ∙ sym (append_assoc before (id ∷ []) rest)) i

pub used_list : (m : Memory) (ids : List ℕ) → all_used (see_structures m ids) ids ≡ map (used_now m) ids
used_list m ids = used-rest m ids [] ids refl
