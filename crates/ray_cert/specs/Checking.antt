-- Words of private calls alone: a certificate read against the trees, as the program reads it.
use Rattle.std.specs.Prelude.{ℕ, ◌≡◌, ◌+◌, ◌*◌, ◌<◌, ◌≤◌, length, ◌++◌, Bool, true, false, if◌then◌else◌, Option, Some, None, option_and_then, option_map, List, [], ◌∷◌, take, drop}
use Rattle.std.specs.List.{flat_map}
use Rattle.ray_geom.specs.declared.ratio.Ratio.{Ratio}
use Rattle.ray_geom.specs.ObjectRay.{ObjectRayValue, object_of}
use Rattle.ray_geom.specs.Scene.{RayValue}
use Rattle.ray_tree.specs.Shapes.{Shape, Gone, Tip, Fork}
use Rattle.ray_tree.specs.Trees.{TreeValue, box_at, no_box, shape_at}
use Rattle.ray_bottom.specs.Trees.{BottomWithTree}
use Rattle.ray_top.specs.declared.instance.Instance.{Instance}
use Rattle.ray_top.specs.Instances.{instance_value}
use Rattle.ray_query.specs.Limits.{is_open}
use Rattle.ray_candidates.specs.Placements.{Placement, entry_in}
use Rattle.ray_cert.specs.declared.cutting.Digit.{Digit}
use Rattle.ray_cert.specs.declared.cutting.Digit.TheVariants.{End, Opened, Shut}
use Rattle.ray_query.specs.declared.found.Found.{Found}
use Rattle.ray_cert.specs.Cuttings.{cut_by, marks}
use Rattle.ray_cert.specs.Parts.{Part, tree_of}
use Rattle.ray_cert.specs.Certificates.{is_met}

-- the items of the leaves that are tested, and the digits that are left
abbrev pub Taken : Type 0
Taken = List ℕ × List Bool

-- a node is cut off, which it may not be where it is met
abbrev pub refused : Option Taken
refused = None

abbrev pub cut_off : List Bool → Option Taken
cut_off rest = Some ([], rest)

-- with more items before
abbrev pub behind : List ℕ → Option Taken → Option Taken
behind items taken = option_map (λ r. (items ++ r.0, r.1)) taken

-- the left child's, and what the digits that it leaves give at the right child
abbrev pub both_by : (List Bool → Option Taken) → Option Taken → Option Taken
both_by right None = None
both_by right (Some (items, rest)) = behind items (right rest)

-- what the digits give from a node down, where a test tells which nodes are met
abbrev pub taken_of : (ℕ → Bool) → List ℕ → Shape → List Bool → Option Taken
taken_of met order Gone digits = cut_off digits
taken_of met order (Tip node first count) [] = None
taken_of met order (Tip node first count) (true ∷ ds) = Some (take count (drop first order), ds)
taken_of met order (Tip node first count) (false ∷ ds) = if met node then refused else cut_off ds
taken_of met order (Fork node left right) [] = None
taken_of met order (Fork node left right) (true ∷ ds) = both_by (taken_of met order right) (taken_of met order left ds)
taken_of met order (Fork node left right) (false ∷ ds) = if met node then refused else cut_off ds

-- the items where no digit is left
abbrev pub whole_of : Option Taken → Option (List ℕ)
whole_of None = None
whole_of (Some (items, [])) = Some items
whole_of (Some (items, d ∷ ds)) = None

-- the items that a whole string gives, of a part
abbrev pub items_taken : Ratio → Part → List Bool → Option (List ℕ)
items_taken limit p digits = whole_of (taken_of (is_met limit p) p.tree.order (shape_at p.tree 0) digits)

-- and what is found of them
abbrev pub found_taken : Ratio → Part → List Bool → Option (List Found)
found_taken limit p digits = option_map (flat_map p.find) (items_taken limit p digits)

-- what is found by all strings, behind what was found before
abbrev pub gathered_from : Ratio → List Found → List Part → List (List Bool) → Option (List Found)
gathered_from limit fs [] [] = Some fs
gathered_from limit fs [] (d ∷ ds) = None
gathered_from limit fs (p ∷ ps) [] = None
gathered_from limit fs (p ∷ ps) (d ∷ ds) = option_and_then (λ gs. gathered_from limit (fs ++ gs) ps ds) (found_taken limit p d)

-- ---- as the program goes from one to the next

-- a node of a tree is met by a ray of the object's space at an entry up to a limit
abbrev pub is_met_in : ObjectRayValue → Ratio → TreeValue → ℕ → Bool
is_met_in object limit tree n = is_open (Some limit) (entry_in object (box_at tree no_box n))

-- what is next of digits, at a place: none is left, or a 0 or a 1 and those behind it
pub record IsDigitAt (digits : List Bool) (at : ℕ) (digit : Bool) : Type 0 where
  pub within : at < length digits
  pub is : drop at digits ≡ digit ∷ drop (at + 1) digits

abbrev pub IsNext : List Bool → ℕ → Digit → Type 0
IsNext digits at End = drop at digits ≡ []
IsNext digits at Shut = IsDigitAt digits at false
IsNext digits at Opened = IsDigitAt digits at true

-- where the digits that were taken end: at the place that was told, or at the last of them where they were refused
abbrev pub end_of : ℕ → Option ℕ → ℕ
end_of many None = many
end_of many (Some at) = at

-- digits were taken from one place to another, with at most one step and four items for each
pub record AreFew (at after many steps_before steps_after items_before items_after : ℕ) : Type 0 where
  pub from : at ≤ after
  pub to : after ≤ many
  pub steps : steps_after + at ≤ steps_before + after
  pub items : items_after + 4 * at ≤ items_before + 4 * after

-- an instance with its structure, as the program holds them
abbrev pub placement_value : Instance → BottomWithTree → Placement
placement_value instance bottom = record { instance = instance_value instance; bottom = bottom }

-- what the next string gives for the part of one instance, if it has one, and the strings that are left
abbrev pub string_taken : Ratio → List Found → List Part → List (List Bool) → Option (List Found × List (List Bool))
string_taken limit fs [] ds = Some (fs, ds)
string_taken limit fs (p ∷ ps) [] = None
string_taken limit fs (p ∷ ps) (d ∷ ds) = option_map (λ gs. (fs ++ gs, ds)) (found_taken limit p d)

-- how many items a string gives, if it gives any
abbrev pub many_in : Option (List ℕ) → ℕ
many_in None = 0
many_in (Some items) = length items

-- ---- strings that are made

-- the digits along a tree, and those of an instance with its structure, if there is one
abbrev pub digits_along : Ratio → ObjectRayValue → TreeValue → List Bool
digits_along limit object tree = marks (cut_by (is_met_in object limit tree) (shape_at tree 0))

abbrev pub strings_by : Ratio → RayValue → Option Placement → List (List Bool)
strings_by limit ray None = []
strings_by limit ray (Some p) = digits_along limit (object_of ray p.instance.matrix) (tree_of p.bottom) ∷ []
