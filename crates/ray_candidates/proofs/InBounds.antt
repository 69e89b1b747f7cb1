-- The box of each node of a bottom structure's tree is in the bounds of the structure.
use Rattle.std.proofs.Common.{◌≡◌, ◌∙◌, refl, sym, subst, ℕ, ◌<◌, Option, Some, None, IfSome, filter_map, List, [], ◌∷◌, ◌++◌, All, length, take, drop, get_or, inl, inr}
use Rattle.std.specs.Option.{option_to_list}
use Rattle.std.proofs.lemmas.Bool.{cases_lt}
use Rattle.std.proofs.lemmas.List.{get_or_past}
use Rattle.std.proofs.lemmas.List.Elements.{All-nil, All-cons, All-append, All-map}
use Rattle.std.proofs.lemmas.List.Concat.{flat_map-cons}
use Rattle.std.proofs.lemmas.Option.{slice_get-get_or}
use Rattle.ray_geom.specs.Boxes.{BoxValue, IsPart}
use Rattle.ray_geom.specs.LeastBoxes.{HoldsBoxes, IsLeast}
use Rattle.ray_geom.proofs.LeastBoxes.{IsLeastOf-boxes}
use Rattle.ray_primitives.specs.Primitives.{box_of_triangle}
use Rattle.ray_tree.specs.Shapes.{Shape, Gone, Tip, Fork}
use Rattle.ray_tree.specs.Trees.{TreeValue, TreeOver, shape_at, box_at, item_box, boxes_of, boxes_below}
use Rattle.ray_tree.proofs.LeastLists.{All-first, All-second}
use Rattle.ray_geometries.specs.declared.geometry.Geometry.{Geometry}
use Rattle.ray_geometries.specs.declared.shapes.Shapes.{Shapes}
use Rattle.ray_geometries.specs.declared.shapes.Shapes.TheVariants.{Triangles, Boxes}
use Rattle.ray_geometries.specs.Contents.{boxes_of as boxes_of_geometry, boxes_of_shapes, active_boxes, bounds_of}
use Rattle.ray_bottom.specs.Trees.{items_of, items_of_shapes}
use Rattle.ray_bottom.proofs.Held.{IfSome-filter_map}

-- ---- from all active boxes to the items

each_given : {X : Type 0} (P : BoxValue → Type 0) (f : X → Option BoxValue) (xs : List X) → All P (filter_map f xs) → All (λ x. IfSome (f x) P) xs
each_given P f xs all = λ k d below. IfSome-filter_map P f xs k (get_or xs k d) all (slice_get-get_or xs k d below)

in_shapes : (P : BoxValue → Type 0) (s : Shapes) → All P (boxes_of_shapes s) → All (λ o. IfSome o P) (items_of_shapes s)
in_shapes P (Triangles format size ts) all = All-map (λ o. IfSome o P) box_of_triangle ts (each_given P box_of_triangle ts all)
in_shapes P (Boxes bs) all = each_given P (λ b. b) bs all

in_items : (P : BoxValue → Type 0) (gs : List Geometry) → All P (active_boxes gs) → All (λ o. IfSome o P) (items_of gs)
in_items P [] all = All-nil (λ o. IfSome o P)
in_items P (g ∷ gs) all =
    let both : All P (boxes_of_geometry g ++ active_boxes gs) = subst (All P) (flat_map-cons boxes_of_geometry g gs) all in
    subst (All (λ o. IfSome o P)) (sym (flat_map-cons (λ (h : Geometry). items_of_shapes h.shapes) g gs))
    (All-append (λ o. IfSome o P) (items_of_shapes g.shapes) (items_of gs)
    (in_shapes P g.shapes (All-first P (boxes_of_geometry g) (active_boxes gs) both))
    (in_items P gs (All-second P (boxes_of_geometry g) (active_boxes gs) both)))

some_holds : (P : BoxValue → Type 0) (o : Option BoxValue) (x : BoxValue) → o ≡ Some x → IfSome o P → P x
some_holds P o x is holds = by (subst (λ p. IfSome p P) is holds)
  where
    by : IfSome (Some x) P → P x
    by h = h

pub item_holds : (P : BoxValue → Type 0) (items : List (Option BoxValue)) → All (λ o. IfSome o P) items → (q : ℕ) (box : BoxValue) → item_box items q ≡ Some box → P box
item_holds P items all q box is = elim (cases_lt q (length items)) [
  | inl below ↦ some_holds P (item_box items q) box is (all q None below)
  | inr past ↦ absurd (none_some box (sym (get_or_past items q None past) ∙ is))
]
  where
    none_some : (b : BoxValue) → None ≡ Some b → ⊥
    none_some b e = cc

-- ---- from the items to what is below a node

abbrev HoldsEach : (BoxValue → Type 0) → List (Option BoxValue) → Type 0
HoldsEach P items = (q : ℕ) (box : BoxValue) → item_box items q ≡ Some box → P box

all_one : (P : BoxValue → Type 0) (o : Option BoxValue) → ((box : BoxValue) → o ≡ Some box → P box) → All P (option_to_list o)
all_one P None h = All-nil P
all_one P (Some box) h = All-cons P box [] (h box refl) (All-nil P)

all_of : (P : BoxValue → Type 0) (items : List (Option BoxValue)) (qs : List ℕ) → HoldsEach P items → All P (boxes_of items qs)
all_of P items [] h = All-nil P
all_of P items (q ∷ qs) h =
    All-append P (option_to_list (item_box items q)) (boxes_of items qs) (all_one P (item_box items q) (λ box is. h q box is)) (all_of P items qs h)

all_below : (P : BoxValue → Type 0) (items : List (Option BoxValue)) (order : List ℕ) (s : Shape) → HoldsEach P items → All P (boxes_below items order s)
all_below P items order Gone h = All-nil P
all_below P items order (Tip node first count) h = all_of P items (take count (drop first order)) h
all_below P items order (Fork node l r) h =
    All-append P (boxes_below items order l) (boxes_below items order r) (all_below P items order l h) (all_below P items order r h)

-- ---- the bounds

bounds_hold : (gs : List Geometry) (bounds : BoxValue) → bounds_of gs ≡ Some bounds → HoldsBoxes (active_boxes gs) bounds
bounds_hold gs bounds is =
    let least = IsLeastOf-boxes (active_boxes gs) (Some bounds) (sym is) in
    by least.0
  where
    by : IfSome (Some bounds) (IsLeast (HoldsBoxes (active_boxes gs))) → HoldsBoxes (active_boxes gs) bounds
    by h = h.holds

pub node_in_bounds : (tree : TreeValue) (gs : List Geometry) (bounds : BoxValue) → TreeOver tree (items_of gs) → bounds_of gs ≡ Some bounds
    → (n : ℕ) (d : BoxValue) → n < length tree.nodes → IsPart (box_at tree d n) bounds
node_in_bounds tree gs bounds over is n d small =
    let P = λ (x : BoxValue). IsPart x bounds in
    (over.least n d small).least bounds
    (all_below P (items_of gs) tree.order (shape_at tree n) (item_holds P (items_of gs) (in_items P gs (bounds_hold gs bounds is))))
