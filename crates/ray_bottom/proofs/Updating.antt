-- What was added to a builder of an update keeps the activity of the old primitives, so that the old tree is refit.
use Rattle.std.proofs.Common.{ℕ, zero, suc, ◌≡◌, ◌∙◌, ◌++◌, Bool, true, false, List, [], ◌∷◌, length, map, Result, Ok, Err, Option, Some, None, option_map, refl, sym, ap, subst, arith}
use Rattle.std.specs.Prelude.{if◌then◌else◌, is_some, slice_get, option_and_then, IfSome}
use Rattle.std.specs.Bool.{beq}
use Rattle.std.proofs.lemmas.Simd.{map-map}
use Rattle.std.proofs.lemmas.List.{map-append}
use Rattle.std.proofs.lemmas.List.Concat.{flat_map-cons}
use Rattle.ray_geom.specs.Boxes.{BoxValue}
use Rattle.ray_geom.specs.LeastBoxes.{box_of_tri}
use Rattle.ray_geom.specs.Scene.{TriValue}
use Rattle.ray_geom.specs.Transform.{MatrixValue}
use Rattle.ray_bytes.specs.declared.data_rule.DataRule.{DataRule}
use Rattle.ray_bytes.specs.declared.data_rule.DataRule.TheVariants.{X9, X10}
use Rattle.ray_bytes.specs.declared.data_fault.DataFault.{DataFault}
use Rattle.ray_bytes.specs.declared.format.Format.{Format}
use Rattle.ray_bytes.specs.Views.{Vertices, Indices, Boxes as BoxBytes}
use Rattle.ray_flags.specs.declared.build_flags.BuildFlags.{BuildFlags}
use Rattle.ray_flags.specs.declared.kind.Kind.TheVariants.{Triangle, Aabb}
use Rattle.ray_tree.specs.Trees.{TreeValue, active}
use Rattle.ray_climb.specs.Refits.{IsRefit}
use Rattle.ray_hierarchy.specs.Hierarchies.{IsTreeOf}
use Rattle.ray_contents.proofs.Gathered.{gathered_all}
use Rattle.ray_primitives.specs.declared.triangle_info.TriangleInfo.{TriangleInfo}
use Rattle.ray_primitives.specs.declared.box_info.BoxInfo.{BoxInfo}
use Rattle.ray_primitives.specs.Primitives.{TriangleValue, box_of_triangle}
use Rattle.ray_primitives.specs.Updates.{same_indices}
use Rattle.ray_primitives.specs.TriangleReading.{TriangleSource, triangle_of, triangle_element, triangles_with, transform_read, triangles_read, updated_triangle}
use Rattle.ray_primitives.specs.BoxReading.{box_element, box_read, box_words, boxes_read, updated_box}
use Rattle.ray_primitives.proofs.Results.{element_ok, if_ok, ok_same}
use Rattle.ray_geometries.specs.declared.geometry.Geometry.{Geometry}
use Rattle.ray_geometries.specs.declared.shapes.Shapes.{Shapes}
use Rattle.ray_geometries.specs.declared.shapes.Shapes.TheVariants.{Triangles, Boxes}
use Rattle.ray_geometries.specs.Contents.{ContentsValue, count_of, count_of_shapes, kind_of, kind_of_shapes, with_geometry}
use Rattle.ray_bottom.specs.Trees.{BottomWithTree, items_of, items_of_shapes}
use Rattle.ray_bottom.specs.Builders.{box_geometry, boxes_in, builder_value, triangle_geometry, triangles_in}
use Rattle.ray_bottom.specs.Updating.{CanRefit, IsUnderWay, IsUpdateOf, KeepActivity, KeepsActivity, activity_of}

-- ---- primitives

beq_same : (a b : Bool) → beq a b ≡ true → b ≡ a
beq_same true true e = refl
beq_same true false e = absurd cc
beq_same false true e = absurd cc
beq_same false false e = refl

triangle_kept : (old : TriangleValue) (r : Result TriangleValue DataRule) (t : TriangleValue) → updated_triangle (Some old) r ≡ Ok t → is_some t.tri ≡ is_some old.tri
triangle_kept old (Ok s) t e =
    let active = if_ok (beq (is_some old.tri) (is_some s.tri)) (if same_indices old.indices s.indices then Ok s else Err X10) X9 t e in
    let same = if_ok (same_indices old.indices s.indices) (Ok s) X10 t active.1 in
    let is : s ≡ t = ok_same s t (Ok s) refl same.1 in
    ap (λ (u : TriangleValue). is_some u.tri) (sym is) ∙ beq_same (is_some old.tri) (is_some s.tri) active.0
triangle_kept old (Err rule) t e = absurd cc

box_kept : (old : Option BoxValue) (r : Result (Option BoxValue) DataRule) (b : Option BoxValue) → updated_box (Some old) r ≡ Ok b → is_some b ≡ is_some old
box_kept old (Ok a) b e =
    let active = if_ok (beq (is_some old) (is_some a)) (Ok a) X9 b e in
    let is : a ≡ b = ok_same a b (Ok a) refl active.1 in
    ap is_some (sym is) ∙ beq_same (is_some old) (is_some a) active.0
box_kept old (Err rule) b e = absurd cc

-- ---- geometries

-- two lists of one length whose items answer a test alike
same_answers : {X : Type 0} (f : X → Bool) (xs ys : List X) → length xs ≡ length ys
    → ((k : ℕ) (x y : X) → slice_get xs k ≡ Some x → slice_get ys k ≡ Some y → f x ≡ f y) → map f xs ≡ map f ys
same_answers f [] [] many each = refl
same_answers f [] (y ∷ ys) many each = absurd (omega arith)
same_answers f (x ∷ xs) [] many each = absurd (omega arith)
same_answers f (x ∷ xs) (y ∷ ys) many each =
    λ i. each 0 x y refl refl i ∷ same_answers f xs ys (omega arith) (λ k u v p q. each (suc k) u v p q) i

box_active : (t : Option TriValue) → is_some (option_map box_of_tri t) ≡ is_some t
box_active None = refl
box_active (Some tri) = refl

triangle_elements : (source : TriangleSource) (olds : List TriangleValue) (geometry k : ℕ) (t old : TriangleValue)
    → triangle_element source (Some olds) geometry k ≡ Ok t → slice_get olds k ≡ Some old → is_some (box_of_triangle t) ≡ is_some (box_of_triangle old)
unfolding triangle_element
triangle_elements source olds geometry k t old read is =
    let gives = element_ok geometry k (updated_triangle (slice_get olds k) (triangle_of source k)) t read in
    box_active t.tri
    ∙ (triangle_kept old (triangle_of source k) t (subst (λ o. updated_triangle o (triangle_of source k) ≡ Ok t) is gives) ∙ sym (box_active old.tri))

triangles_by : (info : TriangleInfo) (vertices : Vertices) (indices : Option Indices) (olds : List TriangleValue) (geometry : ℕ)
    (matrix : Result (Option MatrixValue) DataFault) (ts : List TriangleValue)
    → triangles_with info vertices indices (Some olds) geometry matrix ≡ Ok ts → length ts ≡ length olds
    → map (λ t. is_some (box_of_triangle t)) ts ≡ map (λ t. is_some (box_of_triangle t)) olds
triangles_by info vertices indices olds geometry (Err fault) ts read many = absurd cc
triangles_by info vertices indices olds geometry (Ok matrix) ts read many =
    let source : TriangleSource = record { info = info; vertices = vertices; indices = indices; matrix = matrix } in
    let all = gathered_all (triangle_element source (Some olds) geometry) info.count ts read in
    same_answers (λ t. is_some (box_of_triangle t)) ts olds many (λ k t old is was. triangle_elements source olds geometry k t old (all.each k t is) was)

triangles_keep : (info : TriangleInfo) (vertices : Vertices) (indices : Option Indices) (transform : Option (List ℕ)) (olds : List TriangleValue) (geometry : ℕ)
    (ts : List TriangleValue) → triangles_read info vertices indices transform (Some olds) geometry ≡ Ok ts → length ts ≡ length olds
    → map is_some (map box_of_triangle ts) ≡ map is_some (map box_of_triangle olds)
unfolding triangles_read
triangles_keep info vertices indices transform olds geometry ts read many =
    map-map is_some box_of_triangle ts
    ∙ (triangles_by info vertices indices olds geometry (transform_read geometry info.count transform) ts read many ∙ sym (map-map is_some box_of_triangle olds))

box_elements : (boxes : BoxBytes) (olds : List (Option BoxValue)) (geometry k : ℕ) (b old : Option BoxValue)
    → box_element boxes (Some olds) geometry k ≡ Ok b → slice_get olds k ≡ Some old → is_some b ≡ is_some old
unfolding box_element
box_elements boxes olds geometry k b old read is =
    let gives = element_ok geometry k (updated_box (slice_get olds k) (box_read (box_words boxes k))) b read in
    box_kept old (box_read (box_words boxes k)) b (subst (λ o. updated_box o (box_read (box_words boxes k)) ≡ Ok b) is gives)

boxes_keep : (info : BoxInfo) (boxes : BoxBytes) (olds : List (Option BoxValue)) (geometry : ℕ) (bs : List (Option BoxValue))
    → boxes_read info boxes (Some olds) geometry ≡ Ok bs → length bs ≡ length olds → map is_some bs ≡ map is_some olds
unfolding boxes_read
boxes_keep info boxes olds geometry bs read many =
    let all = gathered_all (box_element boxes (Some olds) geometry) info.count bs read in
    same_answers is_some bs olds many (λ k b old is was. box_elements boxes olds geometry k b old (all.each k b is) was)

triangles_like : (info : TriangleInfo) (vertices : Vertices) (indices : Option Indices) (transform : Option (List ℕ)) (old : Shapes) (geometry : ℕ)
    (ts : List TriangleValue) → triangles_read info vertices indices transform (triangles_in old) geometry ≡ Ok ts
    → Triangle ≡ kind_of_shapes old → length ts ≡ count_of_shapes old → map is_some (map box_of_triangle ts) ≡ map is_some (items_of_shapes old)
triangles_like info vertices indices transform (Triangles format size olds) geometry ts read kinds many =
    triangles_keep info vertices indices transform olds geometry ts read many
triangles_like info vertices indices transform (Boxes olds) geometry ts read kinds many = absurd cc

boxes_like : (info : BoxInfo) (boxes : BoxBytes) (old : Shapes) (geometry : ℕ) (bs : List (Option BoxValue))
    → boxes_read info boxes (boxes_in old) geometry ≡ Ok bs → Aabb ≡ kind_of_shapes old → length bs ≡ count_of_shapes old
    → map is_some bs ≡ map is_some (items_of_shapes old)
boxes_like info boxes (Triangles format size olds) geometry bs read kinds many = absurd cc
boxes_like info boxes (Boxes olds) geometry bs read kinds many = boxes_keep info boxes olds geometry bs read many

-- ---- builders

one_more : (olds gs : List Geometry) (g : Geometry) → KeepActivity olds gs → ((old : Geometry) → slice_get olds (length gs) ≡ Some old → KeepsActivity old g)
    → KeepActivity olds (gs ++ g ∷ [])
one_more [] [] g kept last = tt
one_more (old ∷ olds) [] g kept last = (last old refl, tt)
one_more [] (h ∷ gs) g kept last = tt
one_more (old ∷ olds) (h ∷ gs) g kept last = (kept.0, one_more olds gs g kept.1 last)

-- the old primitives of number n, by what a structure's shapes give
abbrev olds_in : {X : Type 0} → (Shapes → Option X) → Option BottomWithTree → ℕ → Option X
olds_in f r n = option_and_then (λ (g : Geometry). f g.shapes) (option_and_then (λ (old : BottomWithTree). slice_get old.geometries n) r)

found : {X : Type 0} (f : Shapes → Option X) (r : Option BottomWithTree) (n m : ℕ) (o : BottomWithTree) (old : Geometry) → r ≡ Some o → n ≡ m
    → slice_get o.geometries m ≡ Some old → olds_in f r n ≡ f old.shapes
found f r n m o old e many was = (λ i. olds_in f (e i) (many i)) ∙ ap (λ p. option_and_then (λ (g : Geometry). f g.shapes) p) was

-- a geometry more, which keeps the activity of the old one of its number
with_one : (c : ContentsValue) (r : Option BottomWithTree) (g : Geometry)
    → ((o : BottomWithTree) → r ≡ Some o → (old : Geometry) → slice_get o.geometries (length c.geometries) ≡ Some old → KeepsActivity old g)
    → IsUnderWay (builder_value c r) → IsUnderWay (builder_value (with_geometry c g) r)
with_one c None g keeps is = record { update = tt }
with_one c (Some o) g keeps is =
    record { update = record { over = is.update.over; kept = one_more o.geometries c.geometries g is.update.kept (keeps o refl) } }

pub triangles-added : (c now : ContentsValue) (r : Option BottomWithTree) (info : TriangleInfo) (vertices : Vertices) (indices : Option Indices)
    (transform : Option (List ℕ)) (olds : Option (List TriangleValue)) (n : ℕ) (opaque : Bool) (format : Format) (size : ℕ) (ts : List TriangleValue)
    → olds ≡ olds_in triangles_in r n → n ≡ length c.geometries → triangles_read info vertices indices transform olds n ≡ Ok ts
    → now ≡ with_geometry c (triangle_geometry opaque format size ts) → IsUnderWay (builder_value c r) → IsUnderWay (builder_value now r)
triangles-added c now r info vertices indices transform olds n opaque format size ts were many read is_now is =
    subst (λ d. IsUnderWay (builder_value d r)) (sym is_now)
    (with_one c r (triangle_geometry opaque format size ts) (λ o e old was. record {
      same = triangles_like info vertices indices transform old.shapes n ts
          (subst (λ p. triangles_read info vertices indices transform p n ≡ Ok ts) (were ∙ found triangles_in r n (length c.geometries) o old e many was) read);
    }) is)

pub boxes-added : (c now : ContentsValue) (r : Option BottomWithTree) (info : BoxInfo) (boxes : BoxBytes) (olds : Option (List (Option BoxValue))) (n : ℕ)
    (opaque : Bool) (bs : List (Option BoxValue))
    → olds ≡ olds_in boxes_in r n → n ≡ length c.geometries → boxes_read info boxes olds n ≡ Ok bs
    → now ≡ with_geometry c (box_geometry opaque bs) → IsUnderWay (builder_value c r) → IsUnderWay (builder_value now r)
boxes-added c now r info boxes olds n opaque bs were many read is_now is =
    subst (λ d. IsUnderWay (builder_value d r)) (sym is_now)
    (with_one c r (box_geometry opaque bs) (λ o e old was. record {
      same = boxes_like info boxes old.shapes n bs (subst (λ p. boxes_read info boxes p n ≡ Ok bs) (were ∙ found boxes_in r n (length c.geometries) o old e many was) read);
    }) is)

-- ---- the tree

same_heads : {X : Type 0} (x y : X) (xs ys : List X) → (x ∷ xs) ≡ (y ∷ ys) → x ≡ y
same_heads x y xs ys e = cc

same_tails : {X : Type 0} (x y : X) (xs ys : List X) → (x ∷ xs) ≡ (y ∷ ys) → xs ≡ ys
same_tails x y xs ys e = cc

all_kept : (olds gs : List Geometry) → KeepActivity olds gs → map kind_of gs ≡ map kind_of olds → map count_of gs ≡ map count_of olds
    → map is_some (items_of gs) ≡ map is_some (items_of olds)
all_kept [] [] kept kinds counts = refl
all_kept (o ∷ os) [] kept kinds counts = absurd cc
all_kept [] (g ∷ gs) kept kinds counts = absurd cc
all_kept (o ∷ os) (g ∷ gs) kept kinds counts =
    let first = kept.0.same (same_heads _ _ (map kind_of gs) (map kind_of os) kinds) (same_heads _ _ (map count_of gs) (map count_of os) counts) in
    let others = all_kept os gs kept.1 (same_tails _ _ (map kind_of gs) (map kind_of os) kinds) (same_tails _ _ (map count_of gs) (map count_of os) counts) in
    apart g gs ∙ ((λ i. first i ++ others i) ∙ sym (apart o os))
  where
    apart : (h : Geometry) (hs : List Geometry) → map is_some (items_of (h ∷ hs)) ≡ activity_of h ++ map is_some (items_of hs)
    apart h hs =
        ap (map is_some) (flat_map-cons (λ (f : Geometry). items_of_shapes f.shapes) h hs) ∙ map-append is_some (items_of_shapes h.shapes) (items_of hs)

same_active : (xs ys : List (Option BoxValue)) → map is_some xs ≡ map is_some ys → (p : ℕ) → active xs p ≡ active ys p
same_active [] [] e p = refl
same_active [] (y ∷ ys) e p = absurd cc
same_active (x ∷ xs) [] e p = absurd cc
same_active (x ∷ xs) (y ∷ ys) e zero = ap (λ b. if b then 1 else 0) (same_heads (is_some x) (is_some y) (map is_some xs) (map is_some ys) e)
same_active (x ∷ xs) (y ∷ ys) e (suc p) = same_active xs ys (same_tails (is_some x) (is_some y) (map is_some xs) (map is_some ys) e) p

-- the tree of an update of as many geometries of the old kinds and counts is the old tree refit
pub update-refits : (r : Option BottomWithTree) (gs : List Geometry) (flags : BuildFlags) (tree : TreeValue) → IfSome r (CanRefit gs)
    → IsTreeOf (option_map (λ b. b.tree) r) flags (items_of gs) tree
    → IfSome r (λ old. IsUpdateOf old.geometries gs → IsRefit old.tree (items_of gs) tree)
update-refits None gs flags tree can is = tt
update-refits (Some old) gs flags tree can is = λ like.
    is.refit (record {
      active_once = λ p. can.over.active_once p
          ∙ sym (same_active (items_of gs) (items_of old.geometries) (all_kept old.geometries gs can.kept like.kinds like.counts) p);
    })
